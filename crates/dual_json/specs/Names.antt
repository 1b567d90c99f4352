-- Names as labels, and the order of labels.
use Rattle.std.proofs.Common.{sym, ap, ◌∙◌}
use Rattle.std.specs.Prelude.{◌≡◌, Bool, true, refl, Some}
use Rattle.std.specs.Cmp.{IsTotalOrder, IsEquivalence, IsPartialEquivalence, IsPartialOrder, int_cmp_total, eq_by_cmp_equiv, partial_equiv_from_equiv, on_total, po, signed_Decides}
use Rattle.std.specs.Cmp.Lexicographic.{nat_list_cmp_total, same_text, texts_ties}
use Rattle.std.specs.Hash.{HashWrites}
use Rattle.std.specs.Hash as fed
use Rattle.std.specs.Ordering.{ordering_reverse}
use Rattle.std.specs.declared.cmp.Ordering.{Ordering}
use Rattle.std.specs.declared.cmp.Ordering.TheVariants.{Less, Equal}
use Rattle.audit_model.specs.declared.setting.Label.{Label}
use Rattle.audit_model.specs.declared.setting.Label.TheVariants.{Whole, Word}
use Rattle.audit_model.specs.Label.{label_cmp, same_label}
use Rattle.dual_json.specs.declared.names.NodeName.{NodeName}
use Rattle.dual_json.specs.declared.names.NodeName.TheVariants as name

-- the label of a name
abbrev pub label_from : NodeName → Label
label_from (name.Whole n) = Whole n
label_from (name.Word s) = Word s.now

-- the order of names
abbrev pub name_cmp : NodeName → NodeName → Ordering
name_cmp a b = label_cmp (label_from a) (label_from b)

abbrev pub same_name : NodeName → NodeName → Bool
same_name a b = same_label (label_from a) (label_from b)

-- the input of a hasher: the label's number or bytes
abbrev pub label_writes : Label → HashWrites
label_writes (Whole n) = fed.i128 n
label_writes (Word s) = fed.str s

abbrev pub name_writes : NodeName → HashWrites
name_writes name = label_writes (label_from name)

-- ---- the order is total

antisymm : (x y : Label) → label_cmp x y ≡ ordering_reverse (label_cmp y x)
antisymm (Whole a) (Whole b) = int_cmp_total.antisymm a b
antisymm (Whole a) (Word t) = refl
antisymm (Word s) (Whole b) = refl
antisymm (Word s) (Word t) = nat_list_cmp_total.antisymm s t

trans : (x y z : Label) → label_cmp x y ≡ Less → label_cmp y z ≡ Less → label_cmp x z ≡ Less
trans (Whole a) (Whole b) (Whole c) p q = int_cmp_total.trans a b c p q
trans (Whole a) (Whole b) (Word u) p q = refl
trans (Whole a) (Word t) (Whole c) p q = cc q
trans (Whole a) (Word t) (Word u) p q = refl
trans (Word s) (Whole b) (Whole c) p q = cc p
trans (Word s) (Whole b) (Word u) p q = cc p
trans (Word s) (Word t) (Whole c) p q = cc q
trans (Word s) (Word t) (Word u) p q = nat_list_cmp_total.trans s t u p q

congr : (x y z : Label) → label_cmp x y ≡ Equal → label_cmp x z ≡ label_cmp y z
congr (Whole a) (Whole b) (Whole c) p = int_cmp_total.congr a b c p
congr (Whole a) (Whole b) (Word u) p = refl
congr (Whole a) (Word t) (Whole c) p = cc p
congr (Whole a) (Word t) (Word u) p = cc p
congr (Word s) (Whole b) (Whole c) p = cc p
congr (Word s) (Whole b) (Word u) p = cc p
congr (Word s) (Word t) (Whole c) p = refl
congr (Word s) (Word t) (Word u) p = nat_list_cmp_total.congr s t u p

pub label_total : IsTotalOrder label_cmp
label_total = record { antisymm = antisymm; trans = trans; congr = congr }

pub name_equiv : IsEquivalence same_name
name_equiv = eq_by_cmp_equiv (on_total label_from label_total)

pub name_total : IsTotalOrder name_cmp
name_total = on_total label_from label_total

pub name_per : IsPartialEquivalence same_name
name_per = partial_equiv_from_equiv name_equiv

pub name_po : IsPartialOrder same_name (λ a b. Some (name_cmp a b))
name_po = po name_total (λ a b. refl)

-- ---- equal names hash equally

same_is : (a b : Label) → same_label a b ≡ true → a ≡ b
same_is (Whole a) (Whole b) e = ap Whole ((signed_Decides a b).0 e)
same_is (Whole a) (Word t) e = cc e
same_is (Word s) (Whole b) e = cc e
same_is (Word s) (Word t) e = ap Word (same_text s t (sym (texts_ties s t ∙ e)))

pub name_hashes : (a b : NodeName) → same_name a b ≡ true → name_writes a ≡ name_writes b
name_hashes a b same = ap label_writes (same_is (label_from a) (label_from b) same)
