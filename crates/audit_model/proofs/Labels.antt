-- Equality of labels.
use Rattle.std.proofs.Common.{◌≡◌, refl, true, ap, sym, ◌∙◌}
use Rattle.std.specs.Cmp.{signed_Decides}
use Rattle.std.proofs.lemmas.Bool.{false≢true}
use Rattle.std.proofs.lemmas.Map.Text.{is_eq-slice_cmp}
use Rattle.std.proofs.lemmas.Slice.Eq.{bytes_eq-Decides}
use Rattle.audit_model.specs.declared.setting.Label.{Label}
use Rattle.audit_model.specs.declared.setting.Label.TheVariants.{Whole, Word}
use Rattle.audit_model.specs.Label.{same_label}

-- labels that pass the test of equality are equal
pub same_equal : (a b : Label) → same_label a b ≡ true → a ≡ b
same_equal (Whole a) (Whole b) e = ap Whole ((signed_Decides a b).0 e)
same_equal (Whole a) (Word t) e = absurd (false≢true e)
same_equal (Word s) (Whole b) e = absurd (false≢true e)
same_equal (Word s) (Word t) e = ap Word ((bytes_eq-Decides s t).0 (sym (is_eq-slice_cmp s t) ∙ e))

-- a label passes the test with itself
pub same_itself : (a : Label) → same_label a a ≡ true
same_itself (Whole a) = (signed_Decides a a).1 refl
same_itself (Word s) = is_eq-slice_cmp s s ∙ (bytes_eq-Decides s s).1 refl

-- equal labels pass the test
pub equal_same : (a b : Label) → a ≡ b → same_label a b ≡ true
equal_same a b e = ap (same_label a) (sym e) ∙ same_itself a
