-- The names of several objects, one after another.
use Rattle.std.proofs.Common.{◌≡◌, ℕ, zero, suc, ◌+◌, ◌<◌, List, [], ◌∷◌, ◌++◌, length, get_or, Some, None, refl, sym, ap, ◌∙◌, subst, inl, inr, arith, length-append}
use Rattle.std.specs.Option.{is_none}
use Rattle.std.proofs.lemmas.Bool.{cases_eq}
use Rattle.std.proofs.lemmas.List.{length-map, ext_get_or}
use Rattle.audit_model.specs.Below.{map_below}
use Rattle.audit_model.specs.First.{first_below}
use Rattle.audit_model.specs.declared.setting.Label.TheVariants.{Word}
use Rattle.audit_model.proofs.Below.{length-map_below, get_or-map_below}
use Rattle.audit_model.proofs.First.{first_below_more}
use Rattle.serde_json.specs.Data.{Data}
use Rattle.dual_json.specs.Names.{label_from}
use Rattle.dual_json.specs.Places.{label_at_key, object_at, nth, labels_from, first_unnamed, AreLabels}
use Rattle.dual_json.specs.declared.names.NodeName.{NodeName}

-- the appended name's label is the last one
pub nth-push_same : (names : List NodeName) (name : NodeName) → nth (labels_from (names ++ name ∷ [])) (length names) ≡ label_from name
nth-push_same [] name = refl
nth-push_same (x ∷ names) name = nth-push_same names name

-- appending keeps the earlier labels
pub nth-push_other : (names : List NodeName) (name : NodeName) (k : ℕ) → k < length names → nth (labels_from (names ++ name ∷ [])) k ≡ nth (labels_from names) k
nth-push_other [] name k l = absurd (omega arith)
nth-push_other (x ∷ names) name zero l = refl
nth-push_other (x ∷ names) name (suc k) l = nth-push_other names name k (omega arith)

-- the label at a position is that of the name there, for any default
pub nth_get : (names : List NodeName) (k : ℕ) (d : NodeName) → k < length names → nth (labels_from names) k ≡ label_from (get_or names k d)
nth_get [] k d l = absurd (omega arith)
nth_get (x ∷ names) zero d l = refl
nth_get (x ∷ names) (suc k) d l = nth_get names k d (omega arith)

-- the first objects have these names
pub record AreNamed (key : List ℕ) (objects : List Data) (i : ℕ) (names : List NodeName) : Type 0 where
  pub none : first_below i (λ k. is_none (label_at_key key (object_at objects k))) ≡ None
  pub count : length names ≡ i
  pub each : (k : ℕ) → k < i → label_at_key key (object_at objects k) ≡ Some (nth (labels_from names) k)

-- one more object's name is appended
pub named_more : (key : List ℕ) (objects : List Data) (i : ℕ) (names new : List NodeName) (name : NodeName) (d : Data) → AreNamed key objects i names → object_at objects i ≡ d
    → Some (label_from name) ≡ label_at_key key d → new ≡ names ++ name ∷ [] → AreNamed key objects (i + 1) new
named_more key objects i names new name d before at named is = record {
  none = first_below_more i (λ k. is_none (label_at_key key (object_at objects k))) before.none (ap is_none here);
  count = omega (arith, ap length is, length-append names (name ∷ []), before.count);
  each = λ k l. elim (cases_eq k i) [
    | inl e ↦
        let place : length names ≡ k = omega (arith, before.count, e) in
        ap (λ j. label_at_key key (object_at objects j)) e ∙ here
        ∙ ap Some (sym (ap (λ (ns : List NodeName). nth (labels_from ns) k) is ∙ ap (λ j. nth (labels_from (names ++ name ∷ [])) j) (sym place) ∙ nth-push_same names name))
    | inr off ↦
        let inside : k < length names = omega (arith, before.count, l, off) in
        before.each k (omega arith)
        ∙ ap Some (sym (ap (λ (ns : List NodeName). nth (labels_from ns) k) is ∙ nth-push_other names name k inside))
  ];
}
  where
    here : label_at_key key (object_at objects i) ≡ Some (label_from name)
    here = ap (label_at_key key) at ∙ sym named

-- once all objects are named, none is unnamed, and the labels are theirs
pub named_all : (key : List ℕ) (objects : List Data) (i : ℕ) (names : List NodeName) → i ≡ length objects → AreNamed key objects i names
    → (first_unnamed key objects ≡ None) × AreLabels key objects (labels_from names)
named_all key objects i names all before = (
  subst (λ (m : ℕ). first_below m (λ k. is_none (label_at_key key (object_at objects k))) ≡ None) all before.none,
  record { count = length-map names label_from ∙ before.count ∙ all; each = λ k l. before.each k (omega (arith, l, all)) },
)

-- the labels listed by position are the labels of the names
pub labels_listed : (names : List NodeName) → map_below (length names) (nth (labels_from names)) ≡ labels_from names
labels_listed names = ext_get_or (Word []) (map_below (length names) (nth (labels_from names))) (labels_from names)
    (length-map_below (length names) (nth (labels_from names)) ∙ sym (length-map names label_from))
    (λ i l. get_or-map_below (length names) (nth (labels_from names)) i (Word []) (omega (arith, l, length-map_below (length names) (nth (labels_from names)))))
