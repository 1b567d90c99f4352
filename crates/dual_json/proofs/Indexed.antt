-- A map from names to their first places, place by place.
use Rattle.std.proofs.Common.{◌≡◌, ℕ, suc, ◌+◌, ◌<◌, List, length, true, false, cond, Some, None, sym, ap, ◌∙◌, subst, inl, inr, arith}
use Rattle.std.specs.HashMap.{HashMap, get}
use Rattle.std.specs.Cmp.{eq_by_cmp_equiv}
use Rattle.std.specs.Option.{option_or, option_map, unwrap_or}
use Rattle.std.proofs.lemmas.Bool.{cases_Bool, cond-true, cond-false}
use Rattle.audit_model.specs.declared.fault.GraphFault.TheVariants as fault
use Rattle.audit_model.specs.declared.setting.Label.{Label}
use Rattle.audit_model.specs.Below.{any_below}
use Rattle.audit_model.specs.First.{first_below}
use Rattle.audit_model.specs.Label.{same_label}
use Rattle.audit_model.proofs.Options.{or_nothing}
use Rattle.audit_model.proofs.First.{first_below_same, first_below_more, first_below_here, any_from_none, any_from_some}
use Rattle.dual_json.specs.Names.{label_from, label_total, same_name}
use Rattle.dual_json.specs.Places.{nth, repeated_label, IsLabelIndex}
use Rattle.dual_json.specs.declared.names.NodeName.{NodeName}

-- equality of labels is symmetric
pub same_turned : (a b : Label) → same_label a b ≡ same_label b a
same_turned a b = (eq_by_cmp_equiv label_total).symm a b

-- equal labels are equal to the same labels
pub same_alike : (a b c : Label) → same_label a b ≡ true → same_label a c ≡ same_label b c
same_alike a b c e = (eq_by_cmp_equiv label_total).congr a b c e

-- the map covers the places below j, whose labels are distinct
pub record IsIndexed {S : Type 0} (labels : List Label) (j : ℕ) (places : HashMap NodeName ℕ S) : Type 0 where
  pub leads : (q : NodeName) → get same_name places q ≡ first_below j (λ i. same_label (label_from q) (nth labels i))
  pub none : first_below j (λ k. any_below k (λ i. same_label (nth labels i) (nth labels k))) ≡ None

module _ {S : Type 0} (labels : List Label) (j : ℕ) (places : HashMap NodeName ℕ S) (key : NodeName) (before : IsIndexed labels j places) (at : nth labels j ≡ label_from key) where
  turned : (i : ℕ) → same_label (label_from key) (nth labels i) ≡ same_label (nth labels i) (nth labels j)
  turned i = same_turned (label_from key) (nth labels i) ∙ ap (same_label (nth labels i)) (sym at)

  pub repeated_here : (first : ℕ) → j < length labels → get same_name places key ≡ Some first → repeated_label labels ≡ Some (fault.SameId first j)
  repeated_here first l found =
      let one : first_below j (λ i. same_label (nth labels i) (nth labels j)) ≡ Some first =
      sym (first_below_same j (λ i. same_label (label_from key) (nth labels i)) (λ i. same_label (nth labels i) (nth labels j)) (λ i under. turned i)) ∙ sym (before.leads key) ∙ found in
      ap (option_map (λ k. fault.SameId (unwrap_or (first_below k (λ i. same_label (nth labels i) (nth labels k))) 0) k))
      (first_below_here (length labels) j (λ k. any_below k (λ i. same_label (nth labels i) (nth labels k))) before.none l
      (any_from_some j (λ i. same_label (nth labels i) (nth labels j)) first one))
      ∙ ap (λ o. Some (fault.SameId (unwrap_or o 0) j)) one

  module _ (new : HashMap NodeName ℕ S) (absent : get same_name places key ≡ None)
      (updates : (q : NodeName) → get same_name new q ≡ cond (same_name key q) (Some j) (get same_name places q)) where
    one_more : (q : NodeName) → get same_name new q ≡ option_or (first_below j (λ i. same_label (label_from q) (nth labels i))) (cond (same_label (label_from q) (nth labels j)) (Some j) None)
    one_more q = elim (cases_Bool (same_label (label_from key) (label_from q))) [
      | inl same ↦
          let back : same_label (label_from q) (label_from key) ≡ true = same_turned (label_from q) (label_from key) ∙ same in
          let none : first_below j (λ i. same_label (label_from q) (nth labels i)) ≡ None =
          first_below_same j (λ i. same_label (label_from q) (nth labels i)) (λ i. same_label (label_from key) (nth labels i)) (λ i under. same_alike (label_from q) (label_from key) (nth labels i) back)
          ∙ sym (before.leads key) ∙ absent in
          let here : same_label (label_from q) (nth labels j) ≡ true = ap (same_label (label_from q)) at ∙ back in
          updates q ∙ cond-true (same_name key q) (Some j) (get same_name places q) same
          ∙ sym (ap (λ o. option_or o (cond (same_label (label_from q) (nth labels j)) (Some j) None)) none ∙ cond-true (same_label (label_from q) (nth labels j)) (Some j) None here)
      | inr off ↦
          let here : same_label (label_from q) (nth labels j) ≡ false = ap (same_label (label_from q)) at ∙ same_turned (label_from q) (label_from key) ∙ off in
          updates q ∙ cond-false (same_name key q) (Some j) (get same_name places q) off ∙ before.leads q
          ∙ sym (ap (λ o. option_or (first_below j (λ i. same_label (label_from q) (nth labels i))) o) (cond-false (same_label (label_from q) (nth labels j)) (Some j) None here)
          ∙ or_nothing (first_below j (λ i. same_label (label_from q) (nth labels i))))
    ]

    pub indexed_more : IsIndexed labels (j + 1) new
    indexed_more =
        let next : suc j ≡ j + 1 = omega arith in
        record {
          leads = λ q. one_more q ∙ ap (λ m. first_below m (λ i. same_label (label_from q) (nth labels i))) next;
          none = first_below_more j (λ k. any_below k (λ i. same_label (nth labels i) (nth labels k))) before.none
              (any_from_none j (λ i. same_label (nth labels i) (nth labels j))
              (sym (first_below_same j (λ i. same_label (label_from key) (nth labels i)) (λ i. same_label (nth labels i) (nth labels j)) (λ i under. turned i)) ∙ sym (before.leads key) ∙ absent));
        }

-- once all labels are in the map, they are distinct, and it gives the place of each
pub indexed_all : {S : Type 0} (labels : List Label) (j : ℕ) (places : HashMap NodeName ℕ S) → j ≡ length labels → IsIndexed labels j places → (repeated_label labels ≡ None) × IsLabelIndex labels places
indexed_all labels j places all is = (
  ap (option_map (λ k. fault.SameId (unwrap_or (first_below k (λ i. same_label (nth labels i) (nth labels k))) 0) k))
      (subst (λ (m : ℕ). first_below m (λ k. any_below k (λ i. same_label (nth labels i) (nth labels k))) ≡ None) all is.none),
  λ q. is.leads q ∙ ap (λ m. first_below m (λ i. same_label (label_from q) (nth labels i))) all,
)
