-- The units that records name, record by record.
use Rattle.std.proofs.Common.{◌≡◌, ◌<◌, ◌+◌, ◌++◌, ℕ, suc, List, [], ◌∷◌, length, bytes_eq, not, Some, None, sym, ap, ◌∙◌, subst, inl, inr, arith, length-append}
use Rattle.std.specs.List.{slice_index_or}
use Rattle.std.specs.Map.{lookup}
use Rattle.std.specs.Option.{option_map}
use Rattle.std.specs.Cmp.Lexicographic.{slice_cmp}
use Rattle.std.specs.Ordering.{is_eq, nat_cmp}
use Rattle.std.proofs.lemmas.Bool.{cases_eq}
use Rattle.audit_model.specs.Below.{any_below}
use Rattle.audit_model.specs.First.{first_below}
use Rattle.audit_model.specs.declared.fault.TableFault.TheVariants as fault
use Rattle.audit_model.specs.declared.setting.Label.{Label}
use Rattle.audit_model.proofs.First.{first_below_more, first_below_here, any_from_none, any_from_some}
use Rattle.audit_statement.specs.Table.{unit_text, names_unit, unknown_id}
use Rattle.plan_csv.specs.Stages.{IsUnitIndex, AreUnits}
use Rattle.plan_csv.proofs.Pushed.{push_same, push_other}

pub record IsUnited (ids : List Label) (rows : List (List (List ℕ))) (j : ℕ) (units : List ℕ) : Type 0 where
  pub none : first_below j (λ e. not (any_below (length ids) (names_unit ids [] rows e))) ≡ None
  pub count : length units ≡ j
  pub each : (e : ℕ) → e < j → first_below (length ids) (names_unit ids [] rows e) ≡ Some (slice_index_or units e 0)

module _ {K : Type 0} (text : K → List ℕ) (ids : List Label) (index : List (K × ℕ)) (is : IsUnitIndex text ids index) (rows : List (List (List ℕ))) (j : ℕ) (units : List ℕ) (before : IsUnited ids rows j units)
    (q : List ℕ) (at : slice_index_or (slice_index_or rows j []) 0 [] ≡ q) where
  found_at : first_below (length ids) (names_unit ids [] rows j) ≡ lookup (λ k. is_eq (slice_cmp nat_cmp q (text k))) index
  found_at = ap (λ t. first_below (length ids) (λ u. bytes_eq t (unit_text ids [] [] u))) at ∙ sym (is q)

  pub unknown_here : j < length rows → lookup (λ k. is_eq (slice_cmp nat_cmp q (text k))) index ≡ None → unknown_id ids [] rows ≡ Some (fault.UnknownId (suc j))
  unknown_here l none =
      ap (option_map (λ entry. fault.UnknownId (suc entry)))
      (first_below_here (length rows) j (λ e. not (any_below (length ids) (names_unit ids [] rows e))) before.none l
      (ap not (any_from_none (length ids) (names_unit ids [] rows j) (found_at ∙ none))))

  pub united_more : (unit : ℕ) (new : List ℕ) → lookup (λ k. is_eq (slice_cmp nat_cmp q (text k))) index ≡ Some unit → new ≡ units ++ unit ∷ [] → IsUnited ids rows (j + 1) new
  united_more unit new found made = record {
    none = first_below_more j (λ e. not (any_below (length ids) (names_unit ids [] rows e))) before.none
        (ap not (any_from_some (length ids) (names_unit ids [] rows j) unit (found_at ∙ found)));
    count = omega (arith, ap length made, length-append units (unit ∷ []), before.count);
    each = λ e l. elim (cases_eq e j) [
      | inl same ↦
          let place : e ≡ length units = omega (arith, same, before.count) in
          ap (λ k. first_below (length ids) (names_unit ids [] rows k)) same ∙ found_at ∙ found
          ∙ ap Some (sym (ap (λ (us : List ℕ). slice_index_or us e 0) made ∙ ap (λ k. slice_index_or (units ++ unit ∷ []) k 0) place ∙ push_same units unit 0))
      | inr off ↦
          let earlier : e < j = omega (arith, l, off) in
          let inside : e < length units = omega (arith, earlier, before.count) in
          before.each e earlier ∙ ap Some (sym (ap (λ (us : List ℕ). slice_index_or us e 0) made ∙ push_other units unit 0 e inside))
    ];
  }

-- once all records are read, no id is unknown, and each record has its unit
pub united_all : (ids : List Label) (rows : List (List (List ℕ))) (j : ℕ) (units : List ℕ) → j ≡ length rows → IsUnited ids rows j units → (unknown_id ids [] rows ≡ None) × AreUnits ids rows units
united_all ids rows j units all is = (
  ap (option_map (λ entry. fault.UnknownId (suc entry))) (subst (λ (m : ℕ). first_below m (λ e. not (any_below (length ids) (names_unit ids [] rows e))) ≡ None) all is.none),
  record { count = is.count ∙ all; each = λ e l. is.each e (omega (arith, l, all)) },
)
