-- The record of each unit, record by record.
use Rattle.std.proofs.Common.{◌≡◌, ◌<◌, ◌+◌, ◌++◌, ℕ, zero, suc, List, [], ◌∷◌, length, Option, Some, None, true, false, refl, sym, ap, ◌∙◌, subst, inl, inr, arith, length-append, eq-eqb, get_or-set_other, get_or-set_same, length-set}
use Rattle.std.specs.List.{slice_index_or, slice_set}
use Rattle.std.specs.Option.{option_map, option_or, is_none, is_some}
use Rattle.std.proofs.lemmas.Bool.{cases_eq, cond-false, ne_eqb}
use Rattle.audit_model.specs.Below.{any_below}
use Rattle.audit_model.specs.First.{first_below}
use Rattle.audit_model.specs.declared.fault.TableFault.TheVariants as fault
use Rattle.audit_model.proofs.Options.{or_nothing, none_from, some_from}
use Rattle.audit_model.proofs.First.{first_below_more, first_below_here, any_from_none, any_from_some}
use Rattle.plan_csv.specs.Stages.{is_of, unit_repeated, unnamed, AreFirstRecords, AreThere}
use Rattle.plan_csv.proofs.Pushed.{push_same, push_other}

pub record IsPlaced (units : List ℕ) (count j : ℕ) (places : List (Option ℕ)) : Type 0 where
  pub size : length places ≡ count
  pub none : first_below j (λ e. any_below e (is_of units (slice_index_or units e 0))) ≡ None
  pub each : (u : ℕ) → u < count → slice_index_or places u None ≡ first_below j (is_of units u)

-- appending an empty place keeps all places empty
pub blank_more : (xs : List (Option ℕ)) → ((u : ℕ) → slice_index_or xs u None ≡ None) → (u : ℕ) → slice_index_or (xs ++ None ∷ []) u None ≡ None
blank_more [] h zero = refl
blank_more [] h (suc u) = refl
blank_more (x ∷ xs) h zero = h 0
blank_more (x ∷ xs) h (suc u) = blank_more xs (λ k. h (suc k)) u

-- before the first record, no unit has a place
pub placed_none : (units : List ℕ) (count : ℕ) (places : List (Option ℕ)) → length places ≡ count → ((u : ℕ) → slice_index_or places u None ≡ None) → IsPlaced units count 0 places
placed_none units count places size blank = record { size = size; none = refl; each = λ u l. blank u }

module _ (units : List ℕ) (count j : ℕ) (places : List (Option ℕ)) (before : IsPlaced units count j places) (unit : ℕ) (at : slice_index_or units j 0 ≡ unit) (under : unit < count) where
  pub again_here : j < length units → is_some (slice_index_or places unit None) ≡ true → unit_repeated units ≡ Some (fault.Twice (suc j))
  again_here l is =
      let found = some_from (slice_index_or places unit None) is in
      let first : first_below j (is_of units unit) ≡ Some found.0 = sym (before.each unit under) ∙ found.1 in
      ap (option_map (λ e. fault.Twice (suc e)))
      (first_below_here (length units) j (λ e. any_below e (is_of units (slice_index_or units e 0))) before.none l
      (ap (λ u. any_below j (is_of units u)) at ∙ any_from_some j (is_of units unit) found.0 first))

  pub placed_more : (new : List (Option ℕ)) → is_some (slice_index_or places unit None) ≡ false → new ≡ slice_set places unit (Some j) → IsPlaced units count (j + 1) new
  placed_more new is made =
      let nothing : first_below j (is_of units unit) ≡ None = sym (before.each unit under) ∙ none_from (slice_index_or places unit None) is in
      let next : suc j ≡ j + 1 = omega arith in
      let inside : unit < length places = omega (arith, under, before.size) in
      record {
        size = ap length made ∙ length-set places unit (Some j) ∙ before.size;
        none = first_below_more j (λ e. any_below e (is_of units (slice_index_or units e 0))) before.none (ap (λ u. any_below j (is_of units u)) at ∙ any_from_none j (is_of units unit) nothing);
        each = λ u l. elim (cases_eq u unit) [
          | inl same ↦
              ap (λ (ps : List (Option ℕ)). slice_index_or ps u None) made ∙ ap (λ k. slice_index_or (slice_set places unit (Some j)) k None) same
              ∙ get_or-set_same places unit (Some j) None inside
              ∙ sym (ap (λ v. first_below (j + 1) (is_of units v)) same
              ∙ first_below_here (j + 1) j (is_of units unit) nothing (omega arith) (eq-eqb (slice_index_or units j 0) unit at))
          | inr off ↦
              let other : is_of units u j ≡ false = ne_eqb (slice_index_or units j 0) u (λ e. off (sym e ∙ at)) in
              ap (λ (ps : List (Option ℕ)). slice_index_or ps u None) made
              ∙ get_or-set_other places unit u (Some j) None off
              ∙ before.each u l
              ∙ sym (ap (λ m. first_below m (is_of units u)) (sym next)
              ∙ ap (option_or (first_below j (is_of units u))) (cond-false (is_of units u j) (Some j) None other) ∙ or_nothing (first_below j (is_of units u)))
        ];
      }

-- once all records are placed, no unit occurs twice, and each place is that of its unit
pub placed_all : (units : List ℕ) (count j : ℕ) (places : List (Option ℕ)) → j ≡ length units → IsPlaced units count j places → (unit_repeated units ≡ None) × AreFirstRecords units count places
placed_all units count j places all is = (
  ap (option_map (λ e. fault.Twice (suc e))) (subst (λ (m : ℕ). first_below m (λ e. any_below e (is_of units (slice_index_or units e 0))) ≡ None) all is.none),
  record { size = is.size; each = λ u l. is.each u l ∙ ap (λ m. first_below m (is_of units u)) all },
)

-- ---- the record of each unit

pub record IsThere (places : List (Option ℕ)) (j : ℕ) (records : List ℕ) : Type 0 where
  pub none : first_below j (λ u. is_none (slice_index_or places u None)) ≡ None
  pub count : length records ≡ j
  pub each : (u : ℕ) → u < j → slice_index_or places u None ≡ Some (slice_index_or records u 0)

module _ (places : List (Option ℕ)) (j : ℕ) (records : List ℕ) (before : IsThere places j records) where
  pub unnamed_here : j < length places → slice_index_or places j None ≡ None → unnamed places ≡ Some (fault.MissingUnit j)
  unnamed_here l is = ap (option_map fault.MissingUnit) (first_below_here (length places) j (λ u. is_none (slice_index_or places u None)) before.none l (ap is_none is))

  pub there_more : (last : ℕ) (new : List ℕ) → slice_index_or places j None ≡ Some last → new ≡ records ++ last ∷ [] → IsThere places (j + 1) new
  there_more last new is made = record {
    none = first_below_more j (λ u. is_none (slice_index_or places u None)) before.none (ap is_none is);
    count = omega (arith, ap length made, length-append records (last ∷ []), before.count);
    each = λ u l. elim (cases_eq u j) [
      | inl same ↦
          let place : u ≡ length records = omega (arith, same, before.count) in
          ap (λ k. slice_index_or places k None) same ∙ is
          ∙ ap Some (sym (ap (λ (rs : List ℕ). slice_index_or rs u 0) made ∙ ap (λ k. slice_index_or (records ++ last ∷ []) k 0) place ∙ push_same records last 0))
      | inr off ↦
          let earlier : u < j = omega (arith, l, off) in
          let inside : u < length records = omega (arith, earlier, before.count) in
          before.each u earlier ∙ ap Some (sym (ap (λ (rs : List ℕ). slice_index_or rs u 0) made ∙ push_other records last 0 u inside))
    ];
  }

-- once all places are read, no unit is missing, and each record is present
pub there_all : (places : List (Option ℕ)) (j : ℕ) (records : List ℕ) → j ≡ length places → IsThere places j records → (unnamed places ≡ None) × AreThere places records
there_all places j records all is = (
  ap (option_map fault.MissingUnit) (subst (λ (m : ℕ). first_below m (λ u. is_none (slice_index_or places u None)) ≡ None) all is.none),
  record { size = is.count ∙ all; each = λ u l. is.each u (omega (arith, l, all)) },
)
