-- The stop that correct outcomes decide is the stop of all endpoints.
use Rattle.std.proofs.Common.{◌≡◌, ℕ, zero, suc, ◌+◌, ◌<◌, ◌≤◌, ◌⊎◌, Bool, true, false, cond, not, ◌||◌, ◌==◌, List, [], ◌∷◌, ◌++◌, length, map, filter, Option, Some, None, refl, sym, ap, ◌∙◌, subst, inl, inr, arith, append_assoc}
use Rattle.std.specs.Prelude.{nat_le, find, unwrap_or, option_map, ℤ, pos}
use Rattle.std.specs.List.{All}
use Rattle.std.specs.Option.{option_or}
use Rattle.std.proofs.lemmas.Bool.{cases_eq, cases_Bool, or_cases, or_right, eq-eqb, eqb-true, leb-true, le-leb, false_from_ne_true, not_from_true, not-false}
use Rattle.std.proofs.lemmas.List.{map-append}
use Rattle.std.proofs.lemmas.List.Elements.{filter-append}
use Rattle.audit_model.specs.declared.outcome.Outcome.{Outcome}
use Rattle.audit_model.specs.declared.outcome.Stop.{Stop}
use Rattle.audit_model.specs.declared.setting.Ask.{Ask}
use Rattle.audit_model.specs.Below.{map_below}
use Rattle.audit_model.specs.First.{first_below}
use Rattle.audit_model.specs.Job.{Job}
use Rattle.audit_model.specs.Run.{IsRight, has_id}
use Rattle.audit_model.specs.Stopping.{count_in_tail, end_values, ends_before_gap, known_values, stop_of_known, some_if, stop_of, value_with_id}
use Rattle.audit_model.specs.Trajectory.{Draws, outcome, plan_value, sequence, value_at}
use Rattle.audit_model.proofs.Stopped.{stop_is_decided}
use Rattle.audit_model.proofs.First.{none_first_below}
use Rattle.audit_model.proofs.Fitting.{outcome_id}
use Rattle.audit_model.proofs.Below.{length-map_below, map_below_same}

-- ---- consequences of correct outcomes

-- a predicate that holds for all members holds for all after the first
all_rest : {X : Type 0} (P : X → Type 0) (x : X) (xs : List X) → All P (x ∷ xs) → All P xs
all_rest P x xs each = λ k d l. each (suc k) d (omega (arith, l))

-- the value with an id is that of its trajectory
found_value : (job : Job) (draws : Draws) (place : ℕ) (outcomes : List Outcome) (id : ℕ) → All (λ o. o ≡ outcome job draws o.id) outcomes
    → has_id outcomes id ≡ true → value_with_id place outcomes id ≡ value_at (outcome job draws id) place
found_value job draws place [] id each h = cc
found_value job draws place (o ∷ rest) id each h = elim (cases_Bool (o.id == id)) [
  | inl hit ↦
      ap (λ t. unwrap_or (option_map (λ o. value_at o place) (cond t (Some o) (find (λ o. o.id == id) rest))) (pos 0)) hit
      ∙ ap (λ x. value_at x place) (each zero o (omega arith) ∙ ap (outcome job draws) (eqb-true o.id id hit))
  | inr fails ↦
      let later : has_id rest id ≡ true = sym (ap (λ t. t || has_id rest id) fails) ∙ h in
      ap (λ t. unwrap_or (option_map (λ o. value_at o place) (cond t (Some o) (find (λ o. o.id == id) rest))) (pos 0)) fails
      ∙ found_value job draws place rest id (all_rest (λ o. o ≡ outcome job draws o.id) o rest each) later
]

-- a longer list of values by place begins with a shorter one
later_values : (g n : ℕ) (f : ℕ → ℤ) → g ≤ n → (later : List ℤ) × (map_below n f ≡ map_below g f ++ later)
later_values g zero f l = let e : g ≡ zero = omega (arith, l) in ([], ap (λ k. map_below k f ++ []) (sym e))
later_values g (suc n) f l = elim (cases_eq g (suc n)) [
  | inl e ↦ ([], sym (nothing_more (map_below g f) ∙ ap (λ k. map_below k f) e))
  | inr off ↦
      let before = later_values g n f (omega arith) in
      (before.0 ++ f n ∷ [], ap (λ xs. xs ++ f n ∷ []) before.1 ∙ append_assoc (map_below g f) before.0 (f n ∷ []))
]
  where
    nothing_more : (xs : List ℤ) → xs ++ [] ≡ xs
    nothing_more [] = refl
    nothing_more (x ∷ xs) = ap (λ rest. x ∷ rest) (nothing_more xs)

-- ---- the first that fails

pub record IsFirst (n : ℕ) (test : ℕ → Bool) (first : ℕ) : Type 0 where
  pub within : first ≤ n
  pub before : (k : ℕ) → k < first → test k ≡ false

-- the first number that passes, or the bound, is the first of all numbers below the bound
first_more : (n : ℕ) (test : ℕ → Bool) (o : Option ℕ) → IsFirst n test (unwrap_or o n)
    → IsFirst (suc n) test (unwrap_or (option_or o (cond (test n) (Some n) None)) (suc n))
first_more n test (Some j) h = record { within = omega (arith, h.within); before = h.before }
first_more n test None h = elim (cases_Bool (test n)) [
  | inl hit ↦ subst (λ t. IsFirst (suc n) test (unwrap_or (cond t (Some n) None) (suc n))) (sym hit) (record { within = omega arith; before = h.before })
  | inr fails ↦ subst (λ t. IsFirst (suc n) test (unwrap_or (cond t (Some n) None) (suc n))) (sym fails) (record {
    within = omega arith;
    before = λ k l. elim (cases_eq k n) [
      | inl e ↦ subst (λ m. test m ≡ false) (sym e) fails
      | inr off ↦ h.before k (omega arith)
    ];
  })
]

-- the search below any bound finds the first number that passes
first_is : (n : ℕ) (test : ℕ → Bool) → IsFirst n test (unwrap_or (first_below n test) n)
first_is zero test = record { within = omega arith; before = λ k l. absurd (omega (arith, l)) }
first_is (suc n) test = first_more n test (first_below n test) (first_is n test)

-- if a conditional answer is there, its condition holds and it is this answer
some_parts : (b : Bool) (x s : Stop) → some_if b x ≡ Some s → (b ≡ true) × (x ≡ s)
some_parts true x s h = (refl, ap (λ o. unwrap_or o x) h)
some_parts false x s h = cc

-- ---- all ends

module _ (job : Job) (draws : Draws) (place : ℕ) where
  abbrev walks : ℕ
  walks = job.setting.walks

  -- the value of the endpoint at a place
  abbrev end_value : ℕ → ℤ
  end_value j = value_at (outcome job draws (walks + j)) place

  abbrev is_end : Outcome → Bool
  is_end o = nat_le job.setting.walks o.id

  value_of : Outcome → ℤ
  value_of o = value_at o place

  no_walks : (n : ℕ) → n ≤ walks → filter is_end (map_below n (outcome job draws)) ≡ []
  no_walks zero l = refl
  no_walks (suc n) l =
      let fails : is_end (outcome job draws n) ≡ false = false_from_ne_true (is_end (outcome job draws n)) (λ h.
      let le = leb-true walks (outcome job draws n).id h in omega (arith, l, le, outcome_id job draws n)) in
      filter-append is_end (map_below n (outcome job draws)) (outcome job draws n ∷ [])
      ∙ ap (λ xs. xs ++ filter is_end (outcome job draws n ∷ [])) (no_walks n (omega (arith, l)))
      ∙ ap (λ b. cond b (outcome job draws n ∷ []) []) fails

  ends_by_place : (e : ℕ) → map value_of (filter is_end (map_below (walks + e) (outcome job draws))) ≡ map_below e (λ j. value_of (outcome job draws (walks + j)))
  ends_by_place zero =
      let same : walks + zero ≡ walks = omega arith in
      ap (λ n. map value_of (filter is_end (map_below n (outcome job draws)))) same
      ∙ ap (map value_of) (no_walks walks (omega arith))
  ends_by_place (suc e) =
      let more : walks + suc e ≡ suc (walks + e) = omega arith in
      let o : Outcome = outcome job draws (walks + e) in
      let hit : is_end o ≡ true = le-leb walks o.id (omega (arith, outcome_id job draws (walks + e))) in
      ap (λ n. map value_of (filter is_end (map_below n (outcome job draws)))) more
      ∙ ap (map value_of) (filter-append is_end (map_below (walks + e) (outcome job draws)) (o ∷ [])
      ∙ ap (λ b. filter is_end (map_below (walks + e) (outcome job draws)) ++ cond b (o ∷ []) []) hit)
      ∙ map-append value_of (filter is_end (map_below (walks + e) (outcome job draws))) (o ∷ [])
      ∙ ap (λ xs. xs ++ value_of o ∷ []) (ends_by_place e)

  all_ends : end_values job place (sequence job draws) ≡ map_below job.setting.ends end_value
  unfolding sequence value_of
  all_ends = ends_by_place job.setting.ends

  module _ (outcomes : List Outcome) (right : IsRight job draws outcomes) where
    abbrev gap : ℕ
    gap = ends_before_gap job outcomes

    gap_is_first : IsFirst job.setting.ends (λ j. not (has_id outcomes (walks + j))) gap
    gap_is_first = first_is job.setting.ends (λ j. not (has_id outcomes (walks + j)))

    known_are : known_values job place outcomes ≡ map_below gap end_value
    known_are = map_below_same gap (λ j. value_with_id place outcomes (walks + j)) end_value (λ j l.
        found_value job draws place outcomes (walks + j) right.found (not-false (has_id outcomes (walks + j)) (gap_is_first.before j l)))

    final_by : (ask : Ask) (enough : ℕ) (s : Stop)
        → (nat_le enough (count_in_tail ask.tail (plan_value job job.start ask.score) (known_values job place outcomes)) ≡ true)
        ⊎ ((length (known_values job place outcomes) == job.setting.ends) ≡ true)
        → stop_of job (place, ask) (end_values job place (sequence job draws)) enough ≡ stop_of job (place, ask) (known_values job place outcomes) enough
    final_by ask enough s (inl h) =
        let more = later_values gap job.setting.ends end_value gap_is_first.within in
        let whole : end_values job place (sequence job draws) ≡ known_values job place outcomes ++ more.0 =
        all_ends ∙ more.1 ∙ ap (λ xs. xs ++ more.0) (sym known_are) in
        ap (λ values. stop_of job (place, ask) values enough) whole
        ∙ stop_is_decided ask.tail (plan_value job job.start ask.score) (known_values job place outcomes) more.0 enough
        (leb-true enough (count_in_tail ask.tail (plan_value job job.start ask.score) (known_values job place outcomes)) h)
    final_by ask enough s (inr h) =
        let long = ap (length {A = ℤ}) known_are ∙ length-map_below gap end_value in
        let all : gap ≡ job.setting.ends = sym long ∙ eqb-true (length (known_values job place outcomes)) job.setting.ends h in
        ap (λ values. stop_of job (place, ask) values enough) (all_ends ∙ ap (λ n. map_below n end_value) (sym all) ∙ sym known_are)

    pub decided_is_final : (ask : Ask) (enough : ℕ) (s : Stop) → stop_of_known job (place, ask) enough outcomes ≡ Some s
        → s ≡ stop_of job (place, ask) (end_values job place (sequence job draws)) enough
    decided_is_final ask enough s h =
        let enough_there : Bool = nat_le enough (count_in_tail ask.tail (plan_value job job.start ask.score) (known_values job place outcomes)) in
        let all_there : Bool = length (known_values job place outcomes) == job.setting.ends in
        let parts = some_parts (enough_there || all_there) (stop_of job (place, ask) (known_values job place outcomes) enough) s h in
        sym (final_by ask enough s (or_cases enough_there all_there parts.0) ∙ parts.1)

-- ---- no endpoint is missing

-- if no endpoint is missing, the test has stopped
pub all_are_decided : (job : Job) (place : ℕ) (ask : Ask) (enough : ℕ) (outcomes : List Outcome)
    → ((j : ℕ) → j < job.setting.ends → has_id outcomes (job.setting.walks + j) ≡ true)
    → stop_of_known job (place, ask) enough outcomes ≡ Some (stop_of job (place, ask) (known_values job place outcomes) enough)
all_are_decided job place ask enough outcomes there =
    let known : ends_before_gap job outcomes ≡ job.setting.ends =
    ap (λ o. unwrap_or o job.setting.ends) (none_first_below job.setting.ends (λ j. not (has_id outcomes (job.setting.walks + j)))
    (λ k l. not_from_true (has_id outcomes (job.setting.walks + k)) (there k l))) in
    let values = known_values job place outcomes in
    let long : length values ≡ job.setting.ends =
    length-map_below (ends_before_gap job outcomes) (λ j. value_with_id place outcomes (job.setting.walks + j)) ∙ known in
    let enough_there : Bool = nat_le enough (count_in_tail ask.tail (plan_value job job.start ask.score) values) in
    ap (λ b. some_if b (stop_of job (place, ask) values enough))
    (or_right enough_there (length values == job.setting.ends) (eq-eqb (length values) job.setting.ends long))
