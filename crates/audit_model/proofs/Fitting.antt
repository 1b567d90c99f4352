-- The outcome of each trajectory is plausible, with its histogram and without.
use Rattle.std.proofs.Common.{◌≡◌, ℕ, zero, suc, ◌+◌, ◌*◌, ◌<◌, ◌≤◌, ◌&&◌, ◌||◌, not, Bool, true, false, cond, List, [], ◌∷◌, ◌++◌, length, map, take, drop, refl, ap, ◌∙◌, arith}
use Rattle.std.specs.Prelude.{nat_lt, nat_le, sum, ◌==◌, ℤ, pos, negsuc, int_le}
use Rattle.std.specs.List.{list_all, slice_index_or}
use Rattle.std.specs.Ordering.{int_eq}
use Rattle.std.proofs.lemmas.Bool.{and_from, eq-eqb, le-leb, lt-ltb, or_right}
use Rattle.audit_model.specs.declared.outcome.Outcome.{Outcome}
use Rattle.audit_model.specs.declared.setting.Ask.{Ask}
use Rattle.audit_model.specs.declared.setting.Tail.{Tail}
use Rattle.audit_model.specs.declared.setting.Tail.TheVariants.{Low, High}
use Rattle.audit_model.specs.Below.{all_below, count_below}
use Rattle.audit_model.specs.Job.{Job}
use Rattle.audit_model.specs.Run.{total, steps_of, histogram_fits, fits, has_no_histogram}
use Rattle.audit_model.specs.Trajectory.{Draws, visit, plan_value, in_tail, visits_in_tail, four_values, value_at, walk_outcome, end_outcome, outcome_by, outcome_with, histogram_by, outcome}
use Rattle.audit_model.proofs.Below.{all_below_from, count_below_le}
use Rattle.audit_model.proofs.BinSums.{histogram_adds_up}

-- ---- counts

-- a number that passes counts one
pub one_of : (b : Bool) → b ≡ true → cond {A = ℕ} b 1 0 ≡ 1
one_of true e = refl
one_of false e = cc

-- if 0 passes, the count is positive
counts_first : (n : ℕ) (test : ℕ → Bool) → 0 < n → test 0 ≡ true → 1 ≤ count_below n test
unfolding count_below
counts_first zero test above first = absurd (omega arith)
counts_first (suc zero) test above first = omega (arith, one_of (test 0) first)
counts_first (suc (suc n)) test above first = omega (arith, counts_first (suc n) test (omega arith) first)

-- a value is at most itself
pub le_self : (v : ℤ) → int_le v v ≡ true
le_self (pos n) = le-leb n n (omega arith)
le_self (negsuc n) = le-leb n n (omega arith)

-- a value is in its own tail, on either side
pub in_own_tail : (tail : Tail) (v : ℤ) → in_tail tail v v ≡ true
in_own_tail Low v = le_self v
in_own_tail High v = le_self v

-- ---- values

-- the values past the asks are 0
zeros_after : (f : Ask → ℤ) (asks : List Ask) → list_all (λ v. int_eq v (pos 0)) (drop (length asks) (four_values (map f asks))) ≡ true
zeros_after f [] = refl
zeros_after f (a ∷ []) = refl
zeros_after f (a ∷ b ∷ []) = refl
zeros_after f (a ∷ b ∷ c ∷ []) = refl
zeros_after f (a ∷ b ∷ c ∷ d ∷ []) = refl
zeros_after f (a ∷ b ∷ c ∷ d ∷ e ∷ rest) = refl

-- a property of the function's values holds at each ask's place
each_value : (n : ℕ) (test : ℤ → Bool) (f : Ask → ℤ) (asks : List Ask) (zeros : List ℤ) (k : ℕ) → ((ask : Ask) → test (f ask) ≡ true)
    → length asks ≤ n → k < length asks → test (slice_index_or (take n (map f asks ++ zeros)) k (pos 0)) ≡ true
each_value n test f [] zeros k each few l = absurd (omega arith)
each_value zero test f (a ∷ asks) zeros k each few l = absurd (omega arith)
each_value (suc n) test f (a ∷ asks) zeros zero each few l = each a
each_value (suc n) test f (a ∷ asks) zeros (suc k) each few l = each_value n test f asks zeros k each (omega arith) (omega arith)

-- ---- outcomes

-- plausibility from its parts, given the kind of the trajectory
fitting : (job : Job) (o : Outcome) (walks : Bool) → nat_lt o.id job.setting.walks ≡ walks → o.id < total job → o.moved ≤ steps_of walks job
    → list_all (λ v. int_eq v (pos 0)) (drop (length job.setting.asks) o.values) ≡ true
    → (walks ≡ true → all_below (length job.setting.asks) (λ k. int_le (pos 1) (value_at o k) && int_le (value_at o k) (pos (job.setting.steps + 1))) ≡ true)
    → histogram_fits walks job o ≡ true → fits job o ≡ true
fitting job o walks e below few zeros counts bins =
    let moved : nat_le o.moved (steps_of (nat_lt o.id job.setting.walks) job) ≡ true = ap (λ (b : Bool). nat_le o.moved (steps_of b job)) e ∙ le-leb _ _ few in
    let each : Bool = all_below (length job.setting.asks) (λ k. int_le (pos 1) (value_at o k) && int_le (value_at o k) (pos (job.setting.steps + 1))) in
    and_from _ _ (and_from _ _ (and_from _ _ (and_from _ _ (lt-ltb _ _ below) moved) zeros)
    (ap (λ (b : Bool). not b || each) e ∙ by walks each counts))
    (ap (λ (b : Bool). histogram_fits b job o) e ∙ bins)
  where
    by : (b each : Bool) → (b ≡ true → each ≡ true) → (not b || each) ≡ true
    by true each f = f refl
    by false each f = refl

-- the start plan is as extreme as itself
start_in_tail : (job : Job) (stream : ℕ → ℕ) (ask : Ask)
    → in_tail ask.tail (plan_value job (visit job stream job.start 0) ask.score) (plan_value job job.start ask.score) ≡ true
unfolding visit
start_in_tail job stream ask = in_own_tail ask.tail (plan_value job job.start ask.score)

module _ (job : Job) (draws : Draws) where
  -- each count of visits is from 1 to the number of visits
  count_fits : (stream : ℕ → ℕ) (ask : Ask)
      → (int_le (pos 1) (pos (visits_in_tail job stream job.setting.steps ask)) && int_le (pos (visits_in_tail job stream job.setting.steps ask)) (pos (job.setting.steps + 1))) ≡ true
  count_fits stream ask =
      and_from _ _
      (le-leb 1 (visits_in_tail job stream job.setting.steps ask) (counts_first (job.setting.steps + 1) _ (omega arith) (start_in_tail job stream ask)))
      (le-leb (visits_in_tail job stream job.setting.steps ask) (job.setting.steps + 1) (count_below_le (job.setting.steps + 1) _))

  -- with its histogram or without, the outcome of a trajectory is plausible
  pub found_fits : (with_histogram : Bool) → length job.setting.asks ≤ 4 → (id : ℕ) → id < total job → fits job (outcome_with with_histogram job draws id) ≡ true
  found_fits with_histogram few id below = by (nat_lt id job.setting.walks) with_histogram refl
    where
      walk_histogram_fits : (b : Bool) → histogram_fits true job (walk_outcome b job draws id) ≡ true
      walk_histogram_fits false = refl
      walk_histogram_fits true = or_right (has_no_histogram (walk_outcome true job draws id)) (sum (histogram_by true job (draws (2 * id))) == job.setting.steps + 1)
          (eq-eqb (sum (histogram_by true job (draws (2 * id)))) (job.setting.steps + 1) (histogram_adds_up job (draws (2 * id))))

      by : (walks b : Bool) → nat_lt id job.setting.walks ≡ walks → fits job (outcome_by walks b job draws id) ≡ true
      by true b e = fitting job (walk_outcome b job draws id) true e below (count_below_le _ _) (zeros_after _ job.setting.asks)
          (λ _. all_below_from (length job.setting.asks) _
          (λ k l. each_value 4 (λ v. int_le (pos 1) v && int_le v (pos (job.setting.steps + 1))) _ job.setting.asks _ k (count_fits _) few l)) (walk_histogram_fits b)
      by false b e = fitting job (end_outcome job draws id) false e below (count_below_le _ _) (zeros_after _ job.setting.asks) (λ h. cc) refl

  pub found_id : (with_histogram : Bool) (id : ℕ) → (outcome_with with_histogram job draws id).id ≡ id
  found_id with_histogram id = by (nat_lt id job.setting.walks) with_histogram
    where
      by : (walks b : Bool) → (outcome_by walks b job draws id).id ≡ id
      by true b = refl
      by false b = refl

-- the outcome of a trajectory has its id
pub outcome_id : (job : Job) (draws : Draws) (id : ℕ) → (outcome job draws id).id ≡ id
outcome_id job draws id = found_id job draws job.setting.shift id
