-- The ranks computed from both runs are those of the definition.
use Rattle.std.proofs.Common.{◌≡◌, ◌∙◌, ℕ, zero, suc, ◌+◌, ◌-◌, ◌<◌, ◌≤◌, Bool, cond, List, [], ◌∷◌, ◌++◌, length, map, take, replicate, ap, refl, arith}
use Rattle.std.specs.Prelude.{pos, slice_index}
use Rattle.std.proofs.Math.Path.{fun_ext}
use Rattle.audit_model.specs.declared.setting.Ask.{Ask}
use Rattle.audit_model.specs.declared.outcome.Outcome.{Outcome}
use Rattle.audit_model.specs.declared.outcome.Serial.{Serial}
use Rattle.audit_model.specs.Below.{count_below}
use Rattle.audit_model.specs.Job.{Job}
use Rattle.audit_model.specs.Serially.{later_visits_in_tail, run_outcome, serial_at, serial_of, serial_place, serial_rank}
use Rattle.audit_model.specs.Trajectory.{Draws, four_values, in_tail, moves, plan_value, visit, visits_in_tail}
use Rattle.audit_model.proofs.Below.{count_below_le}
use Rattle.audit_model.proofs.Fitting.{one_of, in_own_tail}
use Rattle.serial_test.specs.Ranks.{HasRanks, ranks_of}

-- ---- the start plan is in its own tail

-- a count, split off at its first number
count_below_first : (n : ℕ) (test : ℕ → Bool) → count_below (suc n) test ≡ cond (test 0) 1 0 + count_below n (λ i. test (suc i))
unfolding count_below
count_below_first zero test = omega arith
count_below_first (suc n) test = omega (arith, count_below_first n test)

-- visits in the tail are the start plan and the later visits
visits_are_later : (job : Job) (draws : ℕ → ℕ) (steps : ℕ) (ask : Ask) → visits_in_tail job draws steps ask ≡ 1 + later_visits_in_tail job draws steps ask
unfolding visit
visits_are_later job draws steps ask =
    let test : ℕ → Bool = λ i. in_tail ask.tail (plan_value job (visit job draws job.start i) ask.score) (plan_value job job.start ask.score) in
    let all : count_below (steps + 1) test ≡ count_below (suc steps) test = ap (λ (n : ℕ). count_below n test) (omega arith) in
    let own : cond {A = ℕ} (test 0) 1 0 ≡ 1 = one_of (test 0) (in_own_tail ask.tail (plan_value job job.start ask.score)) in
    omega (arith, all, own, count_below_first steps test)

-- ---- the ranks

-- the list has each ask's value at its place, and then zeros
ranks_are : (f g : Ask → ℕ) (asks : List Ask)
    → ranks_of (four_values (map (λ ask. pos (f ask)) asks)) (four_values (map (λ ask. pos (g ask)) asks)) ≡ take 4 (map (λ ask. f ask + (g ask - 1)) asks ++ replicate 4 0)
ranks_are f g [] = refl
ranks_are f g (a ∷ []) = refl
ranks_are f g (a ∷ b ∷ []) = refl
ranks_are f g (a ∷ b ∷ c ∷ []) = refl
ranks_are f g (a ∷ b ∷ c ∷ d ∷ rest) = refl

-- a property of the function's values holds at each ask's place
each_rank : (n : ℕ) (P : ℕ → Type 0) (f : Ask → ℕ) (asks : List Ask) (zeros : List ℕ) (k : ℕ) → ((ask : Ask) → P (f ask))
    → length asks ≤ n → k < length asks → P (slice_index (take n (map f asks ++ zeros)) k)
each_rank n P f [] zeros k each few l = absurd (omega arith)
each_rank zero P f (a ∷ asks) zeros k each few l = absurd (omega arith)
each_rank (suc n) P f (a ∷ asks) zeros zero each few l = each a
each_rank (suc n) P f (a ∷ asks) zeros (suc k) each few l = each_rank n P f asks zeros k each (omega arith) (omega arith)

module _ (job : Job) (draws : Draws) (place : ℕ) where
  rank_is : (ask : Ask)
      → visits_in_tail job (draws 8589934593) place ask + (visits_in_tail job (draws 8589934594) (job.setting.steps - place) ask - 1) ≡ serial_rank job draws place ask
  rank_is ask = omega (arith, visits_are_later job (draws 8589934594) (job.setting.steps - place) ask)

  pub ranks_found : (forward backward : Outcome) → forward ≡ run_outcome job draws 8589934593 place → backward ≡ run_outcome job draws 8589934594 (job.setting.steps - place)
      → ranks_of forward.values backward.values ≡ (serial_at job draws place).ranks
  ranks_found forward backward ahead back =
      ap (λ (o : Outcome). ranks_of o.values backward.values) ahead
      ∙ ap (λ (o : Outcome). ranks_of (run_outcome job draws 8589934593 place).values o.values) back
      ∙ ranks_are (visits_in_tail job (draws 8589934593) place) (visits_in_tail job (draws 8589934594) (job.setting.steps - place)) job.setting.asks
      ∙ ap (λ (f : Ask → ℕ). take 4 (map f job.setting.asks ++ replicate 4 0)) (fun_ext rank_is)

  rank_within : place ≤ job.setting.steps → (ask : Ask) → (1 ≤ serial_rank job draws place ask) × (serial_rank job draws place ask ≤ job.setting.steps + 1)
  rank_within inside ask =
      let first = visits_are_later job (draws 8589934593) place ask in
      let second = visits_are_later job (draws 8589934594) (job.setting.steps - place) ask in
      let most = count_below_le (place + 1) (λ i. in_tail ask.tail (plan_value job (visit job (draws 8589934593) job.start i) ask.score) (plan_value job job.start ask.score)) in
      let rest = count_below_le (job.setting.steps - place + 1) (λ i. in_tail ask.tail (plan_value job (visit job (draws 8589934594) job.start i) ask.score) (plan_value job job.start ask.score)) in
      (omega (arith, first), omega (arith, second, most, rest, inside))

  pub ranks_within : place ≤ job.setting.steps → length job.setting.asks ≤ 4 → HasRanks job (serial_at job draws place).ranks
  ranks_within inside few = λ k l.
      each_rank 4 (λ r. (1 ≤ r) × (r ≤ job.setting.steps + 1)) (serial_rank job draws place) job.setting.asks (replicate 4 0) k (rank_within inside) few l

-- ---- the results of a run

-- at most all steps change the plan
few_moves : (job : Job) (draws : Draws) (stream steps : ℕ) → moves job (draws stream) job.start steps ≤ steps
few_moves job draws stream steps = count_below_le steps _

-- a run has at most as many moves as steps
pub moves_few : (job : Job) (draws : Draws) (stream steps : ℕ) (found : Outcome) → found ≡ run_outcome job draws stream steps → found.moved ≤ steps
moves_few job draws stream steps found is = let same = ap (λ (o : Outcome). o.moved) is in omega (arith, same, few_moves job draws stream steps)

abbrev found : ℕ → ℕ → List ℕ → Serial
found place moved ranks = record { place = place; moved = moved; ranks = ranks }

-- the results of both runs are the serial test of the definition
pub serial_found : (job : Job) (draws : Draws) (drawn of place : ℕ) (forward backward : Outcome) (ranks : List ℕ)
    → drawn ≡ draws 8589934592 0 → of ≡ job.setting.steps + 1 → place ≡ serial_place drawn of
    → forward ≡ run_outcome job draws 8589934593 place → backward ≡ run_outcome job draws 8589934594 (job.setting.steps - place)
    → ranks ≡ ranks_of forward.values backward.values
    → found place (forward.moved + backward.moved) ranks ≡ serial_of job draws
unfolding serial_of
serial_found job draws drawn of place forward backward ranks d q t ahead back r =
    ap (λ (xs : List ℕ). found place (forward.moved + backward.moved) xs) (r ∙ ranks_found job draws place forward backward ahead back)
    ∙ ap (λ (n : ℕ). found place (n + backward.moved) (serial_at job draws place).ranks) (ap (λ (o : Outcome). o.moved) ahead)
    ∙ ap (λ (n : ℕ). found place (moves job (draws 8589934593) job.start place + n) (serial_at job draws place).ranks) (ap (λ (o : Outcome). o.moved) back)
    ∙ ap (λ (p : ℕ). serial_at job draws p) (t ∙ ap (λ (n : ℕ). serial_place n of) d ∙ ap (λ (n : ℕ). serial_place (draws 8589934592 0) n) q)
