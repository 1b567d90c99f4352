-- The sum of an outcome's histogram.
use Rattle.std.proofs.Common.{◌≡◌, ℕ, zero, suc, ◌+◌, ◌*◌, ◌<◌, ◌≤◌, ◌^◌, Bool, true, false, cond, eqb, sum, refl, ap, ◌∙◌, arith, lit≤}
use Rattle.std.specs.Prelude.{◌||◌, nat_lt}
use Rattle.std.proofs.lemmas.Bool.{and_parts, eqb-true, lt-ltb}
use Rattle.std.proofs.lemmas.List.Folds.{sum_by-zero}
use Rattle.std.proofs.lemmas.List.Sums.{sum_by_push}
use Rattle.audit_model.specs.declared.outcome.Outcome.{Outcome}
use Rattle.audit_model.specs.Below.{count_below, map_below}
use Rattle.audit_model.specs.Job.{Job}
use Rattle.audit_model.specs.JobOf.{IsJob}
use Rattle.audit_model.specs.Run.{histogram_fits, fits, has_no_histogram}
use Rattle.audit_model.specs.Trajectory.{Draws, bin_of, outcome_by, outcome, plan_seats, visit, whole}
use Rattle.audit_model.proofs.BinSums.{bin_is_small}
use Rattle.audit_model.proofs.Limits.{few_steps}
use Rattle.outcome_book.specs.Booked.{HasFewVisits}

-- the sum of sums splits into both sums
sums_add : (n : ℕ) (f g : ℕ → ℕ) → sum (map_below n (λ b. f b + g b)) ≡ sum (map_below n f) + sum (map_below n g)
sums_add zero f g = refl
sums_add (suc n) f g =
    omega (
      arith,
      sum_by_push (λ (x : ℕ). x) (map_below n (λ b. f b + g b)) (f n + g n),
      sum_by_push (λ (x : ℕ). x) (map_below n f) (f n),
      sum_by_push (λ (x : ℕ). x) (map_below n g) (g n),
      sums_add n f g,
    )

-- a bin below nine is exactly one of nine
one_bin : (k : ℕ) → k ≤ 8 → sum (map_below 9 (λ b. cond {A = ℕ} (eqb k b) 1 0)) ≡ 1
one_bin zero l = refl
one_bin (suc zero) l = refl
one_bin (suc (suc zero)) l = refl
one_bin (suc (suc (suc zero))) l = refl
one_bin (suc (suc (suc (suc zero)))) l = refl
one_bin (suc (suc (suc (suc (suc zero))))) l = refl
one_bin (suc (suc (suc (suc (suc (suc zero)))))) l = refl
one_bin (suc (suc (suc (suc (suc (suc (suc zero))))))) l = refl
one_bin (suc (suc (suc (suc (suc (suc (suc (suc zero)))))))) l = refl
one_bin (suc (suc (suc (suc (suc (suc (suc (suc (suc k))))))))) l = absurd (omega (arith, l))

-- the count of the first numbers in a bin
count_in : ℕ → (ℕ → ℕ) → ℕ → ℕ
count_in n f b = count_below n (λ i. eqb (f i) b)

-- with no numbers, all counts are 0
count_in_none : (f : ℕ → ℕ) → sum (map_below 9 (count_in zero f)) ≡ 0
unfolding count_in count_below
count_in_none f = refl

-- one more number adds one to one bin
count_in_more : (n : ℕ) (f : ℕ → ℕ)
    → sum (map_below 9 (count_in (suc n) f)) ≡ sum (map_below 9 (λ b. count_in n f b + cond {A = ℕ} (eqb (f n) b) 1 0))
unfolding count_in count_below
count_in_more n f = refl

-- each number is counted once
counts_add_up : (n : ℕ) (f : ℕ → ℕ) → ((i : ℕ) → f i ≤ 8) → sum (map_below 9 (count_in n f)) ≡ n
counts_add_up zero f small = count_in_none f
counts_add_up (suc n) f small =
    let more : sum (map_below 9 (count_in (suc n) f)) ≡ sum (map_below 9 (count_in n f)) + sum (map_below 9 (λ b. cond {A = ℕ} (eqb (f n) b) 1 0)) =
    count_in_more n f ∙ sums_add 9 (count_in n f) (λ b. cond {A = ℕ} (eqb (f n) b) 1 0) in
    omega (arith, more, counts_add_up n f small, one_bin (f n) (small n))

-- the histogram of a walk adds up to its steps plus one
walks_add_up : (job : Job) (draws : Draws) (id : ℕ) → sum (outcome_by true true job draws id).bins ≡ job.setting.steps + 1
unfolding count_in
walks_add_up job draws id =
    let bin : ℕ → ℕ = λ i. bin_of (plan_seats job (visit job (draws (2 * id)) job.start i)) (plan_seats job job.start) in
    counts_add_up (job.setting.steps + 1) bin (λ i. bin_is_small (plan_seats job (visit job (draws (2 * id)) job.start i)) (plan_seats job job.start))

-- the histogram of a walk's outcome adds up to its steps plus one
pub whole_adds_up : (job : Job) (draws : Draws) (id : ℕ) → id < job.setting.walks → sum (whole job draws id).bins ≡ job.setting.steps + 1
whole_adds_up job draws id walks =
    ap (λ (b : Bool). sum (outcome_by b true job draws id).bins) (lt-ltb id job.setting.walks walks) ∙ walks_add_up job draws id

-- the histogram of each trajectory adds up to few visits
few_by : (walks bins : Bool) (job : Job) (draws : Draws) (id : ℕ) → job.setting.steps ≤ 10 ^ 9 → HasFewVisits (outcome_by walks bins job draws id)
few_by true true job draws id few = let sums = walks_add_up job draws id in omega (arith, sums, few)
few_by true false job draws id few = lit≤ tt
few_by false true job draws id few = lit≤ tt
few_by false false job draws id few = lit≤ tt

-- the outcome of each id of a job has few visits
pub found_has_few : (job : Job) (draws : Draws) (id : ℕ) → IsJob job → HasFewVisits (outcome job draws id)
found_has_few job draws id sound = few_by (nat_lt id job.setting.walks) job.setting.shift job draws id (few_steps job sound)

-- an empty histogram adds up to 0
zero_histogram_sum : (o : Outcome) → has_no_histogram o ≡ true → sum o.bins ≡ 0
zero_histogram_sum o without_histogram = eqb-true (sum o.bins) 0 (sum_by-zero (λ (n : ℕ). n) o.bins ∙ without_histogram)

-- a histogram that is empty or adds up to a walk's visits has few visits
few_or : (job : Job) (o : Outcome) (without_histogram : Bool) → has_no_histogram o ≡ without_histogram → (without_histogram || eqb (sum o.bins) (job.setting.steps + 1)) ≡ true → job.setting.steps ≤ 10 ^ 9
    → HasFewVisits o
few_or job o true is h few = omega (arith, zero_histogram_sum o is)
few_or job o false is h few = omega (arith, eqb-true (sum o.bins) (job.setting.steps + 1) h, few)

-- a plausible histogram has few visits
few_fits : (walks : Bool) (job : Job) (o : Outcome) → histogram_fits walks job o ≡ true → job.setting.steps ≤ 10 ^ 9 → HasFewVisits o
few_fits true job o h few = few_or job o (has_no_histogram o) refl h few
few_fits false job o h few = omega (arith, zero_histogram_sum o h)

-- a plausible outcome has few visits
pub fitting_has_few : (job : Job) (o : Outcome) → IsJob job → fits job o ≡ true → HasFewVisits o
fitting_has_few job o sound h =
    few_fits (nat_lt o.id job.setting.walks) job o (and_parts _ (histogram_fits (nat_lt o.id job.setting.walks) job o) h).1 (few_steps job sound)
