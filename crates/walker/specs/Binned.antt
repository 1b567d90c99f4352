-- Bins of plans by seats, and counts of visited plans in each.
use Rattle.std.specs.Prelude.{ℕ, ◌==◌, Bool, true, false, List}
use Rattle.audit_model.specs.Below.{count_below, map_below}
use Rattle.audit_model.specs.Job.{Job}
use Rattle.audit_model.specs.Trajectory.{bin_of, empty_histogram, plan_seats, visit}

-- the bin of a plan, by its seats and the start plan's
unfoldable pub plan_bin : Job → List ℕ → ℕ
plan_bin job plan = bin_of (plan_seats job plan) (plan_seats job job.start)

-- the number of the first visited plans in a bin
unfoldable pub visits_binned : Job → (ℕ → ℕ) → ℕ → ℕ → ℕ
visits_binned job draws visits bin = count_below visits (λ i. plan_bin job (visit job draws job.start i) == bin)

-- the histogram of the first visited plans, if it is asked for
abbrev pub histogram_of_visits : Bool → Job → (ℕ → ℕ) → ℕ → List ℕ
histogram_of_visits true job draws visits = map_below 9 (visits_binned job draws visits)
histogram_of_visits false job draws visits = empty_histogram
