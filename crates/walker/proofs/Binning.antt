-- The bin of a plan, from its seats.
use Rattle.std.proofs.Common.{◌≡◌, ℕ, List, sym, ap, ◌∙◌, arith}
use Rattle.audit_model.specs.Job.{Job}
use Rattle.audit_model.specs.Trajectory.{bin_of, plan_seats}
use Rattle.walker.specs.Binned.{plan_bin}

-- a plan with as many seats as the start plan is in the middle bin
as_many : (seats : ℕ) → 4 ≡ bin_of seats seats
as_many seats = omega arith

-- the start plan is in the middle bin
pub start_bin : (job : Job) (plan : List ℕ) → plan ≡ job.start → 4 ≡ plan_bin job plan
unfolding plan_bin
start_bin job plan at =
    as_many (plan_seats job job.start) ∙ ap (λ (p : List ℕ). bin_of (plan_seats job p) (plan_seats job job.start)) (sym at)

-- the bin is determined by the seats
pub bin_is : (job : Job) (plan : List ℕ) (seats start bin : ℕ) → seats ≡ plan_seats job plan → start ≡ plan_seats job job.start → bin ≡ bin_of seats start
    → bin ≡ plan_bin job plan
unfolding plan_bin
bin_is job plan seats start bin s t b =
    b ∙ ap (λ (n : ℕ). bin_of n start) s ∙ ap (λ (n : ℕ). bin_of (plan_seats job plan) n) t
