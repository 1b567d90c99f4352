-- Walkers that count their walks.
use Rattle.std.specs.Prelude.{◌≡◌, ℕ, ◌<◌, ◌^◌, List, length}
use Rattle.audit_model.specs.Job.{Job}

-- the job of a walker, and the number of its walks so far
pub record WalkCount : Type 0 where
  pub job : Job
  pub walks : ℕ

-- the walker walked once for each place that its pass drew
abbrev pub HasWalkedEachOnce : WalkCount → List ℕ → Type 0
HasWalkedEachOnce w claims = length claims < 2 ^ 64 → w.walks ≡ length claims
