-- Constraints for the plans of a job.
use Rattle.std.specs.Prelude.{◌≡◌, ℕ, ◌≤◌, Bool, IsTrue, List}
use Rattle.audit_model.specs.Job.{Job, rules}
use Rattle.flip_guard.specs.Judging.{Judging}

-- the constraint accepts the plans of the job: those with as many units and at most as many districts
abbrev pub TakesPlansOf : Job → (ℕ → ℕ → Bool) → Type 0
TakesPlansOf job takes = (districts : ℕ) → districts ≤ job.districts → IsTrue (takes job.graph.units districts)

-- the constraint's invariant holds, and it has the job's rules and accepts the job's plans
pub record IsJudgeFor (job : Job) (by : Judging) : Type 0 where
  pub kept : by.keeps
  pub ruled : by.rules ≡ rules job
  pub taken : TakesPlansOf job by.takes

-- a constraint for the job describes the plan
pub record HasConstraintAt (job : Job) (plan : List ℕ) (by : Judging) : Type 0 where
  pub fit : IsJudgeFor job by
  pub stood : by.stands plan
