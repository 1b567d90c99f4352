-- The plans that the trajectories of an accepted job visit.
use Rattle.std.specs.Prelude.{ℕ, List, Option}
use Rattle.audit_model.specs.Job.{Job}
use Rattle.audit_model.specs.Plan.{IsLegal}
use Rattle.audit_model.specs.Trajectory.{hub, visit}
use Rattle.audit_statement.specs.Draw.{draw}
use Rattle.audit_statement.specs.Accepted.{IsAccepted}

-- Every plan visited from the start plan or the hub of an accepted job, on any stream and after any number of steps, is
-- legal: its districts are connected and within the population bounds, and it meets the rules that the arguments set.
pub record VisitsLegal (words : List (List ℕ)) (left : Option (List ℕ)) : Type 0 where
  pub from_start : (job : Job) → IsAccepted words left job → (stream step : ℕ) → IsLegal job (visit job (draw job.setting.key stream) job.start step)
  pub from_hub : (job : Job) → IsAccepted words left job → (stream step : ℕ)
      → IsLegal job (visit job (draw job.setting.key stream) (hub job (draw job.setting.key)) step)
