-- The values of the start plan, for each of up to four asks.
use Rattle.std.specs.Prelude.{◌≡◌, List, [], ◌∷◌, Option, Some, None, ℤ, pos}
use Rattle.std.specs.List.{slice_get}
use Rattle.audit_model.specs.declared.setting.Ask.{Ask}
use Rattle.audit_model.specs.Job.{Job}
use Rattle.audit_model.specs.JobOf.{IsJob}
use Rattle.audit_model.specs.Trajectory.{plan_value}

-- the numerator of the start plan's score for the ask, and 0 without an ask
unfoldable pub value_of : Job → Option Ask → ℤ
value_of job None = pos 0
value_of job (Some ask) = plan_value job job.start ask.score

-- the values of the asks at the four places
abbrev pub start_values : Job → List ℤ
start_values job = let asks = job.setting.asks in
    value_of job (slice_get asks 0) ∷ value_of job (slice_get asks 1) ∷ value_of job (slice_get asks 2) ∷ value_of job (slice_get asks 3) ∷ []

-- a job, and the values of its start plan
pub record IsValued (job : Job) (values : List ℤ) : Type 0 where
  pub sound : IsJob job
  pub valued : values ≡ start_values job
