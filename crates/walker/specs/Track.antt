-- A walk in progress.
use Rattle.std.specs.Prelude.{◌≡◌, ℕ, List}
use Rattle.audit_model.specs.Job.{Job}
use Rattle.audit_model.specs.Trajectory.{visit}
use Rattle.audit_statement.specs.Draw.{draw}
use Rattle.walker.specs.declared.steps.Track.{Track}
use Rattle.walker.specs.Trail.{IsTrail}

-- after `place` steps, the next draw and the plan are those at that place, and the trail covers the plans before
pub record IsOnTrack (job : Job) (plan : List ℕ) (place : ℕ) (t : Track) : Type 0 where
  pub at : t.draws.place ≡ place
  pub visited : plan ≡ visit job (draw t.draws.key t.draws.stream) job.start place
  pub trail : IsTrail job (draw t.draws.key t.draws.stream) place t.trail
