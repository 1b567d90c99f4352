-- Progress of a trajectory.
use Rattle.std.specs.Prelude.{◌≡◌, ℕ, List}
use Rattle.audit_model.specs.Job.{Job}
use Rattle.audit_model.specs.Trajectory.{moves, visit}
use Rattle.audit_statement.specs.Along.{first_plan, stream_of}
use Rattle.audit_statement.specs.Draw.{draw}
use Rattle.chacha_draws.specs.DrawPlace.{DrawPlace}
use Rattle.flip_kernel.specs.ChainState.{ChainState}

-- the state, the next draw and the number of moves after this many steps from the plan along the stream
pub record IsWalked (job : Job) (key : List ℕ) (stream : ℕ) (plan : List ℕ) (steps : ℕ) (state : ChainState) (draws : DrawPlace) (moved : ℕ) : Type 0 where
  pub made : state.job ≡ job
  pub visited : state.plan ≡ visit job (draw key stream) plan steps
  pub same_key : draws.key ≡ key
  pub same_stream : draws.stream ≡ stream
  pub same_place : draws.place ≡ steps
  pub counted : moved ≡ moves job (draw key stream) plan steps

-- the progress of a trajectory: its next draw, and its number of moves
pub record Under : Type 0 where
  pub draws : DrawPlace
  pub moved : ℕ

-- the walker has taken this many steps of the trajectory with this id
pub record IsUnderWay (job : Job) (id steps : ℕ) (current : ChainState) (way : Under) : Type 0 where
  pub walked : IsWalked job job.setting.key (stream_of job id) (first_plan job (draw job.setting.key) id) steps current way.draws way.moved
