-- The trajectories to walk and their outcomes.
use Rattle.std.specs.Prelude.{◌≡◌, ◌≢◌, ℕ, ◌<◌, ◌≤◌, IsFalse, List, slice_index}
use Rattle.std.specs.List.{All, AllPairs}
use Rattle.audit_model.specs.declared.outcome.Outcome.{Outcome}
use Rattle.audit_model.specs.Job.{Job}
use Rattle.audit_model.specs.Run.{total, has_id}
use Rattle.audit_model.specs.Trajectory.{hub, outcome}
use Rattle.outcome_book.specs.Booked.{Booked}
use Rattle.audit_statement.specs.Draw.{draw}

-- the outcome of the trajectory with this id, by the draws of the job's key
unfoldable pub found : Job → ℕ → Outcome
found job id = outcome job (draw job.setting.key) id

-- the outcome of the trajectory whose id stands at this place of the list
abbrev pub found_at : Job → List ℕ → ℕ → Outcome
found_at job todo place = found job (slice_index todo place)

-- every id is that of a trajectory of the job
abbrev pub IsWithin : Job → List ℕ → Type 0
IsWithin job todo = All (λ id. id < total job) todo

-- if one of the trajectories starts from the hub, `units` is the hub
abbrev pub ServesEnds : Job → List ℕ → List ℕ → Type 0
ServesEnds job todo units = All (λ id. job.setting.walks ≤ id → units ≡ hub job (draw job.setting.key)) todo

-- different ids of trajectories of the job, none with a kept outcome
pub record IsTodo (job : Job) (kept : List Outcome) (todo : List ℕ) : Type 0 where
  pub apart : AllPairs (λ a b. a ≢ b) todo
  pub within : IsWithin job todo
  pub absent : All (λ id. IsFalse (has_id kept id)) todo

-- a book of the job without outcomes for these ids, which are still to be walked
pub record MissesIds (job : Job) (b : Booked) (todo : List ℕ) : Type 0 where
  pub ids : IsTodo job b.outcomes todo
  pub whole : b.total ≡ total job
