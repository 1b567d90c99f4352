-- The constants of a desk, and the requirements on its initial state.
use Rattle.std.specs.Prelude.{◌≡◌, ℕ, ◌<◌, ◌≤◌, IsTrue, List, length, Option}
use Rattle.std.specs.List.{All}
use Rattle.audit_model.specs.State.{KeeperState}
use Rattle.audit_model.specs.Observed.{IfObserved}
use Rattle.audit_model.specs.Pair.{Pair}
use Rattle.audit_model.specs.declared.outcome.Outcome.{Outcome}
use Rattle.audit_model.specs.Job.{Job}
use Rattle.audit_model.specs.JobOf.{IsJob}
use Rattle.audit_model.specs.Run.{total, fits, run_ids}
use Rattle.audit_statement.specs.Checkpoint.{job_digest}
use Rattle.audit_model.specs.declared.place.Place.{Place}
use Rattle.audit_statement.specs.Slots.{place_for}
use Rattle.audit_statement.specs.Due.{Lets, LetsRun}
use Rattle.outcome_book.specs.Booked.{IsBook}
use Rattle.tally_desk.specs.declared.state.RunState.{RunState}
use Rattle.tally_desk.specs.Rooms.{HasSaveRoom}

-- The job, the outcomes of the book and the ids to do. Then the number of posts between saves, the number of seats, the
-- place of the first save, and the initial state of the keeper.
pub record Parts : Type 0 where
  pub job : Job
  pub initial_outcomes : List Outcome
  pub todo : List ℕ
  pub save_every : ℕ
  pub seats : ℕ
  pub place : Place
  pub keeper : KeeperState

-- the place of the job's next checkpoint, if the slots are known
abbrev pub IsPlaceFor : Job → Option Pair → Place → Type 0
IsPlaceFor job slots place = IfObserved slots (λ p. place_for job (job_digest job) p ≡ (place.slot, place.generation))

-- the ids to do: by rising id, the first ids of the job's part without an initial outcome
abbrev pub IsTodoFor : Job → List Outcome → List ℕ → Type 0
IsTodoFor job initial_outcomes todo = (budget : ℕ) × (todo ≡ run_ids job initial_outcomes budget)

-- the requirements on a desk of the job, given the known slots: the state of a run, and ids to do
pub record CanOpenDesk {C : Type 0} (job : Job) (slots : Option Pair) (s : RunState C) (ids : List ℕ) : Type 0 where
  pub digest : s.digest ≡ job_digest job
  pub every : 1 ≤ s.save_every
  pub slot : s.place.slot < 2
  pub generation : s.place.generation < 3
  pub place : IsPlaceFor job slots s.place
  pub whole : s.book.total ≡ total job
  pub fit : All (λ o. IsTrue (fits job o)) s.book.outcomes
  pub todo : IsTodoFor job s.book.outcomes ids
  pub room : HasSaveRoom (total job) s.sorted s.room

-- the constants of a desk that meets its requirements
pub record IsPlan (parts : Parts) : Type 0 where
  pub sound : IsJob parts.job
  pub few_asks : length parts.job.setting.asks ≤ 4
  pub book : IsBook (record { total = total parts.job; outcomes = parts.initial_outcomes })
  pub fit : All (λ o. IsTrue (fits parts.job o)) parts.initial_outcomes
  pub todo : IsTodoFor parts.job parts.initial_outcomes parts.todo
  pub every : 1 ≤ parts.save_every
  pub some_seat : 1 ≤ parts.seats
  pub few_seats : parts.seats ≤ 33
  pub slot : parts.place.slot < 2
  pub generation : parts.place.generation < 3
  pub place : IsPlaceFor parts.job parts.keeper.slots parts.place

-- the keeper accepts each due save of the desk
abbrev pub LetsDesk : Lets → Parts → Type 0
LetsDesk lets parts = LetsRun lets parts.keeper.attempted parts.job parts.initial_outcomes parts.save_every parts.place parts.todo
