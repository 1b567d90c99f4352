-- The result of a run that saves while it walks, in terms of the posts at its desk.
use Rattle.std.specs.Prelude.{◌≡◌, ℕ, ◌+◌, ◌-◌, ◌^◌, ◌<◌, ◌≤◌, ◌⊎◌, min, List, Result, OnOk, IsErr, IsOk, IsPermutation}
use Rattle.std.specs.List.{All, AllPairs}
use Rattle.audit_io.specs.declared.source.Failed.{Failed}
use Rattle.audit_model.specs.Faults.{HasCause}
use Rattle.audit_model.specs.Pair.{Pair, stored}
use Rattle.audit_model.specs.Attempts.{Try, attempted_all}
use Rattle.audit_model.specs.declared.outcome.Outcome.{Outcome}
use Rattle.audit_model.specs.Job.{Job}
use Rattle.audit_model.specs.Run.{total, by_id}
use Rattle.audit_model.specs.Times.{times}
use Rattle.audit_statement.specs.Checkpoint.{IsCheckpoint, checkpoint, job_digest}
use Rattle.audit_statement.specs.Histories.{AreInTurn}
use Rattle.outcome_book.specs.Booked.{IsBook}
use Rattle.tally_desk.specs.declared.entry.Entry.{Entry}
use Rattle.tally_desk.specs.declared.state.RunState.{RunState}
use Rattle.tally_desk.specs.Entries.{ids_of}
use Rattle.audit_model.specs.State.{KeeperState}
use Rattle.audit_statement.specs.InOrder.{AreSavesOf, failed_of}
use Rattle.audit_model.specs.Observed.{IfBothObserved}
use Rattle.tally_desk.specs.Homes.{booked}
use Rattle.tally_desk.specs.InTurn.{IsPartSave, RunSavesInTurn}
use Rattle.tally_desk.specs.Parts.{IsPlan, Parts}

-- the constants of a desk that takes over this state
abbrev pub starts : {C : Type 0} → (C → KeeperState) → Job → RunState C → List ℕ → ℕ → Parts
starts state job s todo seats = record {
  job = job;
  initial_outcomes = s.book.outcomes;
  todo = todo;
  save_every = s.save_every;
  seats = seats;
  place = s.place;
  keeper = state s.keeper;
}

-- the result is Ok exactly if no save failed, neither at the desk nor at the end
pub record BothSaved (failed : ℕ) (rest result : Result (Unit {0}) Failed) : Type 0 where
  pub ok : IsOk result → (failed ≡ 0) × IsOk rest
  pub err : IsErr result → (0 < failed) ⊎ IsErr rest

-- the slot beside the place of the first save is unchanged, or a slot is a save of the initial outcomes and of posts
abbrev pub KeepsSome : Parts → Pair → Pair → Type 0
KeepsSome parts p q =
    (stored q (1 - parts.place.slot) ≡ stored p (1 - parts.place.slot))
    ⊎ ((at : ℕ) × ((generation : ℕ) × ((count : ℕ) × IsPartSave parts generation count (stored q at))))

-- a save attempt is the checkpoint of the initial outcomes and of posts of ids to do
pub record IsRunTry (parts : Parts) (t : Try) : Type 0 where
  pub generation : ℕ
  pub part : List Entry
  pub of_todo : (id : ℕ) → times id (ids_of part) ≤ times id parts.todo
  pub bytes_are : t.bytes ≡ checkpoint 2 (job_digest parts.job) generation (by_id (total parts.job) (booked parts part))
  pub sound : IsCheckpoint (checkpoint 2 (job_digest parts.job) generation (by_id (total parts.job) (booked parts part)))
      2 (job_digest parts.job) generation (by_id (total parts.job) (booked parts part))

-- all save attempts of the run: each is a checkpoint of the initial outcomes and of posts, at the place after the last
-- that succeeded
pub record AreRunAttempts (parts : Parts) (attempts : List Try) : Type 0 where
  pub in_turn : AreInTurn parts.job (job_digest parts.job) parts.place.slot parts.place.generation attempts
  pub each : All (IsRunTry parts) attempts

-- the result of a run: its posts, all outcomes by rising id, and the state of the keeper
pub record HasRun (parts : Parts) (keeper_now : KeeperState) (sorted : List Outcome)
    (result : Result (Unit {0}) Failed) : Type 0 where
  pub plan : IsPlan parts
  pub posted : List Entry
  pub all : IsPermutation (ids_of posted) parts.todo
  pub book : IsBook (record { total = total parts.job; outcomes = booked parts posted })
  pub sorted_is : sorted ≡ by_id (total parts.job) (booked parts posted)
  pub sorted_all : IsPermutation (booked parts posted) sorted
  pub rising : AllPairs (λ a b. a.id < b.id) sorted
  pub cause : HasCause parts.keeper.save_faults keeper_now.save_faults result
  pub loads : keeper_now.load_faults ≡ parts.keeper.load_faults
  pub in_turn : OnOk result (IfBothObserved parts.keeper.slots keeper_now.slots (λ p q. RunSavesInTurn parts p q posted))
  pub keeps : IfBothObserved parts.keeper.slots keeper_now.slots (KeepsSome parts)
  pub attempts : List Try
  pub attempted : keeper_now.attempted ≡ attempted_all parts.keeper.attempted attempts
  pub are_attempts : AreRunAttempts parts attempts
  pub in_order : AreSavesOf parts.job parts.initial_outcomes parts.save_every parts.place (ids_of posted) attempts
  pub covered : min (parts.keeper.save_faults + failed_of attempts) (2 ^ 64 - 1) ≤ keeper_now.save_faults
