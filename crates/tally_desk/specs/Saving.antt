-- The effect of a save of the book on the slot's contents.
use Rattle.std.specs.Prelude.{◌≡◌, ℕ, ◌+◌, ◌%◌, ◌==◌, Bool, true, false, List, length}
use Rattle.audit_model.specs.Faults.{Counts, Rose}
use Rattle.audit_model.specs.State.{KeeperState}
use Rattle.audit_model.specs.Observed.{IfObserved}
use Rattle.audit_model.specs.Pair.{HoldsBytes, KeepsOther}
use Rattle.audit_model.specs.Attempts.{attempted_too}
use Rattle.audit_model.specs.declared.outcome.Outcome.{Outcome}
use Rattle.audit_statement.specs.Checkpoint.{IsCheckpoint, checkpoint}
use Rattle.audit_statement.specs.Due.{Lets}
use Rattle.ckpt_store.specs.Laws.{IsNewestForFitJobs}
use Rattle.audit_model.specs.Run.{by_id}
use Rattle.tally_desk.specs.declared.state.RunState.{RunState}
use Rattle.audit_statement.specs.InOrder.{next_place}

module _ {C : Type 0} where
  -- the outcomes of the book by rising id
  abbrev pub sorted_of : RunState C → List Outcome
  sorted_of home = by_id home.book.total home.book.outcomes

  -- the checkpoint of those outcomes for the place
  abbrev pub bytes_of : RunState C → List ℕ
  bytes_of home = checkpoint 2 home.digest home.place.generation (sorted_of home)

  -- the fields that a save leaves unchanged
  pub record KeepsRest (before now : RunState C) : Type 0 where
    pub book : now.book ≡ before.book
    pub posted : now.posted ≡ before.posted
    pub every : now.save_every ≡ before.save_every
    pub digest : now.digest ≡ before.digest
    pub sorted_room : length now.sorted.items + now.sorted.spare ≡ length before.sorted.items + before.sorted.spare
    pub save_room : length now.room.items + now.room.spare ≡ length before.room.items + before.room.spare

  module _ (state : C → KeeperState) where
    -- the keeper accepts a save of the book, which is a checkpoint
    abbrev pub LetsSave : Lets → RunState C → Type 0
    LetsSave lets home = IsCheckpoint (bytes_of home) 2 home.digest home.place.generation (sorted_of home) → lets (state home.keeper) home.place.slot (bytes_of home)

    -- the save succeeded
    pub record Saved (before now : RunState C) : Type 0 where
      pub place : now.place ≡ next_place before.place
      pub failed : now.failed_saves ≡ before.failed_saves
      pub faults : (state now.keeper).save_faults ≡ (state before.keeper).save_faults
      pub slot_bytes : HoldsBytes (state now.keeper).slots before.place.slot (bytes_of before)
      pub newest : IfObserved (state now.keeper).slots (IsNewestForFitJobs before.digest before.place.slot before.place.generation (sorted_of before))

    -- the save failed
    pub record FailedSave (before now : RunState C) : Type 0 where
      pub place : now.place ≡ before.place
      pub failed : now.failed_saves ≡ before.failed_saves + 1
      pub rose : Rose (state before.keeper).save_faults (state now.keeper).save_faults

    -- a save was attempted
    pub record AttemptedSave (before now : RunState C) (saved : Bool) : Type 0 where
      pub rest : KeepsRest before now
      pub loads : (state now.keeper).load_faults ≡ (state before.keeper).load_faults
      pub counts : Counts (state before.keeper).save_faults (state now.keeper).save_faults
      pub attempted : (state now.keeper).attempted ≡ attempted_too (state before.keeper).attempted before.place.slot (bytes_of before) saved
      pub other : KeepsOther (state before.keeper).slots (state now.keeper).slots before.place.slot
      pub sound : IsCheckpoint (bytes_of before) 2 before.digest before.place.generation (sorted_of before)
      pub on_ok : saved ≡ true → Saved before now
      pub on_err : saved ≡ false → FailedSave before now

    -- a save was attempted if it was due after this number of posts, and otherwise nothing was done
    pub record SavedWhereDue (posts : ℕ) (before now : RunState C) (saved : Bool) : Type 0 where
      pub not_due : (posts % before.save_every == 0) ≡ false → (saved ≡ false) × (now ≡ before)
      pub due : (posts % before.save_every == 0) ≡ true → AttemptedSave before now saved
