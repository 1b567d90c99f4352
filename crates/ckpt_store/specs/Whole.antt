-- The effect of a whole gathering.
-- Source: this project. The slots are stated from the findings, while the code looks at one folder after the other.
use Rattle.std.specs.Prelude.{◌≡◌, ℕ, Bool, true, false, ◌&&◌, List, length, Option}
use Rattle.audit_model.specs.Faults.{Rose}
use Rattle.audit_model.specs.Pair.{HoldsBytes, KeepsOther, Pair}
use Rattle.audit_model.specs.State.{KeeperState}
use Rattle.audit_model.specs.Observed.{IfObserved}
use Rattle.audit_model.specs.Attempts.{Try, attempted_too}
use Rattle.audit_model.specs.declared.outcome.Outcome.{Outcome}
use Rattle.audit_model.specs.Job.{Job}
use Rattle.audit_statement.specs.Checkpoint.{IsCheckpoint, checkpoint}
use Rattle.audit_model.specs.Run.{total}
use Rattle.ckpt_store.specs.Collected.{Collected, no_collected}
use Rattle.ckpt_store.specs.declared.finding.Finding.{Finding}
use Rattle.ckpt_store.specs.declared.gather_result.GatherResult.{GatherResult}
use Rattle.ckpt_store.specs.declared.gather_result.GatherError.{GatherError}
use Rattle.ckpt_store.specs.declared.gather_result.GatherError.TheVariants as ungathered
use Rattle.audit_statement.specs.Due.{Lets, LetsCheckpoint}
use Rattle.ckpt_store.specs.Findings.{AreFound, Finds, may_save}
use Rattle.ckpt_store.specs.Gives.{gives, has_broken}
use Rattle.audit_statement.specs.Slots.{place_for}

-- one save put the checkpoint of the outcomes into the slot of a place, with the place's generation, and left the other
-- slot unchanged
pub record IsSavedUnion (digest : List ℕ) (place : ℕ × ℕ) (outcomes : List Outcome) (before after : KeeperState) : Type 0 where
  pub bytes : HoldsBytes after.slots place.0 (checkpoint 2 digest place.1 outcomes)
  pub sound : IsCheckpoint (checkpoint 2 digest place.1 outcomes) 2 digest place.1 outcomes
  pub other : KeepsOther before.slots after.slots place.0
  pub attempted : after.attempted ≡ attempted_too before.attempted place.0 (checkpoint 2 digest place.1 outcomes) true

-- nothing was saved, and no save was attempted
pub record IsUntouched (before after : KeeperState) : Type 0 where
  pub slots : after.slots ≡ before.slots
  pub attempted : after.attempted ≡ before.attempted
  pub saves : after.save_faults ≡ before.save_faults

-- one save of this checkpoint was attempted there and failed. It may have left anything in its slot, and the other slot
-- is unchanged.
pub record IsUnsavedUnion (digest : List ℕ) (place : ℕ × ℕ) (outcomes : List Outcome) (before after : KeeperState) : Type 0 where
  pub sound : IsCheckpoint (checkpoint 2 digest place.1 outcomes) 2 digest place.1 outcomes
  pub other : KeepsOther before.slots after.slots place.0
  pub attempted : after.attempted ≡ attempted_too before.attempted place.0 (checkpoint 2 digest place.1 outcomes) false
  pub rose : Rose before.save_faults after.save_faults

-- the effect of a failed gathering on the keeper, with the given statement for a failed save
abbrev pub IsUnsaved : Type 0 → KeeperState → KeeperState → GatherError → Type 0
IsUnsaved Failed before after ungathered.Memory = IsUntouched before after
IsUnsaved Failed before after ungathered.Unread = IsUntouched before after × Rose before.load_faults.all after.load_faults.all
IsUnsaved Failed before after ungathered.Taken = IsUntouched before after × Rose before.load_faults.all after.load_faults.all × Rose before.load_faults.taken after.load_faults.taken
IsUnsaved Failed before after ungathered.Unsaved = Failed

abbrev pub IsSavedIf : Bool → List ℕ → ℕ × ℕ → List Outcome → KeeperState → KeeperState → Type 0
IsSavedIf true digest place outcomes before after = IsSavedUnion digest place outcomes before after
IsSavedIf false digest place outcomes before after = IsUntouched before after

-- the findings of a gathering in the slots of the working folder
pub record HasBegun (job : Job) (digest : List ℕ) (observed : Option Pair) (place : ℕ × ℕ) (own : Finding) (start : Collected) : Type 0 where
  pub pair : Pair
  pub same : IfObserved observed (λ p. pair ≡ p)
  pub finds : Finds (no_collected (total job)) (gives job digest pair) (has_broken job digest pair) own start
  pub place_is : place ≡ place_for job digest pair

-- The union of all findings may be saved at this place, that of the working folder's next checkpoint. The working
-- folder has no checkpoint or a valid newest one of this job. Each other folder has a valid newest one of this job, and
-- no two outcomes of an id differ.
pub record MayBeSaved (job : Job) (digest : List ℕ) (observed : Option Pair) (folders folders_now : List KeeperState) (place : ℕ × ℕ) (all : List Outcome) : Type 0 where
  pub own : Finding
  pub start : Collected
  pub found : List Finding
  pub collected : Collected
  pub begun : HasBegun job digest observed place own start
  pub each : AreFound job digest folders folders_now start found collected
  pub union : collected.outcomes ≡ all
  pub may : may_save own found ≡ true

-- a gathering was to save, and its one save failed
pub record HasGatherFailed (job : Job) (digest : List ℕ) (saves : Bool) (before after : KeeperState) (folders folders_now : List KeeperState) : Type 0 where
  pub place : ℕ × ℕ
  pub all : List Outcome
  pub asked : saves ≡ true
  pub may : MayBeSaved job digest before.slots folders folders_now place all
  pub unsaved : IsUnsavedUnion digest place all before after

-- A keeper with these slots and attempts accepts the one save of a gathering that is to save. The save is that of the
-- union of all findings, if it may be saved, at its place. No save may have been attempted before.
abbrev pub LetsGathering : Lets → Job → List ℕ → Bool → Option Pair → Option (List Try) → List KeeperState → Type 0
LetsGathering lets job digest saves observed attempted folders =
    (k : KeeperState) (folders_now : List KeeperState) (place : ℕ × ℕ) (all : List Outcome) → k.attempted ≡ attempted → saves ≡ true → MayBeSaved job digest observed folders folders_now place all
    → LetsCheckpoint lets k digest place.0 place.1 all

-- The whole gathering. The findings are those in the working folder and then in each other folder, one after the other.
-- The union is saved at the place of the working folder's next checkpoint exactly under four conditions. Saving was
-- requested. The working folder has no checkpoint or a valid newest one of this job. Each other folder has a valid
-- newest one of this job. No two outcomes of an id differ. Otherwise nothing is saved.
pub record IsGathering (job : Job) (digest : List ℕ) (saves : Bool) (before after : KeeperState) (folders folders_now : List KeeperState) (observed : GatherResult) : Type 0 where
  pub place : ℕ × ℕ
  pub start : Collected
  pub all : Collected
  pub own : HasBegun job digest before.slots place observed.own start
  pub each : AreFound job digest folders folders_now start observed.folders all
  pub done : observed.done ≡ length all.outcomes
  pub when : observed.saved ≡ (saves && may_save observed.own observed.folders)
  pub saved : IsSavedIf observed.saved digest place all.outcomes before after
