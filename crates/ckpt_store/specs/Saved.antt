-- One save of outcomes.
use Rattle.std.specs.Prelude.{◌≡◌, ℕ, List, Result, OnOk, is_ok}
use Rattle.audit_io.specs.declared.source.Failed.{Failed}
use Rattle.audit_model.specs.Attempts.{attempted_too}
use Rattle.audit_model.specs.Faults.{HasCause}
use Rattle.audit_model.specs.Observed.{IfObserved}
use Rattle.audit_model.specs.Pair.{HoldsBytes, KeepsOther}
use Rattle.audit_model.specs.State.{KeeperState}
use Rattle.audit_model.specs.declared.outcome.Outcome.{Outcome}
use Rattle.audit_model.specs.declared.place.Place.{Place}
use Rattle.audit_statement.specs.Checkpoint.{IsCheckpoint, checkpoint}
use Rattle.ckpt_store.specs.Laws.{IsNewestForFitJobs}

-- A save of these outcomes in the slot of a place put their checkpoint there, or failed. It left the other slot unchanged
-- and was noted as one attempt.
pub record SavesThese {C : Type 0} (state : C → KeeperState) (before now : C) (place : Place) (digest : List ℕ)
    (outcomes : List Outcome) (result : Result (Unit {0}) Failed) : Type 0 where
  pub sound : IsCheckpoint (checkpoint 2 digest place.generation outcomes) 2 digest place.generation outcomes
  pub slot_bytes : OnOk result (HoldsBytes (state now).slots place.slot (checkpoint 2 digest place.generation outcomes))
  pub newest : OnOk result (IfObserved (state now).slots (IsNewestForFitJobs digest place.slot place.generation outcomes))
  pub other : KeepsOther (state before).slots (state now).slots place.slot
  pub cause : HasCause (state before).save_faults (state now).save_faults result
  pub loads : (state now).load_faults ≡ (state before).load_faults
  pub attempted : (state now).attempted ≡ attempted_too (state before).attempted place.slot (checkpoint 2 digest place.generation outcomes) (is_ok result)
