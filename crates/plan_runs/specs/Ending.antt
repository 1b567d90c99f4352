-- The slots that a run leaves, and the ways it can end.
use Rattle.std.specs.Prelude.{◌≡◌, ℕ, Bool, true, false, List, Result, Ok, Err, OnOk}
use Rattle.audit_io.specs.declared.source.Failed.{Failed}
use Rattle.audit_model.specs.Faults.{HasCause}
use Rattle.audit_model.specs.declared.outcome.Outcome.{Outcome}
use Rattle.audit_model.specs.Job.{Job}
use Rattle.audit_model.specs.Run.{total}
use Rattle.report.specs.declared.ended.Ended.{Ended}
use Rattle.report.specs.declared.ended.Ended.TheVariants as ended
use Rattle.plan_runs.specs.declared.ending.Finished.{Finished}
use Rattle.plan_runs.specs.declared.ending.Finished.TheVariants as finished
use Rattle.audit_model.specs.State.{KeeperState}
use Rattle.audit_model.specs.Observed.{IfBothObserved}
use Rattle.audit_statement.specs.Endings.{IsNewest, KeepsASlot, SavesInTurn, AttemptsObserved, full_of}

-- the end of a run that leaves trajectories pending
abbrev pub stopped_by : ℕ → ℕ → Result (Unit {0}) Failed → Finished
stopped_by done total (Ok saved) = finished.Stopped done total
stopped_by done total (Err failed) = finished.SaveFault

-- the end of a run that wrote its report, in full or in part
abbrev pub ended_by : Result (Unit {0}) Failed → Result (Unit {0}) Failed → Finished
ended_by (Err failed) saved = finished.WriteFault
ended_by (Ok written) (Err failed) = finished.SaveFault
ended_by (Ok written) (Ok saved) = finished.Done

-- the reason with which the call then ends
abbrev pub ended_as : Finished → Ended
ended_as finished.Done = ended.Done
ended_as finished.WriteFault = ended.WriteFault
ended_as (finished.Stopped done total) = ended.Stopped done total
ended_as finished.SaveFault = ended.SaveFault

-- checkpoints were saved in turn, the last of all outcomes, unless a save failed
pub record SavesLast (job : Job) (initial_outcomes : List Outcome) (before after : KeeperState) (result : Result (Unit {0}) Failed) : Type 0 where
  pub kept : IfBothObserved before.slots after.slots (KeepsASlot job initial_outcomes)
  pub in_turn : OnOk result (IfBothObserved before.slots after.slots (SavesInTurn job initial_outcomes))
  pub newest_is : OnOk result (IfBothObserved before.slots after.slots (λ p q. IsNewest job (full_of job initial_outcomes) q))
  pub cause : HasCause before.save_faults after.save_faults result
  pub loads : after.load_faults ≡ before.load_faults
  pub attempted : AttemptsObserved job initial_outcomes before after

-- the run saves nothing, or it saved everything that was due
abbrev pub SavedBy : Bool → Job → List Outcome → KeeperState → KeeperState → Result (Unit {0}) Failed → Type 0
SavedBy false job initial_outcomes before after result = (after ≡ before) × (result ≡ Ok tt)
SavedBy true job initial_outcomes before after result = SavesLast job initial_outcomes before after result
