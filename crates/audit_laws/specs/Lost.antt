-- Nothing that was saved is lost, at whatever moment a run is stopped, and whether it ever returns or not.
use Rattle.std.specs.Prelude.{◌≡◌, ◌⊎◌, ℕ, true, List, Some}
use Rattle.std.specs.List.{All, Contains}
use Rattle.audit_model.specs.Pair.{Pair}
use Rattle.audit_model.specs.Attempts.{Try}
use Rattle.audit_model.specs.declared.outcome.Outcome.{Outcome}
use Rattle.audit_model.specs.Job.{Job}
use Rattle.audit_model.specs.JobOf.{IsJob}
use Rattle.audit_statement.specs.Checkpoint.{IsCheckpoint, job_digest}
use Rattle.audit_statement.specs.Histories.{AreCarriedOut, IsNotValid, KeepsNewest, newest_bytes, stopped_in}
use Rattle.audit_statement.specs.Chain.{AttemptsOver}
use Rattle.audit_statement.specs.Endings.{initial_outcomes_from}
use Rattle.audit_statement.specs.Rerun.{AreAttemptsSoFar}
use Rattle.audit_statement.specs.World.{World}
use Rattle.audit_laws.specs.Gathered.{Hold}

-- The newest slot is a checkpoint of the job that holds each of these outcomes. A run that resumes over these slots
-- starts from the outcomes of this checkpoint.
pub record HoldsAll (job : Job) (q : Pair) (outcomes : List Outcome) : Type 0 where
  pub bytes : List ℕ
  pub is_newest : newest_bytes job (job_digest job) q ≡ Some bytes
  pub generation : ℕ
  pub saved : List Outcome
  pub sound : IsCheckpoint bytes 2 (job_digest job) generation saved
  pub given : Hold job q saved
  pub kept_outcomes : All (Contains saved) outcomes

-- the save is a checkpoint of the job, and the newest slot holds each of its outcomes
pub record IsKeptIn (job : Job) (q : Pair) (save : Try) : Type 0 where
  pub generation : ℕ
  pub outcomes : List Outcome
  pub sound : IsCheckpoint save.bytes 2 (job_digest job) generation outcomes
  pub kept : HoldsAll job q outcomes

-- the newest slot is the one from which the run started, or contains each initial outcome
abbrev pub KeepsInitialOutcomes : Job → Pair → Pair → List Outcome → Type 0
KeepsInitialOutcomes job p q initial_outcomes = (newest_bytes job (job_digest job) q ≡ newest_bytes job (job_digest job) p) ⊎ HoldsAll job q initial_outcomes

-- These save attempts led from the first slots to the second ones. The newest slot now holds all that each attempt
-- saved that succeeded, and all outcomes with which the run started.
pub record LosesNothing (job : Job) (p q : Pair) (attempts : List Try) : Type 0 where
  pub saved : All (λ save. save.succeeded ≡ true → IsKeptIn job q save) attempts
  pub opened : (outcomes : List Outcome) → initial_outcomes_from job.setting.resume job p ≡ Some outcomes → KeepsInitialOutcomes job p q outcomes

-- At any moment of a run, the save attempts so far have kept the newest slot of before or have left a newer one: the
-- last save that succeeded, or a later one that failed and had left all its bytes. The last attempt may have been cut
-- off, and the run need not be one that returns. Of a save that failed or was cut off, the keeper alone is asked that
-- it left what was there, the first bytes of the save or all of them, or no intact checkpoint.
abbrev pub StopsKeepTheNewest : Type 0
StopsKeepTheNewest = (job : Job) (p q : Pair) (attempts : List Try) → IsJob job → AreAttemptsSoFar job p attempts → AreCarriedOut IsNotValid job (job_digest job) p attempts q
    → KeepsNewest job (job_digest job) p attempts q

-- At any such moment the newest slot keeps what each save held that succeeded, and what the run opened with.
abbrev pub StopsLoseNothing : Type 0
StopsLoseNothing = (job : Job) (p q : Pair) (attempts : List Try) → IsJob job → AreAttemptsSoFar job p attempts → AreCarriedOut IsNotValid job (job_digest job) p attempts q
    → LosesNothing job p q attempts

-- The save attempts of a run that returned, all of them or cut off within any of them, are attempts so far of a run. So
-- what holds of these also holds of runs that returned.
abbrev pub EndsAreStops : Type 0
EndsAreStops = (job : Job) (before after : World) (p : Pair) (status : ℕ) (observed now : List Try) (t : AttemptsOver job before after p status observed now) (outcomes : List Outcome)
    → before.keeper.slots ≡ Some p → initial_outcomes_from job.setting.resume job p ≡ Some outcomes → (n : ℕ) → AreAttemptsSoFar job p (stopped_in n t.attempts)
