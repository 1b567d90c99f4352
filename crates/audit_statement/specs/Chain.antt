-- Runs one after another over the same slots.
use Rattle.std.specs.Prelude.{◌≡◌, ℕ, ◌+◌, ◌-◌, ◌^◌, ◌<◌, ◌≤◌, ◌==◌, ◌&&◌, ◌||◌, min, Bool, true, false, List, [], ◌++◌, length, Some, IsTrue}
use Rattle.std.specs.List.{All, AllPairs, Contains}
use Rattle.audit_model.specs.Pair.{Pair}
use Rattle.audit_model.specs.Attempts.{Try}
use Rattle.audit_model.specs.declared.outcome.Outcome.{Outcome}
use Rattle.audit_model.specs.Job.{Job}
use Rattle.audit_model.specs.Run.{IsRight}
use Rattle.audit_statement.specs.Checkpoint.{IsCheckpoint, job_digest}
use Rattle.audit_statement.specs.Histories.{AreInTurn, IsRightSave}
use Rattle.audit_statement.specs.Slots.{AreConsistent}
use Rattle.audit_statement.specs.InOrder.{failed_of}
use Rattle.audit_statement.specs.Draw.{draw}
use Rattle.audit_statement.specs.Causes.{IsTheJob}
use Rattle.audit_model.specs.Observed.{IfBothObserved, IfObserved}
use Rattle.audit_statement.specs.Endings.{AreRunSaves, IsTryOf, NoSaveFailed, ObservesInitialOutcomes, count_of_saves, place_of, saves}
use Rattle.audit_statement.specs.Headline.{StartsWith, WritesOneThreads}
use Rattle.audit_statement.specs.World.{World}

-- all outcomes of the job in both slots were found by its trajectories
abbrev pub AreConsistentOf : Job → Pair → Type 0
AreConsistentOf job p = AreConsistent job (draw job.setting.key) (job_digest job) p

-- a run that resumes finds consistent slots; for other runs nothing is required
abbrev pub ResumesFromConsistent : Job → World → Type 0
ResumesFromConsistent job before = IsTrue job.setting.resume → IfObserved before.keeper.slots (AreConsistentOf job)

-- the later save holds each outcome of the earlier one, and more if that one succeeded
pub record IsContainedIn (job : Job) (earlier later : Try) : Type 0 where
  pub first : List Outcome
  pub first_generation : ℕ
  pub first_is : IsCheckpoint earlier.bytes 2 (job_digest job) first_generation first
  pub second : List Outcome
  pub second_generation : ℕ
  pub second_is : IsCheckpoint later.bytes 2 (job_digest job) second_generation second
  pub kept_outcomes : All (Contains second) first
  pub more : earlier.succeeded ≡ true → length first < length second

-- the statuses of a call that has walked: all done, a failed write or save, or work left
abbrev pub has_walked : ℕ → Bool
has_walked status = (status == 0) || (status == 5) || (status == 7) || (status == 9)

-- the saves are exactly those of a run that saves and has walked, otherwise there are none
abbrev pub AreSavesWhere : Bool → Job → List Outcome → Pair → List Try → Type 0
AreSavesWhere true job outcomes p attempts = AreRunSaves job outcomes p attempts
AreSavesWhere false job outcomes p attempts = attempts ≡ []

-- The save attempts of a call on the job over these slots, with their success. They are all that the keeper was asked
-- for, and exactly those of a run that starts from these slots. Each went to the current place, which advances after a
-- success, and holds initial outcomes and outcomes of missing ids. Each holds all that earlier ones hold, and more than
-- those that succeeded. If all succeeded, their number is that of a run's saves. The keeper's count covers the
-- failures. If the run resumed from consistent slots, all outcomes are those of the job's trajectories.
pub record AttemptsOver (job : Job) (before after : World) (p : Pair) (status : ℕ) (observed now : List Try) : Type 0 where
  pub attempts : List Try
  pub appended : now ≡ observed ++ attempts
  pub exactly : (outcomes : List Outcome) → ObservesInitialOutcomes job before.keeper.slots (Some outcomes)
      → AreSavesWhere (saves job.setting && has_walked status) job outcomes p attempts
  pub in_turn : AreInTurn job (job_digest job) (place_of job p).0 (place_of job p).1 attempts
  pub each : (outcomes : List Outcome) → ObservesInitialOutcomes job before.keeper.slots (Some outcomes) → All (IsTryOf job outcomes) attempts
  pub growing : AllPairs (IsContainedIn job) attempts
  pub counted : (outcomes : List Outcome) → ObservesInitialOutcomes job before.keeper.slots (Some outcomes) → IsTrue (saves job.setting && has_walked status)
      → All (λ t. t.succeeded ≡ true) attempts → length attempts ≡ count_of_saves job outcomes
  pub covered : min (before.keeper.save_faults + failed_of attempts) (2 ^ 64 - 1) ≤ after.keeper.save_faults
  pub right : ResumesFromConsistent job before → All (λ t. IsRightSave job (draw job.setting.key) (job_digest job) t.bytes) attempts

-- the save attempts, if the keeper is observable
abbrev pub AttemptedRightly : List (List ℕ) → World → World → ℕ → Type 0
AttemptedRightly words before after status = (job : Job) (p : Pair) → IsTheJob words before job → before.keeper.slots ≡ Some p
    → IfBothObserved before.keeper.attempted after.keeper.attempted (AttemptsOver job before after p status)

-- from consistent slots, a run starts with right outcomes, writes the report of one thread and, if no save failed,
-- leaves consistent slots for the next run
pub record StaysConsistent (words : List (List ℕ)) (before after : World) (status : ℕ) : Type 0 where
  pub opens_right : (job : Job) (outcomes : List Outcome) → StartsWith words before job outcomes → ResumesFromConsistent job before
      → IsRight job (draw job.setting.key) outcomes
  pub one_thread : (job : Job) (outcomes : List Outcome) → StartsWith words before job outcomes → ResumesFromConsistent job before → status ≡ 0
      → WritesOneThreads job before after
  pub stays : (job : Job) (p q : Pair) → IsTheJob words before job → before.keeper.slots ≡ Some p → after.keeper.slots ≡ Some q → AreConsistentOf job p
      → NoSaveFailed before after → AreConsistentOf job q
