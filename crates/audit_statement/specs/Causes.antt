-- Consequences of how a call ended: which status comes exactly when, and when the call completes.
use Rattle.std.specs.Prelude.{◌≡◌, ◌≢◌, ◌⊎◌, ℕ, ◌<◌, Bool, true, false, IsTrue, IsFalse, List, ⊤, Some, None, Ok, IsErr}
use Rattle.audit_model.specs.declared.outcome.Outcome.{Outcome}
use Rattle.audit_model.specs.declared.setting.Setting.{Setting}
use Rattle.audit_model.specs.Job.{Job}
use Rattle.audit_statement.specs.Words.{setting_of}
use Rattle.audit_model.specs.Faults.{Rose}
use Rattle.audit_statement.specs.Accepted.{judged, input_of}
use Rattle.audit_statement.specs.Endings.{is_walking, ObservesInitialOutcomes, leaves_work, IsDone, IsReadFault, IsWriteFault, IsLoadFault, IsSaveFault, IsSlotsFault, IsStopped}
use Rattle.audit_statement.specs.World.{World}

-- the arguments are accepted, and the bytes of the graph are observable
pub record IsObserved (words : List (List ℕ)) (before : World) (setting : Setting) (bytes : List ℕ) : Type 0 where
  pub words_are : setting_of words ≡ Ok setting
  pub input : input_of setting before.source.bytes ≡ Some bytes

-- a walking command finds initial outcomes, and has the budget for all missing ids
abbrev pub HasBudget : Bool → Job → World → Type 0
HasBudget false job before = ⊤
HasBudget true job before = (o : List Outcome) × ObservesInitialOutcomes job before.keeper.slots (Some o) × IsFalse (leaves_work job o)

-- nothing stands in the way: all is accepted, no work is left for another run, and no call failed
pub record MayEndWell (words : List (List ℕ)) (before after : World) : Type 0 where
  pub job : Job
  pub bytes : List ℕ
  pub observed : IsObserved words before job.setting bytes
  pub accepted : judged job.setting bytes ≡ Ok job
  pub budget : HasBudget (is_walking job.setting.command) job before
  pub reads : Rose before.source.faults after.source.faults → ⊥
  pub writes : Rose before.out.faults after.out.faults → ⊥
  pub loads : Rose before.keeper.load_faults.all after.keeper.load_faults.all → ⊥
  pub saves : Rose before.keeper.save_faults after.keeper.save_faults → ⊥

-- then the call completes, or is out of memory
abbrev pub IsComplete : List (List ℕ) → World → World → ℕ → Type 0
IsComplete words before after status = MayEndWell words before after → (status ≡ 0) ⊎ (status ≡ 3)

-- the job of the arguments and of the observable bytes
pub record IsTheJob (words : List (List ℕ)) (before : World) (job : Job) : Type 0 where
  pub bytes : List ℕ
  pub observed : IsObserved words before job.setting bytes
  pub accepted : judged job.setting bytes ≡ Ok job

-- a walking command finds initial outcomes, and walks fewer ids than are missing
pub record LeavesWork (words : List (List ℕ)) (before : World) : Type 0 where
  pub job : Job
  pub the_job : IsTheJob words before job
  pub walking : IsTrue (is_walking job.setting.command)
  pub outcomes : List Outcome
  pub opened : ObservesInitialOutcomes job before.keeper.slots (Some outcomes)
  pub left : IsTrue (leaves_work job outcomes)

-- a walking command is asked to resume, and the slots do not say how
pub record HasNoInitialOutcomes (words : List (List ℕ)) (before : World) : Type 0 where
  pub job : Job
  pub the_job : IsTheJob words before job
  pub walking : IsTrue (is_walking job.setting.command)
  pub undefined : ObservesInitialOutcomes job before.keeper.slots None

-- each refusal comes when it must, unless memory ran out, and no failed call is ignored
pub record HasCauses (words : List (List ℕ)) (before after : World) (status : ℕ) : Type 0 where
  pub one_only : status ≡ 1 → IsErr (setting_of words)
  pub one : IsErr (setting_of words) → (status ≡ 1) ⊎ (status ≡ 3)
  pub two_only : (setting : Setting) (bytes : List ℕ) → IsObserved words before setting bytes → status ≡ 2 → IsErr (judged setting bytes)
  pub two : (setting : Setting) (bytes : List ℕ) → IsObserved words before setting bytes → IsErr (judged setting bytes)
      → (status ≡ 2) ⊎ (status ≡ 3) ⊎ (status ≡ 4)
  pub four_only : status ≡ 4 → IsReadFault words before after
  pub four : before.source.faults < after.source.faults → status ≡ 4
  pub five_only : status ≡ 5 → IsWriteFault words before after
  pub five : before.out.faults < after.out.faults → status ≡ 5
  pub six_only : status ≡ 6 → IsLoadFault words before after
  pub six : before.keeper.load_faults.all < after.keeper.load_faults.all → status ≡ 6
  pub nine_only : status ≡ 9 → IsSaveFault words before after
  pub nine : before.keeper.save_faults < after.keeper.save_faults → (status ≡ 5) ⊎ (status ≡ 9)
  pub zero_only : status ≡ 0 → IsDone words before after
  pub seven_only : status ≡ 7 → (done : ℕ) × ((all : ℕ) × IsStopped words before after done all)
  pub seven : LeavesWork words before → status ≢ 3 → status ≢ 4 → status ≢ 6 → status ≢ 9 → status ≡ 7
  pub eight_only : status ≡ 8 → IsSlotsFault words before after (λ job p. ⊤)
  pub eight : HasNoInitialOutcomes words before → status ≢ 3 → status ≢ 4 → status ≢ 6 → status ≡ 8
