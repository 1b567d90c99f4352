-- An audit completes if no call of its source, output and keeper fails.
use Rattle.std.specs.Prelude.{◌≡◌, ◌⊎◌, ℕ, true, false, List, Some, None, Ok}
use Rattle.audit_model.specs.declared.setting.Setting.{Setting}
use Rattle.audit_model.specs.Job.{Job}
use Rattle.audit_model.specs.State.{SureSlots}
use Rattle.audit_statement.specs.Accepted.{judged}
use Rattle.audit_statement.specs.Causes.{HasBudget, IsObserved}
use Rattle.audit_statement.specs.Endings.{is_walking}
use Rattle.audit_statement.specs.Several.{AreTheJobs, names_plans}
use Rattle.audit_statement.specs.Jobs.{Jobs}
use Rattle.audit_statement.specs.World.{World}

-- the outside: these bytes to read, an unobservable output, these slots, and no fault
abbrev pub sure_world : List ℕ → SureSlots → World
sure_world graph keeper = record {
  source = record { bytes = Some graph; faults = 0 };
  out = record { bytes = None; faults = 0 };
  keeper = record { slots = Some keeper.slots; attempted = Some keeper.attempted; load_faults = record { all = 0; taken = 0 }; save_faults = 0 };
}

-- arguments, graph and plan are accepted; a walking command finds initial outcomes, and has the budget for all missing
-- ids
pub record MayBegin (words : List (List ℕ)) (before : World) : Type 0 where
  pub job : Job
  pub bytes : List ℕ
  pub observed : IsObserved words before job.setting bytes
  pub accepted : judged job.setting bytes ≡ Ok job
  pub budget : HasBudget (is_walking job.setting.command) job before

-- then the call completes, or is out of memory
abbrev pub EndsSurely : List (List ℕ) → World → ℕ → Type 0
EndsSurely words before status = MayBegin words before → (status ≡ 0) ⊎ (status ≡ 3)

-- arguments, graph, regions, table and plans are accepted as these jobs
pub record MayBeginPlans (words : List (List ℕ)) (before : World) : Type 0 where
  pub setting : Setting
  pub jobs : Jobs
  pub the_jobs : AreTheJobs words before setting jobs

-- then the call completes, or is out of memory
abbrev pub PlansEndSurely : List (List ℕ) → World → ℕ → Type 0
PlansEndSurely words before status = MayBeginPlans words before → (status ≡ 0) ⊎ (status ≡ 3)

-- this holds for one plan and for several
pub record EachEndsSurely (words : List (List ℕ)) (before : World) (status : ℕ) : Type 0 where
  pub one : names_plans words ≡ false → EndsSurely words before status
  pub several : names_plans words ≡ true → PlansEndSurely words before status
