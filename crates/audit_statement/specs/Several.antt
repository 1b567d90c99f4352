-- Several plans on one graph: the accepted jobs, how a call ends, and its consequences by statuses and observable
-- facts.
use Rattle.std.specs.Prelude.{◌≡◌, ◌≢◌, ◌⊎◌, ℕ, ◌<◌, ◌≤◌, Bool, true, false, nat_lt, List, [], ◌∷◌, length, codes, bytes_eq, ⊤, Option, Some, None, Result, Ok, Err, IsErr}
use Rattle.std.specs.List.{All}
use Rattle.std.specs.Io.KnownBytes.{Appends, IsAtEnd}
use Rattle.audit_model.specs.Faults.{Rose}
use Rattle.audit_model.specs.declared.setting.Setting.{Setting}
use Rattle.audit_model.specs.Job.{Job}
use Rattle.audit_model.specs.Plan.{IsLegal}
use Rattle.audit_model.specs.Trajectory.{hub, visit}
use Rattle.audit_statement.specs.Draw.{draw}
use Rattle.audit_statement.specs.Note.{Ending, bad_words, too_many_bytes, bad_graph, bad_regions, bad_table, bad_plan, bad_plan_named, no_memory, read_fault, write_fault, load_fault, folder_taken, stopped, damaged, other_job, save_fault}
use Rattle.audit_model.specs.declared.fault.PlansFault.{PlansFault}
use Rattle.audit_model.specs.declared.fault.PlansFault.TheVariants as fault
use Rattle.audit_statement.specs.Jobs.{Jobs, jobs_reading}
use Rattle.audit_statement.specs.Report.{plans_text}
use Rattle.audit_statement.specs.Words.{setting_of}
use Rattle.audit_statement.specs.Accepted.{columns_of, most_bytes}
use Rattle.audit_statement.specs.Endings.{AppendsPart, SameUnless, TakesTooMany, WritesEnding}
use Rattle.audit_statement.specs.Status.{status_of}
use Rattle.audit_model.specs.State.{Stream}
use Rattle.audit_model.specs.Observed.{IfObserved}
use Rattle.audit_statement.specs.World.{World}

-- the command is the one for several plans
abbrev pub names_plans : List (List ℕ) → Bool
names_plans [] = false
names_plans (word ∷ rest) = bytes_eq word (codes "plans")

-- ---- accepted input

-- the ending for a fault; out of memory is not a fault of the input
abbrev pub ending_for : Setting → PlansFault → Ending
ending_for setting (fault.Graph f) = bad_graph f
ending_for setting (fault.Regions f) = bad_regions setting.region f
ending_for setting (fault.Table f) = bad_table f
ending_for setting (fault.Own f) = bad_plan f
ending_for setting (fault.Other name f) = bad_plan_named name f
ending_for setting fault.Memory = no_memory

-- the jobs, or the ending for the fault
abbrev pub from_jobs : Setting → Result Jobs PlansFault → Result Jobs Ending
from_jobs setting (Ok jobs) = Ok jobs
from_jobs setting (Err f) = Err (ending_for setting f)

-- the jobs of bytes within the limit, or the ending for too many
abbrev pub from_size : Setting → List ℕ → Bool → Result Jobs Ending
from_size setting bytes true = Err too_many_bytes
from_size setting bytes false = from_jobs setting (jobs_reading setting bytes)

-- the jobs of these bytes, or the ending for the first fault
unfoldable pub plans_judged : Setting → List ℕ → Result Jobs Ending
plans_judged setting bytes = from_size setting bytes (nat_lt most_bytes (length bytes))

-- the arguments are accepted as this setting; if the source is observable, its bytes are these
pub record HasPlansInput (words : List (List ℕ)) (left : Option (List ℕ)) (setting : Setting) (bytes : List ℕ) : Type 0 where
  pub words_are : setting_of words ≡ Ok setting
  pub given : IfObserved left (λ input. input ≡ bytes)

-- all was accepted as these jobs, and the source was read to its end
pub record ArePrepared (words : List (List ℕ)) (before after : Stream) (setting : Setting) (jobs : Jobs) : Type 0 where
  pub bytes : List ℕ
  pub input : HasPlansInput words before.bytes setting bytes
  pub judged_so : plans_judged setting bytes ≡ Ok jobs
  pub at_end : IsAtEnd after.bytes
  pub faults : after.faults ≡ before.faults

-- the arguments were accepted, and the input was refused with this ending
pub record ArePlansRefused (words : List (List ℕ)) (left : Option (List ℕ)) (ending : Ending) : Type 0 where
  pub setting : Setting
  pub bytes : List ℕ
  pub input : HasPlansInput words left setting bytes
  pub judged_so : plans_judged setting bytes ≡ Err ending

-- every plan that a trajectory visits, from the start plan or the hub, on any stream and after any number of steps, is
-- legal
pub record VisitsLegally (job : Job) : Type 0 where
  pub from_start : (stream step : ℕ) → IsLegal job (visit job (draw job.setting.key stream) job.start step)
  pub from_hub : (stream step : ℕ) → IsLegal job (visit job (draw job.setting.key stream) (hub job (draw job.setting.key)) step)

-- each of the jobs visits legal plans only
abbrev pub VisitLegally : Jobs → Type 0
VisitLegally jobs = All (λ plan. VisitsLegally plan.1) jobs

-- ---- endings

-- the report of each job, as it would be alone, was written, one after another
pub record ArePlansDone (words : List (List ℕ)) (before after : World) : Type 0 where
  pub setting : Setting
  pub jobs : Jobs
  pub prepared : ArePrepared words before.source after.source setting jobs
  pub written : Appends before.out.bytes after.out.bytes (plans_text (draw setting.key) jobs)
  pub legal : VisitLegally jobs

-- a prefix of that text was written, and a write failed
pub record ArePlansCutOff (words : List (List ℕ)) (before after : World) : Type 0 where
  pub setting : Setting
  pub jobs : Jobs
  pub prepared : ArePrepared words before.source after.source setting jobs
  pub written : AppendsPart before.out.bytes after.out.bytes (plans_text (draw setting.key) jobs)
  pub legal : VisitLegally jobs
  pub rose : Rose before.out.faults after.out.faults

-- the bytes are more than the limit, and the source was read no further than that
pub record AreTooManyBytes (words : List (List ℕ)) (before after : World) : Type 0 where
  pub refused : ArePlansRefused words before.source.bytes too_many_bytes
  pub taken : TakesTooMany true before.source.bytes after.source.bytes

-- the arguments are accepted, and a read failed
pub record IsPlansReadFault (words : List (List ℕ)) (before after : World) : Type 0 where
  pub setting : Setting
  pub words_are : setting_of words ≡ Ok setting
  pub rose : Rose before.source.faults after.source.faults

-- the cause of an ending
abbrev pub PlansCause : List (List ℕ) → World → World → Option Ending → Type 0
PlansCause words before after None = ArePlansDone words before after
PlansCause words before after (Some (bad_words f)) = setting_of words ≡ Err f
PlansCause words before after (Some too_many_bytes) = AreTooManyBytes words before after
PlansCause words before after (Some (bad_graph f)) = ArePlansRefused words before.source.bytes (bad_graph f)
PlansCause words before after (Some (bad_regions column f)) = ArePlansRefused words before.source.bytes (bad_regions column f)
PlansCause words before after (Some (bad_table f)) = ArePlansRefused words before.source.bytes (bad_table f)
PlansCause words before after (Some (bad_plan f)) = ArePlansRefused words before.source.bytes (bad_plan f)
PlansCause words before after (Some (bad_plan_named name f)) = ArePlansRefused words before.source.bytes (bad_plan_named name f)
PlansCause words before after (Some no_memory) = ⊤
PlansCause words before after (Some read_fault) = IsPlansReadFault words before after
PlansCause words before after (Some write_fault) = ArePlansCutOff words before after
PlansCause words before after (Some load_fault) = ⊥
PlansCause words before after (Some folder_taken) = ⊥
PlansCause words before after (Some (stopped done all)) = ⊥
PlansCause words before after (Some (damaged first second)) = ⊥
PlansCause words before after (Some (other_job found wanted)) = ⊥
PlansCause words before after (Some save_fault) = ⊥

-- the endings that may have read, seen a read fail, written, and seen a write fail
pub record PlansMarks : Type 0 where
  pub read : Bool
  pub read_failed : Bool
  pub wrote : Bool
  pub write_failed : Bool

-- the marks of each ending
abbrev pub plans_marks : Option Ending → PlansMarks
plans_marks None = record { read = true; read_failed = false; wrote = true; write_failed = false }
plans_marks (Some (bad_words f)) = record { read = false; read_failed = false; wrote = false; write_failed = false }
plans_marks (Some read_fault) = record { read = true; read_failed = true; wrote = false; write_failed = false }
plans_marks (Some write_fault) = record { read = true; read_failed = false; wrote = true; write_failed = true }
plans_marks (Some _) = record { read = true; read_failed = false; wrote = false; write_failed = false }

-- all else is unchanged; no slot is looked at or changed
pub record PlansLeave (before after : World) (marks : PlansMarks) : Type 0 where
  pub source : SameUnless marks.read before.source after.source
  pub read_faults : SameUnless marks.read_failed before.source.faults after.source.faults
  pub out : SameUnless marks.wrote before.out.bytes after.out.bytes
  pub write_faults : SameUnless marks.write_failed before.out.faults after.out.faults
  pub keeper : after.keeper ≡ before.keeper

-- there is a reason: the status shows it, it has its cause, the rest is unchanged, and the diagnostic says it
pub record PlansEnd (words : List (List ℕ)) (before after : World) (note_before note_after : Stream) (status : ℕ) : Type 0 where
  pub reason : Option Ending
  pub status_is : status ≡ status_of reason
  pub cause : PlansCause words before after reason
  pub untouched : PlansLeave before after (plans_marks reason)
  pub observed : WritesEnding (columns_of words) note_before note_after reason

-- ---- consequences

-- the arguments are accepted, and the bytes are observable
pub record AreObservedPlans (words : List (List ℕ)) (before : World) (setting : Setting) (bytes : List ℕ) : Type 0 where
  pub words_are : setting_of words ≡ Ok setting
  pub input : before.source.bytes ≡ Some bytes

-- and all is accepted as these jobs
pub record AreTheJobs (words : List (List ℕ)) (before : World) (setting : Setting) (jobs : Jobs) : Type 0 where
  pub bytes : List ℕ
  pub observed : AreObservedPlans words before setting bytes
  pub accepted : plans_judged setting bytes ≡ Ok jobs

-- With status 0 exactly the reports that the plans would get alone were written, one after another, with status 5 a
-- prefix of them; in both cases every visited plan was legal. Only the statuses 0 to 5 occur. Each refusal comes when
-- it must, unless memory ran out, and no failed call is ignored. If nothing stands in the way, the call completes or is
-- out of memory.
pub record PlansCauses (words : List (List ℕ)) (before after : World) (status : ℕ) : Type 0 where
  pub written : (setting : Setting) (jobs : Jobs) → AreTheJobs words before setting jobs → status ≡ 0
      → Appends before.out.bytes after.out.bytes (plans_text (draw setting.key) jobs)
  pub cut_off : (setting : Setting) (jobs : Jobs) → AreTheJobs words before setting jobs → status ≡ 5
      → AppendsPart before.out.bytes after.out.bytes (plans_text (draw setting.key) jobs)
  pub legal : (setting : Setting) (jobs : Jobs) → AreTheJobs words before setting jobs → (status ≡ 0) ⊎ (status ≡ 5) → VisitLegally jobs
  pub unwritten : status ≢ 0 → status ≢ 5 → after.out.bytes ≡ before.out.bytes
  pub read_to_end : status ≡ 0 → IsAtEnd after.source.bytes
  pub few : status ≤ 5
  pub one_only : status ≡ 1 → IsErr (setting_of words)
  pub one : IsErr (setting_of words) → (status ≡ 1) ⊎ (status ≡ 3)
  pub two_only : (setting : Setting) (bytes : List ℕ) → AreObservedPlans words before setting bytes → status ≡ 2 → IsErr (plans_judged setting bytes)
  pub two : (setting : Setting) (bytes : List ℕ) → AreObservedPlans words before setting bytes → IsErr (plans_judged setting bytes)
      → (status ≡ 2) ⊎ (status ≡ 3) ⊎ (status ≡ 4)
  pub four_only : status ≡ 4 → Rose before.source.faults after.source.faults
  pub four : before.source.faults < after.source.faults → status ≡ 4
  pub five_only : status ≡ 5 → Rose before.out.faults after.out.faults
  pub five : before.out.faults < after.out.faults → status ≡ 5
  pub complete : (setting : Setting) (jobs : Jobs) → AreTheJobs words before setting jobs → (Rose before.source.faults after.source.faults → ⊥)
      → (Rose before.out.faults after.out.faults → ⊥) → (status ≡ 0) ⊎ (status ≡ 3)
  pub kept : after.keeper ≡ before.keeper

-- the promise of a call on several plans
pub record KeepsPlansPromise (words : List (List ℕ)) (before after : World) (note_before note_after : Stream) (status : ℕ) : Type 0 where
  pub causes : PlansCauses words before after status
  pub ends : PlansEnd words before after note_before note_after status
