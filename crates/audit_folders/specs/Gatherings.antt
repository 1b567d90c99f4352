-- The end of a call that gathers folders or only looks at them.
-- Source: this project. The clauses give its status, its outputs and the slots that it leaves, all by the one gathering
-- that it makes.
use Rattle.std.specs.Prelude.{◌≡◌, ◌⊎◌, ℕ, Bool, true, false, not, ◌||◌, List, Result, Ok, Err, IfOk, IfErr}
use Rattle.std.specs.Io.KnownBytes.{Appends}
use Rattle.audit_model.specs.Faults.{Rose}
use Rattle.audit_model.specs.Job.{Job}
use Rattle.audit_model.specs.Run.{total}
use Rattle.audit_model.specs.State.{KeeperState, Stream}
use Rattle.audit_statement.specs.Accepted.{no_columns}
use Rattle.audit_statement.specs.Checkpoint.{job_digest}
use Rattle.audit_statement.specs.Endings.{AddsLine, AppendsPart}
use Rattle.audit_statement.specs.Note.{Ending, folder_taken, load_fault, no_memory, note, save_fault, write_fault}
use Rattle.ckpt_store.specs.declared.gather_result.GatherResult.{GatherResult}
use Rattle.ckpt_store.specs.declared.gather_result.GatherError.{GatherError}
use Rattle.ckpt_store.specs.declared.gather_result.GatherError.TheVariants as ungathered
use Rattle.ckpt_store.specs.Whole.{HasGatherFailed, IsGathering, IsUnsaved}
use Rattle.audit_folders.specs.FolderLines.{refusals, observed_text}

-- the ending of a run that fails for the same reason as this gathering
abbrev pub ending_of : GatherError → Ending
ending_of ungathered.Memory = no_memory
ending_of ungathered.Unread = load_fault
ending_of ungathered.Taken = folder_taken
ending_of ungathered.Unsaved = save_fault

abbrev pub failed_status : GatherError → ℕ
failed_status ungathered.Memory = 3
failed_status ungathered.Unread = 6
failed_status ungathered.Taken = 6
failed_status ungathered.Unsaved = 9

-- the exit status if a folder cannot be gathered
abbrev pub refused_status : ℕ
refused_status = 10

-- the contents of both outputs
pub record Outputs : Type 0 where
  pub out : Stream
  pub note : Stream

-- the whole text was written, and nothing to standard error
pub record IsWhole (before after : Outputs) (text : List ℕ) (status : ℕ) : Type 0 where
  pub status_is : status ≡ 0
  pub written : Appends before.out.bytes after.out.bytes text
  pub same : after.note ≡ before.note

-- writing the text failed: a front of it was written, and the diagnostic of a write fault
pub record IsCutOff (before after : Outputs) (text : List ℕ) (status : ℕ) : Type 0 where
  pub status_is : status ≡ 5
  pub written : AppendsPart before.out.bytes after.out.bytes text
  pub rose : Rose before.out.faults after.out.faults
  pub line : AddsLine before.note after.note (note no_columns write_fault)

-- nothing was written to standard output, and these lines to standard error, or a front of them if that failed
pub record IsNoted (before after : Outputs) (lines : List ℕ) : Type 0 where
  pub same : after.out ≡ before.out
  pub lines_added : AddsLine before.note after.note lines

-- The end of a gathering with findings. They are written if it was only to look, or if it saved. Otherwise the lines
-- say why it did not save.
abbrev pub WritesFindings : Bool → List (List ℕ) → ℕ → GatherResult → Outputs → Outputs → ℕ → Type 0
WritesFindings true names total observed before after status =
    IsWhole before after (observed_text names observed total) status ⊎ IsCutOff before after (observed_text names observed total) status
WritesFindings false names total observed before after status = (status ≡ refused_status) × IsNoted before after (refusals names observed)

abbrev pub WritesGathering : Bool → List (List ℕ) → ℕ → Result GatherResult GatherError → Outputs → Outputs → ℕ → Type 0
WritesGathering saves names total (Ok observed) before after status = WritesFindings (not saves || observed.saved) names total observed before after status
WritesGathering saves names total (Err why) before after status =
    (status ≡ failed_status why) × IsNoted before after (note no_columns (ending_of why))

-- One gathering was made. If it has findings, they, the saves and the slots are those of a gathering. If it failed, it
-- left the slots of such a failure. The status and both outputs report it.
pub record EndsGathering (job : Job) (saves : Bool) (names : List (List ℕ)) (before after : KeeperState) (folders folders_now : List KeeperState) (outputs outputs_now : Outputs) (status : ℕ)
    : Type 0 where
  pub answer : Result GatherResult GatherError
  pub gathered : IfOk answer (IsGathering job (job_digest job) saves before after folders folders_now)
  pub cause : IfErr answer (IsUnsaved (HasGatherFailed job (job_digest job) saves before after folders folders_now) before after)
  pub written : WritesGathering saves names (total job) answer outputs outputs_now status
