-- The job of the arguments of a run, and the end of a call that does something with it.
-- Source: this project. The arguments are those that the auditor takes, and the graph is its source.
use Rattle.std.specs.Prelude.{◌≡◌, ◌⊎◌, ℕ, Bool, ◌||◌, List, [], ◌∷◌, bytes_eq, codes, cond, Option, Some, None, Result, Ok, Err}
use Rattle.audit_model.specs.Job.{Job}
use Rattle.audit_model.specs.State.{Stream}
use Rattle.audit_model.specs.declared.fault.WordFault.TheVariants.{UnknownCommand}
use Rattle.audit_folders.specs.Gatherings.{Outputs}
use Rattle.audit_start.specs.Steps.{Prepares}
use Rattle.audit_statement.specs.DueText.{LetsBytes, LetsText}
use Rattle.audit_statement.specs.Endings.{WritesEnding}
use Rattle.audit_statement.specs.Status.{line_of, status_of}
use Rattle.report.specs.Ended.{columns_kept, ending_of}
use Rattle.report.specs.declared.ended.Ended.{Ended}
use Rattle.report.specs.declared.ended.Ended.TheVariants as ended

-- a command that saves nothing: it has no folders
abbrev pub is_idle : List ℕ → Bool
is_idle word = bytes_eq word (codes "check") || (bytes_eq word (codes "plans") || bytes_eq word (codes "trace"))

-- the command of the arguments, if it is one that saves nothing
abbrev pub idle_command : List (List ℕ) → Option (List ℕ)
idle_command [] = None
idle_command (word ∷ rest) = cond (is_idle word) (Some word) None

-- a command that saves nothing is refused as an unknown one; else the job is that of an audit, or there is none for the
-- reason that the audit gives
abbrev pub HasJobBy : Option (List ℕ) → List (List ℕ) → Stream → Stream → Result Job Ended → Type 0
HasJobBy None words before after result = Prepares words before after result
HasJobBy (Some word) words before after result = (after ≡ before) × ((result ≡ Err ended.NoMemory) ⊎ (result ≡ Err (ended.BadWords (UnknownCommand word))))

abbrev pub HasJob : List (List ℕ) → Stream → Stream → Result Job Ended → Type 0
HasJob words before after result = HasJobBy (idle_command words) words before after result

-- nothing was written but the diagnostic of this reason, whose status is this one
pub record EndsFor (why : Ended) (before after : Outputs) (status : ℕ) : Type 0 where
  pub status_is : status ≡ status_of (ending_of why)
  pub same : after.out ≡ before.out
  pub line : WritesEnding (columns_kept why) before.note after.note (ending_of why)

-- the end of a call with this job, or without a job for this reason
abbrev pub EndsBy : Type 0 → (Job → Type 0) → Result Job Ended → Outputs → Outputs → ℕ → Type 0
EndsBy Unused Ends (Ok job) before after status = Ends job
EndsBy Unused Ends (Err why) before after status = EndsFor why before after status × Unused

-- The arguments and the source gave a job, and this is the end with it. Or they gave none: the call ended for the
-- reason why, and used no folder.
pub record EndsWithJob (words : List (List ℕ)) (source source_now : Stream) (outputs outputs_now : Outputs) (status : ℕ) (Unused : Type 0) (Ends : Job → Type 0) : Type 0 where
  pub answer : Result Job Ended
  pub job : HasJob words source source_now answer
  pub ended : EndsBy Unused Ends answer outputs outputs_now status

-- the sink permits the line of each reason why the arguments and the source may have no job
abbrev pub LetsNoJob : LetsBytes → List (List ℕ) → Stream → Stream → Type 0
LetsNoJob lets words source note_before =
    (after : Stream) (why : Ended) → HasJob words source after (Err why) → LetsText lets note_before (line_of (columns_kept why) (ending_of why))
