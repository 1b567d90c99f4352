-- The text that the folder programs may hand to their sinks at any moment, even if they never return.
use Rattle.std.specs.Prelude.{◌≡◌, ℕ, Bool, true, false, not, ◌||◌, List, Option}
use Rattle.audit_model.specs.Job.{Job}
use Rattle.audit_model.specs.Observed.{IfObserved}
use Rattle.audit_model.specs.Pair.{Pair}
use Rattle.audit_model.specs.Run.{total}
use Rattle.audit_model.specs.State.{KeeperState, Stream}
use Rattle.audit_statement.specs.Accepted.{no_columns}
use Rattle.audit_statement.specs.Checkpoint.{job_digest}
use Rattle.audit_statement.specs.Note.{folder_taken, load_fault, no_memory, note, write_fault}
use Rattle.ckpt_store.specs.Holding.{HoldsStored}
use Rattle.ckpt_store.specs.Whole.{IsGathering}
use Rattle.ckpt_store.specs.declared.gather_result.GatherError.{GatherError}
use Rattle.ckpt_store.specs.declared.gather_result.GatherResult.{GatherResult}
use Rattle.ckpt_store.specs.declared.slot_content.SlotContent.{SlotContent}
use Rattle.audit_folders.specs.FolderLines.{observed_text, refusals}
use Rattle.audit_folders.specs.Gatherings.{ending_of}
use Rattle.audit_folders.specs.SlotLines.{slots_text}
use Rattle.audit_statement.specs.DueText.{LetsBytes, LetsText}

-- the sink permits the report on two slots, which are the known ones if the keeper is observable
abbrev pub LetsShowing : LetsBytes → Option Job → Option Pair → Stream → Type 0
LetsShowing lets job observed out =
    (pair : Pair) (first second : SlotContent) → IfObserved observed (λ p. pair ≡ p) → HoldsStored pair.zero_slot first → HoldsStored pair.one_slot second
    → LetsText lets out (slots_text job pair first second)

-- the sink permits the line of each reason for which no such report is written
pub record LetsShowingLine (lets : LetsBytes) (note_before : Stream) : Type 0 where
  pub memory : LetsText lets note_before (note no_columns no_memory)
  pub load : LetsText lets note_before (note no_columns load_fault)
  pub taken : LetsText lets note_before (note no_columns folder_taken)
  pub write : LetsText lets note_before (note no_columns write_fault)

-- a gathering over these states may end with these findings
pub record MayFind (job : Job) (saves : Bool) (before : KeeperState) (folders : List KeeperState) (observed : GatherResult) : Type 0 where
  pub after : KeeperState
  pub folders_now : List KeeperState
  pub gathering : IsGathering job (job_digest job) saves before after folders folders_now observed

-- the sink permits the findings of a gathering that only looks, or that saved
abbrev pub LetsFindings : LetsBytes → Job → Bool → List (List ℕ) → KeeperState → List KeeperState → Stream → Type 0
LetsFindings lets job saves names before folders out =
    (observed : GatherResult) → MayFind job saves before folders observed → (not saves || observed.saved) ≡ true → LetsText lets out (observed_text names observed (total job))

-- the sink permits the reasons why a gathering did not save, or why it or a write failed
pub record LetsGatherLine (lets : LetsBytes) (job : Job) (saves : Bool) (names : List (List ℕ)) (before : KeeperState) (folders : List KeeperState) (note_before : Stream) : Type 0 where
  pub unsaved : (observed : GatherResult) → MayFind job saves before folders observed → (not saves || observed.saved) ≡ false → LetsText lets note_before (refusals names observed)
  pub failed : (why : GatherError) → LetsText lets note_before (note no_columns (ending_of why))
  pub write : LetsText lets note_before (note no_columns write_fault)
