-- The meaning of the arguments of `audit_slots`, and the end of a call.
-- Source: this project. The first argument is the folder, unless it is a command; the arguments of a run may follow.
use Rattle.std.specs.Prelude.{◌≡◌, ℕ, Bool, false, List, [], ◌∷◌, codes, cond, Option, Some, None, is_some, unwrap_or}
use Rattle.audit_model.specs.Job.{Job}
use Rattle.audit_model.specs.Pair.{Pair}
use Rattle.audit_model.specs.State.{KeeperState, Stream}
use Rattle.audit_folders.specs.DueFolders.{LetsShowing, LetsShowingLine}
use Rattle.audit_folders.specs.Gatherings.{Outputs}
use Rattle.audit_folders.specs.Jobs.{EndsWithJob, HasJob, LetsNoJob}
use Rattle.audit_folders.specs.SlotLines.{EndsShowing}
use Rattle.audit_statement.specs.DueText.{LetsBytes}
use Rattle.audit_statement.specs.Words.{command_of}
use Rattle.std.specs.Prelude.{Ok}

-- the state of a folder's slots when it is opened: by its path, and by whether each load takes its lock
abbrev pub Opens : Type 0
Opens = List ℕ → Bool → KeeperState

-- the folder that the arguments name, or else the working folder
abbrev pub shown_folder : List (List ℕ) → List ℕ
shown_folder [] = codes "."
shown_folder (word ∷ rest) = cond (is_some (command_of word)) (codes ".") word

-- the arguments of the run
abbrev pub run_arguments : List (List ℕ) → List (List ℕ)
run_arguments [] = []
run_arguments (word ∷ rest) = cond (is_some (command_of word)) (word ∷ rest) rest

-- the report on a folder, which was in this state when it was opened; it is unchanged if it was not opened
abbrev pub ShowsFolder : Option Job → KeeperState → Option KeeperState → Outputs → Outputs → ℕ → Type 0
ShowsFolder job before after outputs outputs_now status = EndsShowing job before (unwrap_or after before) outputs outputs_now status

-- the report on a folder: without arguments of a run on its slots alone, and nothing is read; else also on their job
abbrev pub ShowsBy : Opens → List ℕ → List (List ℕ) → Stream → Stream → Option KeeperState → Outputs → Outputs → ℕ → Type 0
ShowsBy opens folder [] source source_now after outputs outputs_now status =
    (source_now ≡ source) × ShowsFolder None (opens folder false) after outputs outputs_now status
ShowsBy opens folder (word ∷ words) source source_now after outputs outputs_now status =
    EndsWithJob (word ∷ words) source source_now outputs outputs_now status (after ≡ None)
    (λ job. ShowsFolder (Some job) (opens folder false) after outputs outputs_now status)

-- the end of a call with these arguments
abbrev pub ShowsSlots : Opens → List (List ℕ) → Stream → Stream → Option KeeperState → Outputs → Outputs → ℕ → Type 0
ShowsSlots opens words source source_now after outputs outputs_now status =
    ShowsBy opens (shown_folder words) (run_arguments words) source source_now after outputs outputs_now status

-- the sink permits each report on a folder with these slots
abbrev pub LetsShown : LetsBytes → List (List ℕ) → Stream → Option Pair → Stream → Type 0
LetsShown lets [] source slots out = LetsShowing lets None slots out
LetsShown lets (word ∷ words) source slots out = (after : Stream) (job : Job) → HasJob (word ∷ words) source after (Ok job) → LetsShowing lets (Some job) slots out

-- the sink permits the line of each reason for which no such report is written
abbrev pub LetsShownLine : LetsBytes → List (List ℕ) → Stream → Stream → Type 0
LetsShownLine lets [] source note_before = LetsShowingLine lets note_before
LetsShownLine lets (word ∷ words) source note_before = LetsShowingLine lets note_before × LetsNoJob lets (word ∷ words) source note_before
