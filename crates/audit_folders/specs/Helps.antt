-- The arguments that ask a folder program for help or the version, the answers, and the effect of a call that answers.
-- The grammar and the wording are this project's own: exactly `--help` or `-h`, or exactly `--version`. A folder named
-- `-h` is `./-h`.
use Rattle.std.specs.Prelude.{◌≡◌, ℕ, List, [], ◌∷◌, bytes_eq, codes, cond, ⊤, Option, Some, None}
use Rattle.audit_model.specs.State.{Stream}
use Rattle.audit_folders.specs.declared.help.FolderProgram.{FolderProgram}
use Rattle.audit_folders.specs.declared.help.FolderProgram.TheVariants.{Slots, Gather}
use Rattle.audit_words.specs.declared.build.Build.{Build}
use Rattle.audit_words.specs.declared.question.Question.{Question}
use Rattle.audit_words.specs.declared.question.Question.TheVariants.{Usage, Version, Arguments}
use Rattle.audit_words.specs.Answers.{WritesAnswer}
use Rattle.audit_words.specs.Questions.{question_of_word, version_text}
use Rattle.audit_words.specs.Usage.{on_lines}
use Rattle.audit_statement.specs.DueText.{LetsBytes, LetsText}

-- the question of a single argument
abbrev pub single_question : List ℕ → Option Question
single_question word = cond (bytes_eq word (codes "-h")) (Some Usage) (question_of_word word)

-- the question of the arguments
abbrev pub folder_question : List (List ℕ) → Option Question
folder_question [] = None
folder_question (word ∷ []) = single_question word
folder_question (word ∷ next ∷ rest) = None

-- the name of a program
abbrev pub program_name : FolderProgram → List ℕ
program_name Slots = codes "audit_slots"
program_name Gather = codes "audit_gather"

-- the statuses that both programs have
abbrev pub status_lines : List (List ℕ) → List (List ℕ)
status_lines more =
    []
    ∷ codes "Statuses:"
    ∷ codes "   0  done"
    ∷ codes "   1  the arguments are refused"
    ∷ codes "   2  the graph or its plan is refused"
    ∷ codes "   3  out of memory"
    ∷ codes "   4  a read failed"
    ∷ codes "   5  a write failed"
    ∷ codes "   6  a checkpoint could not be loaded"
    ∷ more

-- the usage of each program, line by line
abbrev pub folder_usage : FolderProgram → List (List ℕ)
folder_usage Slots =
    codes "usage: audit_slots [FOLDER] [COMMAND NAME VALUE ..]"
    ∷ codes "       audit_slots --help|-h"
    ∷ codes "       audit_slots --version"
    ∷ []
    ∷ codes "Tells what the checkpoint files of a folder hold, which is the newest, and how far a"
    ∷ codes "run is. FOLDER is the working folder by default. COMMAND is run or make, with the"
    ∷ codes "arguments of the run, as district-audit takes them; the graph of run is read from"
    ∷ codes "standard input. No file is changed."
    ∷ status_lines []
folder_usage Gather =
    codes "usage: audit_gather [--look yes|no] FOLDER .. COMMAND NAME VALUE .."
    ∷ codes "       audit_gather --help|-h"
    ∷ codes "       audit_gather --version"
    ∷ []
    ∷ codes "Adds what the checkpoint files of the folders hold of one run to those of the working"
    ∷ codes "folder. With --look yes (default no) it tells what it finds, and saves nothing."
    ∷ codes "COMMAND is run or make, with the arguments of the run, as district-audit takes them;"
    ∷ codes "the graph of run is read from standard input."
    ∷ status_lines (codes "   9  the checkpoint could not be saved" ∷ codes "  10  a folder cannot be gathered; nothing was saved" ∷ [])

-- a program's answer to a question; no arguments ask for the usage of a command
abbrev pub folder_answer : FolderProgram → Build → Question → List ℕ
folder_answer program build Usage = on_lines (folder_usage program)
folder_answer program build Version = version_text (program_name program) build
folder_answer program build (Arguments command) = []

-- if the arguments ask for help or the version, the answer was written, with this status; else nothing was written, and
-- there is no status yet
abbrev pub AnswersWords : FolderProgram → Build → Option Question → Stream → Stream → Stream → Stream → Option ℕ → Type 0
AnswersWords program build None before after note_before note_after status = (status ≡ None) × (after ≡ before) × (note_after ≡ note_before)
AnswersWords program build (Some question) before after note_before note_after status =
    (s : ℕ) × (status ≡ Some s) × WritesAnswer (folder_answer program build question) before after note_before note_after s

-- the sink permits the answer, if the arguments ask for help or the version
abbrev pub LetsAnswer : LetsBytes → FolderProgram → Build → Option Question → Stream → Type 0
LetsAnswer lets program build None out = ⊤
LetsAnswer lets program build (Some question) out = LetsText lets out (folder_answer program build question)
