-- The two programs of folders, and the end of a call.
-- Source: this project. A name that ends with `audit_slots` or `audit_gather` is that program's. Under any other name the
-- first argument names the program.
use Rattle.std.specs.Prelude.{◌≡◌, ℕ, ◌-◌, Bool, List, [], ◌∷◌, bytes_eq, codes, cond, drop, length, Option, Some, None, is_some}
use Rattle.audit_folders.specs.declared.help.FolderProgram.{FolderProgram}
use Rattle.audit_folders.specs.declared.help.FolderProgram.TheVariants.{Slots, Gather}
use Rattle.audit_folders.specs.GatherProgram.{GathersFolders, Moment, Refuses, UsedFolders}
use Rattle.audit_folders.specs.Helps.{folder_answer, folder_question}
use Rattle.audit_folders.specs.SlotsProgram.{Opens, ShowsSlots}
use Rattle.audit_model.specs.State.{KeeperState, Stream}
use Rattle.audit_words.specs.Answers.{WritesAnswer}
use Rattle.audit_words.specs.declared.build.Build.{Build}
use Rattle.audit_words.specs.declared.question.Question.{Question}

-- the name ends with this text
abbrev pub is_ending : List ℕ → List ℕ → Bool
is_ending text name = bytes_eq text (drop (length name - length text) name)

-- the program whose name was called
abbrev pub called_program : List ℕ → Option FolderProgram
called_program name = cond (is_ending (codes "audit_slots") name) (Some Slots) (cond (is_ending (codes "audit_gather") name) (Some Gather) None)

-- the program that the first argument names
abbrev pub named_program : List (List ℕ) → Option FolderProgram
named_program [] = None
named_program (word ∷ rest) = cond (bytes_eq word (codes "slots")) (Some Slots) (cond (bytes_eq word (codes "gather")) (Some Gather) None)

abbrev pub or_named : Option FolderProgram → List (List ℕ) → Option FolderProgram
or_named (Some program) rest = Some program
or_named None rest = named_program rest

-- the program of the name and the arguments
abbrev pub program_of : List (List ℕ) → Option FolderProgram
program_of [] = None
program_of (name ∷ rest) = or_named (called_program name) rest

-- the arguments after those that name the program
abbrev pub arguments_of : List (List ℕ) → List (List ℕ)
arguments_of [] = []
arguments_of (name ∷ rest) = cond (is_some (called_program name)) rest (drop 1 rest)

-- the answer was written, and nothing was read or saved
pub record AnswersOnly (text : List ℕ) (before after : Moment) (status : ℕ) : Type 0 where
  pub answered : WritesAnswer text before.outputs.out after.outputs.out before.outputs.note after.outputs.note status
  pub unread : after.source ≡ before.source
  pub unsaved : after.keeper ≡ before.keeper

-- the end of a program; a report on slots leaves the keeper of the working folder alone
abbrev pub RunsAsked : FolderProgram → Opens → List (List ℕ) → Moment → Moment → UsedFolders → ℕ → Type 0
RunsAsked Slots opens words before after folders status =
    (after.keeper ≡ before.keeper) × ShowsSlots opens words before.source after.source folders.here before.outputs after.outputs status
RunsAsked Gather opens words before after folders status = GathersFolders opens words before after folders status

-- arguments that ask for help or the version are answered
abbrev pub RunsOrAnswers : Option Question → Build → FolderProgram → Opens → List (List ℕ) → Moment → Moment → UsedFolders → ℕ → Type 0
RunsOrAnswers None build program opens words before after folders status = RunsAsked program opens words before after folders status
RunsOrAnswers (Some question) build program opens words before after folders status = AnswersOnly (folder_answer program build question) before after status

-- words that name no program are refused
abbrev pub RunsBy : Option FolderProgram → Build → Opens → List (List ℕ) → Moment → Moment → UsedFolders → ℕ → Type 0
RunsBy None build opens words before after folders status = Refuses (codes "words: neither slots nor gather") before after status
RunsBy (Some program) build opens words before after folders status = RunsOrAnswers (folder_question words) build program opens words before after folders status

-- the end of a call with this name and these arguments
abbrev pub RunsProgram : Build → Opens → List (List ℕ) → Moment → Moment → UsedFolders → ℕ → Type 0
RunsProgram build opens words before after folders status = RunsBy (program_of words) build opens (arguments_of words) before after folders status

-- the sink permits all bytes
abbrev pub PermitsText : (Stream → List ℕ → Type 0) → Type 0
PermitsText lets = (s : Stream) (bytes : List ℕ) → lets s bytes

-- the keeper permits all saves
abbrev pub PermitsSaves : (KeeperState → ℕ → List ℕ → Type 0) → Type 0
PermitsSaves lets = (k : KeeperState) (slot : ℕ) (bytes : List ℕ) → lets k slot bytes
