-- The meaning of the arguments of `audit_gather`, and the end of a call.
-- Source: this project. `--look` and its value may come first. The folders follow, up to the first command, which begins
-- the arguments of a run.
use Rattle.std.specs.Prelude.{◌≡◌, ℕ, suc, Bool, true, false, not, ◌&&◌, List, [], ◌∷◌, bytes_eq, codes, cond, drop, map, take, Option, Some, None, Ok, is_some, unwrap_or}
use Rattle.audit_folders.specs.DueFolders.{LetsFindings, LetsGatherLine}
use Rattle.audit_folders.specs.Gatherings.{EndsGathering, IsNoted, Outputs}
use Rattle.audit_folders.specs.Jobs.{EndsWithJob, HasJob, LetsNoJob}
use Rattle.audit_folders.specs.SlotsProgram.{Opens}
use Rattle.audit_model.specs.Job.{Job}
use Rattle.audit_model.specs.State.{KeeperState, Stream}
use Rattle.audit_statement.specs.Checkpoint.{job_digest}
use Rattle.audit_statement.specs.Due.{Lets}
use Rattle.audit_statement.specs.DueText.{LetsBytes, LetsText}
use Rattle.audit_statement.specs.Note.{as_line}
use Rattle.audit_statement.specs.Words.{command_of}
use Rattle.ckpt_store.specs.Whole.{LetsGathering}

-- ---- the arguments

abbrev pub begins_with_look : List (List ℕ) → Bool
begins_with_look [] = false
begins_with_look (word ∷ rest) = bytes_eq word (codes "--look")

-- the value of `--look`, if it is not bad
abbrev pub look_value : List (List ℕ) → Option Bool
look_value [] = None
look_value (word ∷ rest) = cond (bytes_eq word (codes "yes")) (Some true) (cond (bytes_eq word (codes "no")) (Some false) None)

-- whether the call only looks, or none if the value is bad; without `--look` it gathers
abbrev pub look_option : List (List ℕ) → Option Bool
look_option words = cond (begins_with_look words) (look_value (drop 1 words)) (Some false)

-- the arguments after `--look` and its value
abbrev pub after_look : List (List ℕ) → List (List ℕ)
after_look words = cond (begins_with_look words) (drop 2 words) words

-- the folders are the words before the first command
abbrev pub count_folders : List (List ℕ) → ℕ
count_folders [] = 0
count_folders (word ∷ rest) = cond (is_some (command_of word)) 0 (suc (count_folders rest))

abbrev pub folders_in : List (List ℕ) → List (List ℕ)
folders_in words = take (count_folders words) words

-- the arguments of the run, from the first command on
abbrev pub run_part : List (List ℕ) → List (List ℕ)
run_part words = drop (count_folders words) words

-- ---- the folders

-- the folders after the call: the working folder as it was looked at, if it was, and the others
pub record UsedFolders : Type 0 where
  pub here : Option KeeperState
  pub others : List KeeperState

-- the source, the keeper of the working folder, and both outputs
pub record Moment : Type 0 where
  pub source : Stream
  pub keeper : KeeperState
  pub outputs : Outputs

abbrev pub moment : Stream → KeeperState → Stream → Stream → Moment
moment source keeper out note = record { source = source; keeper = keeper; outputs = record { out = out; note = note } }

-- the states of these folders when they are opened
abbrev pub opened : Opens → List (List ℕ) → Bool → List KeeperState
opened opens names locks = map (λ f. opens f locks) names

-- the state of the working folder's slots at the start; a look opens them as it opens other folders
abbrev pub start : Bool → Opens → KeeperState → KeeperState
start true opens keeper = keeper
start false opens keeper = opens (codes ".") false

-- One gathering, or one look. A gathering saves in the keeper of the working folder, and each load of another folder
-- takes the folder's lock. A look takes no lock, and leaves this keeper alone.
abbrev pub Gathers : Bool → Opens → List (List ℕ) → Moment → Moment → UsedFolders → ℕ → Job → Type 0
Gathers true opens names before after folders status job =
    EndsGathering job true names before.keeper after.keeper (opened opens names true) folders.others before.outputs after.outputs status
Gathers false opens names before after folders status job =
    (after.keeper ≡ before.keeper)
    × EndsGathering job false names (opens (codes ".") false) (unwrap_or folders.here (opens (codes ".") false)) (opened opens names false) folders.others before.outputs
    after.outputs status

-- ---- the end of a call

-- the arguments are refused with this line, and nothing was read or saved
pub record Refuses (line : List ℕ) (before after : Moment) (status : ℕ) : Type 0 where
  pub status_is : status ≡ 1
  pub noted : IsNoted before.outputs after.outputs (as_line (line ∷ []))
  pub unread : after.source ≡ before.source
  pub unsaved : after.keeper ≡ before.keeper

-- the folders were gathered for the job of these arguments, or only looked at; without a job the keeper is left alone
abbrev pub GathersNamed : Bool → Opens → List (List ℕ) → List (List ℕ) → Moment → Moment → UsedFolders → ℕ → Type 0
GathersNamed saves opens names words before after folders status =
    EndsWithJob words before.source after.source before.outputs after.outputs status (after.keeper ≡ before.keeper) (Gathers saves opens names before after folders status)

-- a gathering without a folder is refused
abbrev pub GathersSome : Bool → Bool → Opens → List (List ℕ) → List (List ℕ) → Moment → Moment → UsedFolders → ℕ → Type 0
GathersSome true saves opens names words before after folders status = Refuses (codes "words: no folder") before after status
GathersSome false saves opens names words before after folders status = GathersNamed saves opens names words before after folders status

-- no folder is named
abbrev pub is_none_named : List (List ℕ) → Bool
is_none_named [] = true
is_none_named (name ∷ names) = false

abbrev pub GathersWords : Bool → Opens → List (List ℕ) → Moment → Moment → UsedFolders → ℕ → Type 0
GathersWords saves opens words before after folders status =
    GathersSome (saves && is_none_named (folders_in words)) saves opens (folders_in words) (run_part words) before after folders status

-- a bad value of `--look` is refused
abbrev pub GathersBy : Option Bool → Opens → List (List ℕ) → Moment → Moment → UsedFolders → ℕ → Type 0
GathersBy None opens words before after folders status = Refuses (codes "words: bad value for --look") before after status
GathersBy (Some looks) opens words before after folders status = GathersWords (not looks) opens words before after folders status

-- the end of a call with these arguments
abbrev pub GathersFolders : Opens → List (List ℕ) → Moment → Moment → UsedFolders → ℕ → Type 0
GathersFolders opens words before after folders status = GathersBy (look_option words) opens (after_look words) before after folders status

-- ---- what the keeper and the sinks permit

-- the keeper permits the save of a gathering of these folders
abbrev pub LetsSaveNamed : Lets → Bool → Opens → List (List ℕ) → List (List ℕ) → Moment → Type 0
LetsSaveNamed lets saves opens names words before =
    saves ≡ true → (after : Stream) (job : Job) → HasJob words before.source after (Ok job)
    → LetsGathering lets job (job_digest job) true before.keeper.slots before.keeper.attempted (opened opens names true)

-- the sink permits the findings
abbrev pub LetsFoundNamed : LetsBytes → Bool → Opens → List (List ℕ) → List (List ℕ) → Moment → Type 0
LetsFoundNamed lets saves opens names words before =
    (after : Stream) (job : Job) → HasJob words before.source after (Ok job)
    → LetsFindings lets job saves names (start saves opens before.keeper) (opened opens names saves) before.outputs.out

-- the sink permits each line about these folders
pub record LetsNotedNamed (lets : LetsBytes) (saves : Bool) (opens : Opens) (names words : List (List ℕ)) (before : Moment) : Type 0 where
  pub no_job : LetsNoJob lets words before.source before.outputs.note
  pub gathered : (after : Stream) (job : Job) → HasJob words before.source after (Ok job)
      → LetsGatherLine lets job saves names (start saves opens before.keeper) (opened opens names saves) before.outputs.note

-- the sink permits the line of a gathering without a folder, and each line about the folders
pub record LetsNotedWords (lets : LetsBytes) (saves : Bool) (opens : Opens) (words : List (List ℕ)) (before : Moment) : Type 0 where
  pub no_folder : (saves && is_none_named (folders_in words)) ≡ true → LetsText lets before.outputs.note (as_line (codes "words: no folder" ∷ []))
  pub named : (saves && is_none_named (folders_in words)) ≡ false → LetsNotedNamed lets saves opens (folders_in words) (run_part words) before

-- the keeper permits the save that these arguments ask for
abbrev pub LetsSave : Lets → Opens → List (List ℕ) → Moment → Type 0
LetsSave lets opens words before = (looks : Bool) → look_option words ≡ Some looks → LetsSaveNamed lets (not looks) opens (folders_in (after_look words)) (run_part (after_look words)) before

-- the sink permits the findings that these arguments ask for
abbrev pub LetsFound : LetsBytes → Opens → List (List ℕ) → Moment → Type 0
LetsFound lets opens words before = (looks : Bool) → look_option words ≡ Some looks → LetsFoundNamed lets (not looks) opens (folders_in (after_look words)) (run_part (after_look words)) before

-- the sink permits each line that is due for these arguments
pub record LetsNoted (lets : LetsBytes) (opens : Opens) (words : List (List ℕ)) (before : Moment) : Type 0 where
  pub bad_look : look_option words ≡ None → LetsText lets before.outputs.note (as_line (codes "words: bad value for --look" ∷ []))
  pub asked : (looks : Bool) → look_option words ≡ Some looks → LetsNotedWords lets (not looks) opens (after_look words) before
