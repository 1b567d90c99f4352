-- The endings of a call: for each reason its cause, its output and what it left unchanged.
use Rattle.std.specs.Prelude.{◌≡◌, ◌⊎◌, IsPermutation, ℕ, suc, ◌+◌, ◌-◌, ◌*◌, ◌%◌, ◌^◌, ◌<◌, ◌≤◌, ◌==◌, min, ◌&&◌, ◌||◌, Bool, true, false, not, IsTrue, IsFalse, nat_lt, List, [], ◌++◌, length, map, take, ⊤, Option, Some, None, Result, Ok, Err}
use Rattle.std.specs.List.{list_all, All, Contains}
use Rattle.std.specs.Io.KnownBytes.{Appends, IsAtEnd}
use Rattle.audit_model.specs.declared.fault.WordFault.{WordFault}
use Rattle.audit_model.specs.declared.outcome.Outcome.{Outcome}
use Rattle.audit_model.specs.declared.setting.Columns.{Columns}
use Rattle.audit_model.specs.declared.setting.Command.{Command}
use Rattle.audit_model.specs.declared.setting.Command.TheVariants.{Check, Run, Make, Plans, Trace}
use Rattle.audit_model.specs.declared.setting.Setting.{Setting}
use Rattle.audit_model.specs.Job.{Job}
use Rattle.audit_model.specs.JobOf.{IsJob}
use Rattle.audit_model.specs.Apart.{AllApart}
use Rattle.audit_model.specs.Run.{total, has_id, pending_ids, run_ids, full, fits, IsRight}
use Rattle.audit_model.specs.Trajectory.{outcome}
use Rattle.audit_statement.specs.Checkpoint.{IsCheckpoint, checkpoint, job_digest}
use Rattle.audit_model.specs.declared.place.Place.{Place}
use Rattle.audit_statement.specs.Histories.{AreInTurn, IsRightSave}
use Rattle.audit_statement.specs.InOrder.{AreSavesOf, failed_of, moved, saves_of}
use Rattle.audit_statement.specs.Draw.{draw}
use Rattle.audit_statement.specs.Note.{Ending, bad_words, too_many_bytes, bad_graph, bad_regions, bad_table, bad_plan, bad_plan_named, no_memory, read_fault, write_fault, load_fault, folder_taken, stopped, damaged, other_job, save_fault, note}
use Rattle.audit_statement.specs.Report.{full_report, check_text}
use Rattle.audit_statement.specs.Trace.{trace_text}
use Rattle.audit_statement.specs.Slots.{Slot, other, ours, slot_of, initial_outcomes, newest, save_place, slot_at}
use Rattle.audit_statement.specs.Words.{setting_of}
use Rattle.audit_model.specs.Faults.{Rose}
use Rattle.audit_model.specs.Pair.{Pair, stored}
use Rattle.audit_model.specs.Attempts.{Try}
use Rattle.audit_statement.specs.Accepted.{IsAccepted, IsRefused, columns_of, most_bytes}
use Rattle.audit_statement.specs.Status.{status_of}
use Rattle.audit_model.specs.State.{KeeperState, Stream}
use Rattle.audit_model.specs.Observed.{IfObserved, IfBothObserved}
use Rattle.audit_statement.specs.World.{World}

-- ---- the features that the arguments ask for

-- the command reads the source
abbrev pub is_reading : Command → Bool
is_reading Check = true
is_reading Run = true
is_reading Make = false
is_reading Plans = true
is_reading Trace = true

-- the command walks the missing trajectories and keeps outcomes; a trace walks a range and keeps none
abbrev pub is_walking : Command → Bool
is_walking Check = false
is_walking Run = true
is_walking Make = true
is_walking Plans = true
is_walking Trace = false

-- a run of this setting saves
abbrev pub saves : Setting → Bool
saves setting = is_walking setting.command && not (setting.save_every == 0)

-- a run of this setting loads, since it resumes or saves
abbrev pub loads : Setting → Bool
loads setting = is_walking setting.command && (setting.resume || not (setting.save_every == 0))

-- the arguments are accepted, and their setting passes the test
abbrev pub passes : (Setting → Bool) → Result Setting WordFault → Bool
passes test (Ok setting) = test setting
passes test (Err f) = false

-- ---- the slots that were seen, and the initial outcomes

-- some slots were seen, the keeper's if it is observable, and this holds of them
pub record Saw (slots : Option Pair) (P : Pair → Type 0) : Type 0 where
  pub pair : Pair
  pub same : IfObserved slots (λ p. pair ≡ p)
  pub holds : P pair

-- the initial outcomes of a run that finds these slots, if it may start; none unless it resumes
abbrev pub initial_outcomes_from : Bool → Job → Pair → Option (List Outcome)
initial_outcomes_from false job p = Some []
initial_outcomes_from true job p = initial_outcomes true job.setting (slot_of job (job_digest job) p.zero_slot) (slot_of job (job_digest job) p.one_slot)

-- the keeper's slots determine the initial outcomes of a run; one that resumes needs an observable keeper
abbrev pub StartsFrom : Bool → Job → Option Pair → Option (List Outcome) → Type 0
StartsFrom false job slots o = Some [] ≡ o
StartsFrom true job None o = ⊥
StartsFrom true job (Some p) o = initial_outcomes_from true job p ≡ o

-- the keeper's slots say that a run of the job starts with this
abbrev pub ObservesInitialOutcomes : Job → Option Pair → Option (List Outcome) → Type 0
ObservesInitialOutcomes job slots o = StartsFrom job.setting.resume job slots o

-- the initial outcomes of a run that finds the slots that were seen
pub record AreInitialOutcomes (job : Job) (slots : Option Pair) (outcomes : List Outcome) : Type 0 where
  pub seen : Saw slots (λ p. initial_outcomes_from job.setting.resume job p ≡ Some outcomes)
  pub apart : AllApart (map (λ o. o.id) outcomes)
  pub fitting : IsTrue (list_all (fits job) outcomes)

-- the number of ids missing in the initial outcomes
abbrev pub pending : Job → List Outcome → ℕ
pending job outcomes = length (pending_ids job outcomes)

-- the number of ids that the run walks: missing ones of its part, up to its budget
abbrev pub to_walk : Job → List Outcome → ℕ
to_walk job outcomes = length (run_ids job outcomes job.setting.budget)

-- the run walks fewer ids than are missing
abbrev pub leaves_work : Job → List Outcome → Bool
leaves_work job outcomes = nat_lt (to_walk job outcomes) (pending job outcomes)

-- the initial outcomes, and those of the ids that the run takes
abbrev pub full_of : Job → List Outcome → List Outcome
full_of job outcomes = full job (draw job.setting.key) outcomes job.setting.budget

-- ---- input

-- the source was read to its end, or not at all
abbrev pub IsReadBy : Bool → Stream → Stream → Type 0
IsReadBy true before after = IsAtEnd after.bytes × (after.faults ≡ before.faults)
IsReadBy false before after = after ≡ before

-- the job was accepted, it is sound, and the source was read for it
pub record IsPrepared (words : List (List ℕ)) (before after : Stream) (job : Job) : Type 0 where
  pub accepted : IsAccepted words before.bytes job
  pub sound : IsJob job
  pub read : IsReadBy (is_reading job.setting.command) before after

-- ---- output

-- a prefix of the text was written
abbrev pub AppendsPart : Option (List ℕ) → Option (List ℕ) → List ℕ → Type 0
AppendsPart before after text = (n : ℕ) × (n ≤ length text) × Appends before after (take n text)

-- the text was written whole, or a prefix of it
abbrev pub Writes : Bool → Option (List ℕ) → Option (List ℕ) → List ℕ → Type 0
Writes true before after text = Appends before after text
Writes false before after text = AppendsPart before after text

-- no work is left, and the report on all outcomes was written
pub record WritesReport (whole : Bool) (job : Job) (before after : World) : Type 0 where
  pub outcomes : List Outcome
  pub opened : AreInitialOutcomes job before.keeper.slots outcomes
  pub nothing_left : IsFalse (leaves_work job outcomes)
  pub written : Writes whole before.out.bytes after.out.bytes (full_report job (draw job.setting.key) (full_of job outcomes))

-- the text that a command writes
abbrev pub WritesText : Command → Bool → Job → World → World → Type 0
WritesText Check whole job before after = Writes whole before.out.bytes after.out.bytes (check_text job)
WritesText Run whole job before after = WritesReport whole job before after
WritesText Make whole job before after = WritesReport whole job before after
WritesText Plans whole job before after = WritesReport whole job before after
WritesText Trace whole job before after =
    Writes whole before.out.bytes after.out.bytes (trace_text job (draw job.setting.key) job.setting.first_id job.setting.last_id job.setting.thin)

-- work is left, and nothing was written
pub record StopsEarly (job : Job) (before after : World) : Type 0 where
  pub outcomes : List Outcome
  pub opened : AreInitialOutcomes job before.keeper.slots outcomes
  pub work_left : IsTrue (leaves_work job outcomes)
  pub unwritten : after.out.bytes ≡ before.out.bytes

-- ---- saves

-- the newest slot is the checkpoint of these outcomes
abbrev pub IsNewest : Job → List Outcome → Pair → Type 0
IsNewest job outcomes p =
    (n : ℕ) × (newest (slot_of job (job_digest job) p.zero_slot) (slot_of job (job_digest job) p.one_slot) ≡ Some n)
    × ((g : ℕ) × (g < 3) × (stored p n ≡ Some (checkpoint 2 (job_digest job) g outcomes)))

-- an initial outcome, or the trajectory's outcome of a missing id that the run walks
abbrev pub IsInitialOrFound : Job → List Outcome → Outcome → Type 0
IsInitialOrFound job outcomes o =
    Contains outcomes o
    ⊎ (IsFalse (has_id outcomes o.id) × (o.id < total job) × Contains (run_ids job outcomes job.setting.budget) o.id × (o ≡ outcome job (draw job.setting.key) o.id))

-- all initial outcomes, and this many outcomes of missing ids
pub record HoldsPart (job : Job) (outcomes : List Outcome) (count : ℕ) (saved : List Outcome) : Type 0 where
  pub each : All (IsInitialOrFound job outcomes) saved
  pub initial_kept : All (Contains saved) outcomes
  pub counted : length saved ≡ length outcomes + count

-- the slot is a checkpoint of the job with this generation, of the initial outcomes and this many missing ids, and is
-- read as that
pub record IsPartly (job : Job) (outcomes : List Outcome) (count generation : ℕ) (slot : Option (List ℕ)) : Type 0 where
  pub saved : List Outcome
  pub bytes_are : slot ≡ Some (checkpoint 2 (job_digest job) generation saved)
  pub sound : IsCheckpoint (checkpoint 2 (job_digest job) generation saved) 2 (job_digest job) generation saved
  pub slot_is : slot_of job (job_digest job) slot ≡ ours generation saved
  pub holds : HoldsPart job outcomes count saved

-- if a slot was valid, some slot now holds the newest one's bytes, or is a checkpoint of the initial outcomes and of
-- missing ids
abbrev pub KeepsASlot : Job → List Outcome → Pair → Pair → Type 0
KeepsASlot job outcomes p q =
    (n : ℕ) → newest (slot_of job (job_digest job) p.zero_slot) (slot_of job (job_digest job) p.one_slot) ≡ Some n
    → (m : ℕ) × ((stored q m ≡ stored p n) ⊎ ((count : ℕ) × ((g : ℕ) × IsPartly job outcomes count g (stored q m))))

-- the place of a run's first save, given by the slots at its start
abbrev pub place_of : Job → Pair → ℕ × ℕ
place_of job p = save_place (slot_of job (job_digest job) p.zero_slot) (slot_of job (job_digest job) p.one_slot)

-- the place, as one value
abbrev pub first_place : Job → Pair → Place
first_place job p = record { slot = (place_of job p).0; generation = (place_of job p).1 }

-- the number of a run's saves: one per `save_every` ids walked, and a last one if the last id had none
abbrev pub count_of_saves : Job → List Outcome → ℕ
count_of_saves job outcomes = saves_of (to_walk job outcomes) job.setting.save_every

-- the place of the last of them; after each save it moves to the other slot and the next of three generations
abbrev pub last_place : Job → List Outcome → Pair → Place
last_place job outcomes p = moved (count_of_saves job outcomes - 1) (first_place job p)

-- This many saves were made, the last at this place. It is the checkpoint of the initial outcomes and of all that was
-- walked, is read as that, and is the newest. The other slot is the save before it or, if there was none, unchanged.
pub record SavesInTurnAt (job : Job) (outcomes : List Outcome) (p q : Pair) (at : Place) (count : ℕ) : Type 0 where
  pub last : stored q at.slot ≡ Some (checkpoint 2 (job_digest job) at.generation (full_of job outcomes))
  pub last_is : slot_of job (job_digest job) (stored q at.slot) ≡ ours at.generation (full_of job outcomes)
  pub newest_is : newest (slot_of job (job_digest job) q.zero_slot) (slot_of job (job_digest job) q.one_slot) ≡ Some at.slot
  pub only : count ≡ 1 → stored q (1 - at.slot) ≡ stored p (1 - at.slot)
  pub before_last : 1 < count → IsPartly job outcomes ((count - 1) * job.setting.save_every) ((at.generation + 2) % 3) (stored q (1 - at.slot))

-- all saves of the run were made in turn
abbrev pub SavesInTurn : Job → List Outcome → Pair → Pair → Type 0
SavesInTurn job outcomes p q = SavesInTurnAt job outcomes p q (last_place job outcomes p) (count_of_saves job outcomes)

-- ---- save attempts

-- a save attempt: a checkpoint of the job with initial outcomes and trajectories' outcomes of missing ids
pub record IsTryOf (job : Job) (outcomes : List Outcome) (t : Try) : Type 0 where
  pub generation : ℕ
  pub count : ℕ
  pub saved : List Outcome
  pub sound : IsCheckpoint t.bytes 2 (job_digest job) generation saved
  pub holds : HoldsPart job outcomes count saved

-- Exactly the save attempts of a run over these slots that starts with these outcomes. The ids that it walks were taken
-- in in this order, each once. A save was attempted after every `save_every` ids, and one of all at the end unless the
-- last one was of all and succeeded. The first went to the place of these slots, each later one to the place after the
-- last success.
pub record AreRunSaves (job : Job) (outcomes : List Outcome) (p : Pair) (attempts : List Try) : Type 0 where
  pub walked : List ℕ
  pub all_walked : IsPermutation walked (run_ids job outcomes job.setting.budget)
  pub exactly : AreSavesOf job outcomes job.setting.save_every (first_place job p) walked attempts

-- The save attempts of a run over these slots, with their success. They are all that the keeper was asked for since,
-- and exactly those of such a run. Each is a checkpoint of the job. The keeper's count covers the failures. If the
-- initial outcomes are right, so are the saves.
pub record AttemptsOf (job : Job) (outcomes : List Outcome) (p : Pair) (faults faults_now : ℕ) (observed now : List Try) : Type 0 where
  pub attempts : List Try
  pub appended : now ≡ observed ++ attempts
  pub in_turn : AreInTurn job (job_digest job) (place_of job p).0 (place_of job p).1 attempts
  pub each : All (IsTryOf job outcomes) attempts
  pub exact : AreRunSaves job outcomes p attempts
  pub covered : min (faults + failed_of attempts) (2 ^ 64 - 1) ≤ faults_now
  pub right : IsRight job (draw job.setting.key) outcomes → All (λ t. IsRightSave job (draw job.setting.key) (job_digest job) t.bytes) attempts

-- the save attempts of a run that saves, if its keeper is observable
abbrev pub AttemptsObserved : Job → List Outcome → KeeperState → KeeperState → Type 0
AttemptsObserved job outcomes before after = IfObserved before.slots (λ p. IfBothObserved before.attempted after.attempted (AttemptsOf job outcomes p before.save_faults after.save_faults))

-- The slots after a run that saves, and its save attempts. If every save was made, they were made in turn, and the
-- newest slot is the checkpoint of the initial outcomes and of all that was walked.
pub record SavesAll (made : Type 0) (job : Job) (before after : World) : Type 0 where
  pub outcomes : List Outcome
  pub opened : AreInitialOutcomes job before.keeper.slots outcomes
  pub kept : IfBothObserved before.keeper.slots after.keeper.slots (KeepsASlot job outcomes)
  pub in_turn : made → IfBothObserved before.keeper.slots after.keeper.slots (SavesInTurn job outcomes)
  pub newest_is : made → IfBothObserved before.keeper.slots after.keeper.slots (λ p q. IsNewest job (full_of job outcomes) q)
  pub attempted : AttemptsObserved job outcomes before.keeper after.keeper

-- a run that does not save leaves the slots unchanged
abbrev pub SavesWhere : Bool → Type 0 → Job → World → World → Type 0
SavesWhere false made job before after = after.keeper.slots ≡ before.keeper.slots
SavesWhere true made job before after = SavesAll made job before after

-- no save failed
abbrev pub NoSaveFailed : World → World → Type 0
NoSaveFailed before after = Rose before.keeper.save_faults after.keeper.save_faults → ⊥

-- ---- each reason

-- one byte more than the limit was read, if the source is read and observable
abbrev pub TakesTooMany : Bool → Option (List ℕ) → Option (List ℕ) → Type 0
TakesTooMany true before after = IfBothObserved before after (λ left rest. length left ≡ suc (most_bytes + length rest))
TakesTooMany false before after = ⊤

-- the bytes are more than the limit, and the source was read no further than that
pub record IsTooMany (words : List (List ℕ)) (before after : World) : Type 0 where
  pub refused : IsRefused words before.source.bytes too_many_bytes
  pub taken : TakesTooMany (is_reading refused.setting.command) before.source.bytes after.source.bytes

-- the text was written whole, and all saves were made
pub record IsDone (words : List (List ℕ)) (before after : World) : Type 0 where
  pub job : Job
  pub prepared : IsPrepared words before.source after.source job
  pub written : WritesText job.setting.command true job before after
  pub saved : SavesWhere (saves job.setting) ⊤ job before after

-- the source is read, and a read failed
pub record IsReadFault (words : List (List ℕ)) (before after : World) : Type 0 where
  pub setting : Setting
  pub words_are : setting_of words ≡ Ok setting
  pub reading : IsTrue (is_reading setting.command)
  pub rose : Rose before.source.faults after.source.faults

-- a prefix of the text was written, and a write failed
pub record IsWriteFault (words : List (List ℕ)) (before after : World) : Type 0 where
  pub job : Job
  pub prepared : IsPrepared words before.source after.source job
  pub written : WritesText job.setting.command false job before after
  pub saved : SavesWhere (saves job.setting) (NoSaveFailed before after) job before after
  pub rose : Rose before.out.faults after.out.faults

-- the run loads, and a load failed
pub record IsLoadFault (words : List (List ℕ)) (before after : World) : Type 0 where
  pub job : Job
  pub prepared : IsPrepared words before.source after.source job
  pub loading : IsTrue (loads job.setting)
  pub rose : Rose before.keeper.load_faults.all after.keeper.load_faults.all

-- a load failed, but not because another process holds the slots
pub record IsUnread (words : List (List ℕ)) (before after : World) : Type 0 where
  pub fault : IsLoadFault words before after
  pub untaken : after.keeper.load_faults.taken ≡ before.keeper.load_faults.taken

-- a load failed because another process holds the slots
pub record IsFolderTaken (words : List (List ℕ)) (before after : World) : Type 0 where
  pub fault : IsLoadFault words before after
  pub taken : Rose before.keeper.load_faults.taken after.keeper.load_faults.taken

-- work is left; this many of all trajectories are done and saved
pub record IsStopped (words : List (List ℕ)) (before after : World) (done all : ℕ) : Type 0 where
  pub job : Job
  pub prepared : IsPrepared words before.source after.source job
  pub saving : IsTrue (saves job.setting)
  pub stopped : StopsEarly job before after
  pub done_is : done ≡ length stopped.outcomes + to_walk job stopped.outcomes
  pub all_is : all ≡ total job
  pub saved : SavesAll ⊤ job before after

-- the run was asked to resume, the slots that were seen do not say how, and `found` holds of them
pub record IsSlotsFault (words : List (List ℕ)) (before after : World) (found : Job → Pair → Type 0) : Type 0 where
  pub job : Job
  pub prepared : IsPrepared words before.source after.source job
  pub resuming : IsTrue (is_walking job.setting.command && job.setting.resume)
  pub seen : Saw before.keeper.slots (λ p. (initial_outcomes_from job.setting.resume job p ≡ None) × found job p)

-- both slots as they are, with neither valid
pub record AreDamaged (zero one : Slot) (job : Job) (p : Pair) : Type 0 where
  pub zero_is : slot_of job (job_digest job) p.zero_slot ≡ zero
  pub one_is : slot_of job (job_digest job) p.one_slot ≡ one
  pub no_newest : newest zero one ≡ None

-- the newest slot is another job's
pub record IsOtherJob (found wanted : List ℕ) (job : Job) (p : Pair) : Type 0 where
  pub wanted_is : wanted ≡ job_digest job
  pub generation : ℕ
  pub number : ℕ
  pub newest_is : newest (slot_of job (job_digest job) p.zero_slot) (slot_of job (job_digest job) p.one_slot) ≡ Some number
  pub found_is : slot_at (slot_of job (job_digest job) p.zero_slot) (slot_of job (job_digest job) p.one_slot) number ≡ other found generation

-- the report was written whole, or work is left
abbrev pub WritesOrStops : Bool → Job → World → World → Type 0
WritesOrStops true job before after = WritesReport true job before after
WritesOrStops false job before after = StopsEarly job before after

-- a save failed; all else is done as without the failure
pub record IsSaveFault (words : List (List ℕ)) (before after : World) : Type 0 where
  pub job : Job
  pub prepared : IsPrepared words before.source after.source job
  pub saving : IsTrue (saves job.setting)
  pub whole : Bool
  pub written : WritesOrStops whole job before after
  pub outcomes : List Outcome
  pub opened : AreInitialOutcomes job before.keeper.slots outcomes
  pub kept : IfBothObserved before.keeper.slots after.keeper.slots (KeepsASlot job outcomes)
  pub attempted : AttemptsObserved job outcomes before.keeper after.keeper
  pub rose : Rose before.keeper.save_faults after.keeper.save_faults

-- the cause of an ending
abbrev pub Cause : List (List ℕ) → World → World → Option Ending → Type 0
Cause words before after None = IsDone words before after
Cause words before after (Some (bad_words f)) = setting_of words ≡ Err f
Cause words before after (Some too_many_bytes) = IsTooMany words before after
Cause words before after (Some (bad_graph f)) = IsRefused words before.source.bytes (bad_graph f)
Cause words before after (Some (bad_regions column f)) = IsRefused words before.source.bytes (bad_regions column f)
Cause words before after (Some (bad_table f)) = ⊥
Cause words before after (Some (bad_plan f)) = IsRefused words before.source.bytes (bad_plan f)
Cause words before after (Some (bad_plan_named name f)) = ⊥
Cause words before after (Some no_memory) = ⊤
Cause words before after (Some read_fault) = IsReadFault words before after
Cause words before after (Some write_fault) = IsWriteFault words before after
Cause words before after (Some load_fault) = IsUnread words before after
Cause words before after (Some folder_taken) = IsFolderTaken words before after
Cause words before after (Some (stopped done all)) = IsStopped words before after done all
Cause words before after (Some (damaged first second)) = IsSlotsFault words before after (AreDamaged first second)
Cause words before after (Some (other_job found wanted)) = IsSlotsFault words before after (IsOtherJob found wanted)
Cause words before after (Some save_fault) = IsSaveFault words before after

-- ---- unchanged parts

-- the value is unchanged, unless the test passed
abbrev pub SameUnless : {A : Type 0} → Bool → A → A → Type 0
SameUnless true before after = ⊤
SameUnless false before after = after ≡ before

-- the endings that may have written, saved, and seen a call of each kind fail
pub record EndingMarks : Type 0 where
  pub wrote : Bool
  pub saved : Bool
  pub read_failed : Bool
  pub write_failed : Bool
  pub load_failed : Bool
  pub save_failed : Bool

-- none of these
abbrev pub no_marks : EndingMarks
no_marks = record { wrote = false; saved = false; read_failed = false; write_failed = false; load_failed = false; save_failed = false }

-- the marks of each ending
abbrev pub marks_of : Option Ending → EndingMarks
marks_of None = record no_marks { wrote = true; saved = true }
marks_of (Some (bad_words f)) = no_marks
marks_of (Some too_many_bytes) = no_marks
marks_of (Some (bad_graph f)) = no_marks
marks_of (Some (bad_regions column f)) = no_marks
marks_of (Some (bad_table f)) = no_marks
marks_of (Some (bad_plan f)) = no_marks
marks_of (Some (bad_plan_named name f)) = no_marks
marks_of (Some no_memory) = no_marks
marks_of (Some read_fault) = record no_marks { read_failed = true }
marks_of (Some write_fault) = record no_marks { wrote = true; saved = true; write_failed = true; save_failed = true }
marks_of (Some load_fault) = record no_marks { load_failed = true }
marks_of (Some folder_taken) = record no_marks { load_failed = true }
marks_of (Some (stopped done all)) = record no_marks { saved = true }
marks_of (Some (damaged first second)) = no_marks
marks_of (Some (other_job found wanted)) = no_marks
marks_of (Some save_fault) = record no_marks { wrote = true; saved = true; save_failed = true }

-- The source changes only if it is read, the slots and save attempts only if the run saves, and the output only if a
-- text was to be written. No failed call is ignored: each count is unchanged, except for the reported failure or a
-- failed save before a failed write.
pub record LeavesUntouched (words : List (List ℕ)) (before after : World) (marks : EndingMarks) : Type 0 where
  pub source : SameUnless (passes (λ s. is_reading s.command) (setting_of words)) before.source after.source
  pub out : SameUnless marks.wrote before.out.bytes after.out.bytes
  pub slots : SameUnless (marks.saved && passes saves (setting_of words)) before.keeper.slots after.keeper.slots
  pub attempted : SameUnless (marks.saved && passes saves (setting_of words)) before.keeper.attempted after.keeper.attempted
  pub read_faults : SameUnless marks.read_failed before.source.faults after.source.faults
  pub write_faults : SameUnless marks.write_failed before.out.faults after.out.faults
  pub load_faults : SameUnless marks.load_failed before.keeper.load_faults after.keeper.load_faults
  pub save_faults : SameUnless (marks.save_failed && passes saves (setting_of words)) before.keeper.save_faults after.keeper.save_faults

-- ---- the diagnostic

-- the line was appended whole, or a prefix of it if the diagnostic's count of faults rose
pub record AddsLine (before after : Stream) (line : List ℕ) : Type 0 where
  pub added : (Appends before.bytes after.bytes line × (after.faults ≡ before.faults))
      ⊎ (AppendsPart before.bytes after.bytes line × Rose before.faults after.faults)

-- nothing is written if all was done, else the line of the ending
abbrev pub WritesEnding : Columns → Stream → Stream → Option Ending → Type 0
WritesEnding columns before after None = after ≡ before
WritesEnding columns before after (Some ending) = AddsLine before after (note columns ending)

-- ---- the contract of an ending

-- there is a reason: the status shows it, it has its cause, the rest is unchanged, and the diagnostic says it
pub record EndsFor (words : List (List ℕ)) (before after : World) (note_before note_after : Stream) (status : ℕ) : Type 0 where
  pub reason : Option Ending
  pub status_is : status ≡ status_of reason
  pub cause : Cause words before after reason
  pub untouched : LeavesUntouched words before after (marks_of reason)
  pub observed : WritesEnding (columns_of words) note_before note_after reason
