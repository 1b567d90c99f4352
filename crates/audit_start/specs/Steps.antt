-- From the arguments and the source to a job: the results that the steps pass on.
use Rattle.std.specs.Prelude.{◌≡◌, ℕ, ◌<◌, ◌≤◌, true, false, List, [], length, ⊤, Result, Ok, Err}
use Rattle.std.specs.Io.KnownBytes.{IsAtEnd}
use Rattle.audit_model.specs.Job.{Job}
use Rattle.audit_model.specs.JobOf.{IsJob}
use Rattle.audit_model.specs.Room.{RoomyBytes}
use Rattle.audit_model.specs.Faults.{Rose}
use Rattle.report.specs.declared.ended.Ended.{Ended}
use Rattle.audit_start.specs.declared.reading.ReadEnd.{ReadEnd}
use Rattle.audit_start.specs.declared.reading.ReadEnd.TheVariants as read
use Rattle.report.specs.declared.ended.Ended.TheVariants as ended
use Rattle.grid_maker.specs.Columns.{grid_columns}
use Rattle.audit_statement.specs.Note.{bad_graph, bad_regions, bad_plan}
use Rattle.audit_statement.specs.Words.{setting_of}
use Rattle.audit_model.specs.declared.setting.Setting.{Setting}
use Rattle.audit_statement.specs.Accepted.{most_bytes, judged}
use Rattle.audit_statement.specs.Endings.{IsPrepared, TakesTooMany}
use Rattle.audit_laws.specs.Calls.{RunsTo}
use Rattle.audit_model.specs.State.{KeeperState, Stream}
use Rattle.audit_model.specs.Observed.{IfObserved}
use Rattle.audit_statement.specs.World.{world}

-- all remaining bytes were read
pub record ReadsAll (before after : Stream) (bytes : List ℕ) : Type 0 where
  pub given : IfObserved before.bytes (λ left. left ≡ bytes)
  pub at_end : IsAtEnd after.bytes
  pub few : length bytes ≤ most_bytes
  pub faults : after.faults ≡ before.faults

-- there were more bytes than the limit, and one more than the limit was read
pub record ReadsTooMany (before after : Stream) : Type 0 where
  pub bytes : List ℕ
  pub given : IfObserved before.bytes (λ left. left ≡ bytes)
  pub many : most_bytes < length bytes
  pub taken : TakesTooMany true before.bytes after.bytes
  pub faults : after.faults ≡ before.faults

abbrev pub ReadsSource : Stream → Stream → Result RoomyBytes ReadEnd → Type 0
ReadsSource before after (Ok bytes) = ReadsAll before after bytes.items
ReadsSource before after (Err read.Failed) = Rose before.faults after.faults
ReadsSource before after (Err read.TooMany) = ReadsTooMany before after
ReadsSource before after (Err read.Memory) = after.faults ≡ before.faults

-- the job was prepared, or the call ends, whatever the rest of the state
abbrev pub Prepares : List (List ℕ) → Stream → Stream → Result Job Ended → Type 0
Prepares words before after (Ok job) = IsPrepared words before after job
Prepares words before after (Err why) = (out : Stream) (keeper : KeeperState) → RunsTo words (world before out keeper) (world after out keeper) why

-- the reason why these bytes have no job
abbrev pub JudgedSo : Setting → List ℕ → Ended → Type 0
JudgedSo setting bytes ended.NoMemory = ⊤
JudgedSo setting bytes (ended.BadGraph f columns) = (judged setting bytes ≡ Err (bad_graph f)) × (columns ≡ setting.columns)
JudgedSo setting bytes (ended.BadRegions f column) = judged setting bytes ≡ Err (bad_regions column f)
JudgedSo setting bytes (ended.BadPlan f) = judged setting bytes ≡ Err (bad_plan f)
JudgedSo setting bytes _ = ⊥

-- the job of these bytes, with its setting and within the limits
pub record IsJudged (setting : Setting) (bytes : List ℕ) (job : Job) : Type 0 where
  pub judged_so : judged setting bytes ≡ Ok job
  pub same : job.setting ≡ setting
  pub sound : IsJob job

abbrev pub Judges : Setting → List ℕ → Result Job Ended → Type 0
Judges setting bytes (Ok job) = IsJudged setting bytes job
Judges setting bytes (Err why) = JudgedSo setting bytes why

-- a grid of a possible size, with its own columns, no regions and no origin
pub record IsMaking (setting : Setting) : Type 0 where
  pub size : (1 ≤ setting.size) × (setting.size ≤ 30)
  pub columns : setting.columns ≡ grid_columns
  pub region : setting.region ≡ []
  pub no_source : setting.source ≡ false

abbrev pub PreparesFor : Setting → Stream → Stream → Result Job Ended → Type 0
PreparesFor setting before after result = (words : List (List ℕ)) → setting_of words ≡ Ok setting → Prepares words before after result
