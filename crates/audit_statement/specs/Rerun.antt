-- Runs of one job, and chains of them over the same slots.
use Rattle.std.specs.Prelude.{◌≡◌, ◌⊎◌, ℕ, Bool, IsTrue, IsFalse, List, [], ◌∷◌, ⊤, Option, Some}
use Rattle.std.specs.Io.KnownBytes.{Appends}
use Rattle.audit_model.specs.Faults.{Rose}
use Rattle.audit_model.specs.Pair.{Pair}
use Rattle.audit_model.specs.Attempts.{Try}
use Rattle.audit_model.specs.declared.origin.Origin.{Origin}
use Rattle.audit_model.specs.declared.outcome.Outcome.{Outcome}
use Rattle.audit_model.specs.declared.setting.Command.{Command}
use Rattle.audit_model.specs.Job.{Job}
use Rattle.audit_model.specs.Run.{fits, run_ids}
use Rattle.audit_model.specs.Serially.{serial_of}
use Rattle.audit_model.specs.Stopping.{stops_of}
use Rattle.audit_model.specs.Trajectory.{Draws, outcome, sequence, whole}
use Rattle.audit_statement.specs.Checkpoint.{job_digest}
use Rattle.audit_statement.specs.Histories.{AreCarriedOut}
use Rattle.audit_statement.specs.Slots.{IsNotOurs}
use Rattle.audit_statement.specs.Draw.{draw}
use Rattle.audit_statement.specs.Report.{report, thread_report}
use Rattle.audit_statement.specs.Causes.{IsTheJob}
use Rattle.audit_statement.specs.Chain.{AreConsistentOf, AttemptedRightly, AttemptsOver}
use Rattle.audit_statement.specs.Endings.{first_place, is_walking, leaves_work, initial_outcomes_from}
use Rattle.audit_statement.specs.InOrder.{AreSavesSoFar}
use Rattle.audit_statement.specs.Headline.{StartsWith}
use Rattle.audit_statement.specs.Promise.{KeepsItsPromise}
use Rattle.audit_model.specs.State.{Stream}
use Rattle.audit_statement.specs.World.{World}

-- The parts of a setting that may differ between runs of one job, and the origin.
pub record RunOptions : Type 0 where
  pub command : Command
  pub workers : ℕ
  pub budget : ℕ
  pub save_every : ℕ
  pub resume : Bool
  pub shift : Bool
  pub serial : Bool
  pub parts : ℕ
  pub part : ℕ
  pub source : Bool
  pub first_id : ℕ
  pub last_id : ℕ
  pub thin : ℕ
  pub pairs : Bool
  pub blind : Bool
  pub origin : Option Origin

-- the job in another run
abbrev pub rerun : Job → RunOptions → Job
rerun job options = record job {
  setting = record job.setting {
    command = options.command;
    workers = options.workers;
    budget = options.budget;
    save_every = options.save_every;
    resume = options.resume;
    shift = options.shift;
    serial = options.serial;
    parts = options.parts;
    part = options.part;
    source = options.source;
    first_id = options.first_id;
    last_id = options.last_id;
    thin = options.thin;
    pairs = options.pairs;
    blind = options.blind;
  };
  origin = options.origin;
}

-- the job with another run's requests: for pairs of walks, a blind report, a histogram, the serial test and the origin
abbrev pub asking : Job → RunOptions → Job
asking job options = record job {
  setting = record job.setting { shift = options.shift; serial = options.serial; pairs = options.pairs; blind = options.blind };
  origin = options.origin;
}

-- Both jobs have one digest, the same outcomes with histograms, the same plausible outcomes, serial test, consistent
-- slots and stops. If both ask for histograms or neither does, they have the same outcomes and, with equal origins and
-- equal requests for pairs and for a blind report, the same report.
pub record FindTheSame (job other : Job) : Type 0 where
  pub same_digest : job_digest other ≡ job_digest job
  pub same_whole : (draws : Draws) (id : ℕ) → whole other draws id ≡ whole job draws id
  pub same_fits : (o : Outcome) → fits other o ≡ fits job o
  pub same_serial : (draws : Draws) → serial_of other draws ≡ serial_of job draws
  pub same_consistent : (p : Pair) → AreConsistentOf job p → AreConsistentOf other p
  pub same_outcome : other.setting.shift ≡ job.setting.shift → (draws : Draws) (id : ℕ) → outcome other draws id ≡ outcome job draws id
  pub same_sequence : other.setting.shift ≡ job.setting.shift → (draws : Draws) → sequence other draws ≡ sequence job draws
  pub same_stops : (outcomes : List Outcome) → stops_of other outcomes ≡ stops_of job outcomes
  pub same_report : other.setting.shift ≡ job.setting.shift → other.origin ≡ job.origin → other.setting.pairs ≡ job.setting.pairs
      → other.setting.blind ≡ job.setting.blind → (outcomes : List Outcome) (stops : List (List ℕ)) (serial : Option (ℕ × List ℕ))
      → report other outcomes stops serial ≡ report job outcomes stops serial

-- the options of a run do not change what its job finds
abbrev pub RerunsAreAlike : Type 0
RerunsAreAlike = (job : Job) (options : RunOptions) → FindTheSame job (rerun job options)

-- ---- chains

-- a run that ended, or would have: its arguments, the outside and the diagnostic before and after it, its status, its
-- options, and the slots that it left
pub record Link : Type 0 where
  pub words : List (List ℕ)
  pub before : World
  pub after : World
  pub note_before : Stream
  pub note_after : Stream
  pub status : ℕ
  pub options : RunOptions
  pub slots : Pair

-- the job as this run had it
abbrev pub job_in : Job → Link → Job
job_in job l = rerun job l.options

-- a run of the job over these slots with an observable keeper, whose save attempts are as the top call promises
pub record IsRunOver (job : Job) (p : Pair) (l : Link) : Type 0 where
  pub attempted : AttemptedRightly l.words l.before l.after l.status
  pub the_job : IsTheJob l.words l.before (job_in job l)
  pub found : l.before.keeper.slots ≡ Some p
  pub observed : List Try
  pub observed_is : l.before.keeper.attempted ≡ Some observed
  pub now : List Try
  pub now_is : l.after.keeper.attempted ≡ Some now

-- The run ended with all that the top call promises, and its command walks. If a save failed, each success left its
-- bytes, and each failure left what was there, a prefix, or no checkpoint of the job. This is required of the keeper
-- alone.
pub record IsLink (job : Job) (p : Pair) (l : Link) : Type 0 where
  pub over : IsRunOver job p l
  pub promised : KeepsItsPromise l.words l.before l.after l.note_before l.note_after l.status
  pub walking : IsTrue (is_walking l.options.command)
  pub left : l.after.keeper.slots ≡ Some l.slots
  pub carried : Rose l.before.keeper.save_faults l.after.keeper.save_faults → (t : AttemptsOver (job_in job l) l.before l.after p l.status over.observed over.now)
      → AreCarriedOut IsNotOurs (job_in job l) (job_digest (job_in job l)) p t.attempts l.slots

-- the save attempts of a run of the job over these slots at some moment (Due): none, or those so far of a run from
-- these slots
abbrev pub AreAttemptsSoFar : Job → Pair → List Try → Type 0
AreAttemptsSoFar job p attempts =
    (attempts ≡ []) ⊎ ((outcomes : List Outcome) × (initial_outcomes_from job.setting.resume job p ≡ Some outcomes)
    × AreSavesSoFar job outcomes job.setting.save_every (first_place job p) (run_ids job outcomes job.setting.budget) attempts)

-- The run was stopped, or never ended. It had attempted these saves, the last of them perhaps interrupted, and they
-- left these slots. This is required of the keeper alone; the run need not be one that ends.
pub record IsStop (job : Job) (p : Pair) (options : RunOptions) (attempts : List Try) (q : Pair) : Type 0 where
  pub so_far : AreAttemptsSoFar (rerun job options) p attempts
  pub carried : AreCarriedOut IsNotOurs (rerun job options) (job_digest (rerun job options)) p attempts q

-- a run that ended, or one that was stopped after these save attempts and left these slots
pub data Event : Type 0 where
  ran : Link → Event
  stopped : RunOptions → List Try → Pair → Event

-- the slots that it left
abbrev pub slots_after : Event → Pair
slots_after (ran l) = l.slots
slots_after (stopped options attempts q) = q

-- it is a run of the job over these slots, ended or not
abbrev pub IsEvent : Job → Pair → Event → Type 0
IsEvent job p (ran l) = IsLink job p l
IsEvent job p (stopped options attempts q) = IsStop job p options attempts q

-- runs of the job, of any of its parts, one after another, each over the slots that the one before left
abbrev pub IsChain : Job → Pair → List Event → Type 0
IsChain job p [] = ⊤
IsChain job p (e ∷ events) = IsEvent job p e × IsChain job (slots_after e) events

-- The run wrote the report of one thread: with pairs of walks, a histogram, the serial test and the origin exactly as it
-- asked, or a blind one. Its command, workers, budget, parts, saves and initial outcomes change nothing, nor do other runs of the chain.
abbrev pub WroteOneThreads : Job → Link → Type 0
WroteOneThreads job l = Appends l.before.out.bytes l.after.out.bytes (thread_report (asking job l.options) (draw job.setting.key))

-- it did so with status 0, and with status 9 after a failed save if no work was left
pub record WroteWhereDue (job : Job) (l : Link) : Type 0 where
  pub done : l.status ≡ 0 → WroteOneThreads job l
  pub save_failed : (outcomes : List Outcome) → StartsWith l.words l.before (job_in job l) outcomes → IsFalse (leaves_work (job_in job l) outcomes) → l.status ≡ 9
      → WroteOneThreads job l

-- an ended run has written its report, if it was due
abbrev pub HasWritten : Job → Event → Type 0
HasWritten job (ran l) = WroteWhereDue job l
HasWritten job (stopped options attempts q) = ⊤

-- all have
abbrev pub AllHaveWritten : Job → List Event → Type 0
AllHaveWritten job [] = ⊤
AllHaveWritten job (e ∷ events) = HasWritten job e × AllHaveWritten job events

-- From consistent slots, each run of a chain writes the report of one thread if it ends with status 0, or with 9 and
-- no work left. Empty slots and those of version 1 are consistent.
abbrev pub ChainsWriteOneReport : Type 0
ChainsWriteOneReport = (job : Job) (p : Pair) (events : List Event) → AreConsistentOf job p → IsChain job p events → AllHaveWritten job events
