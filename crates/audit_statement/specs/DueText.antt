-- The text that a call may hand to its sinks at any moment, even if it never returns. A sink states which bytes it
-- permits, and `write` may only be called with permitted ones. The top call is proved for all sinks that permit the due
-- text. Some sinks permit nothing else, so the top call can never hand over a byte that is not due at this place.
use Rattle.std.specs.Prelude.{◌≡◌, ℕ, true, false, IsFalse, List, ◌++◌, Option, Ok}
use Rattle.std.specs.Io.KnownBytes.{Appends}
use Rattle.audit_model.specs.Pair.{Pair}
use Rattle.audit_model.specs.State.{KeeperState, Stream}
use Rattle.audit_model.specs.declared.outcome.Outcome.{Outcome}
use Rattle.audit_model.specs.declared.setting.Command.TheVariants.{Check, Trace}
use Rattle.audit_model.specs.declared.setting.Setting.{Setting}
use Rattle.audit_model.specs.Job.{Job}
use Rattle.audit_statement.specs.Accepted.{IsAccepted, columns_of}
use Rattle.audit_statement.specs.Draw.{draw}
use Rattle.audit_statement.specs.Endings.{AreInitialOutcomes, Cause, LeavesUntouched, full_of, is_walking, leaves_work, marks_of}
use Rattle.audit_statement.specs.Jobs.{Jobs}
use Rattle.audit_statement.specs.Note.{Ending}
use Rattle.audit_statement.specs.Report.{check_text, full_report, plans_text}
use Rattle.audit_statement.specs.Several.{HasPlansInput, PlansCause, PlansLeave, names_plans, plans_judged, plans_marks}
use Rattle.audit_statement.specs.Status.{line_of}
use Rattle.audit_statement.specs.Trace.{trace_text}
use Rattle.audit_statement.specs.World.{World, world}

-- the bytes that a sink permits: in a state, the bytes that it may be asked to take
abbrev pub LetsBytes : Type 1
LetsBytes = Stream → List ℕ → Type 0

-- The sink permits this text: in each state in which it took a front of the text since and no call failed, any bytes
-- that come next in the text.
pub record LetsText (lets : LetsBytes) (start : Stream) (text : List ℕ) : Type 0 where
  pub permits : (now : Stream) (done next rest : List ℕ) → text ≡ done ++ (next ++ rest) → Appends start.bytes now.bytes done → now.faults ≡ start.faults → lets now next

-- ---- one plan

-- the sink permits the report of a run with these initial outcomes, if the run leaves no work
abbrev pub LetsReport : LetsBytes → Job → Stream → List Outcome → Type 0
LetsReport lets job out outcomes = IsFalse (leaves_work job outcomes) → LetsText lets out (full_report job (draw job.setting.key) (full_of job outcomes))

-- the sink permits the report of a run that finds these slots
abbrev pub LetsReportFrom : LetsBytes → Job → Stream → Option Pair → Type 0
LetsReportFrom lets job out slots = (outcomes : List Outcome) → AreInitialOutcomes job slots outcomes → LetsReport lets job out outcomes

-- the sink permits the text of a job's command; a run finds these slots
pub record LetsTextOf (lets : LetsBytes) (job : Job) (out : Stream) (slots : Option Pair) : Type 0 where
  pub check : job.setting.command ≡ Check → LetsText lets out (check_text job)
  pub report : is_walking job.setting.command ≡ true → LetsReportFrom lets job out slots
  pub trace : job.setting.command ≡ Trace → LetsText lets out (trace_text job (draw job.setting.key) job.setting.first_id job.setting.last_id job.setting.thin)

-- the sink permits the text of the job that the arguments and the source give
abbrev pub LetsTextOfOne : LetsBytes → List (List ℕ) → World → Type 0
LetsTextOfOne lets words before = (job : Job) → IsAccepted words before.source.bytes job → LetsTextOf lets job before.out before.keeper.slots

-- ---- several plans

-- the sink permits the reports of the jobs that the arguments and the source give
abbrev pub LetsTextOfSeveral : LetsBytes → List (List ℕ) → Stream → Stream → Type 0
LetsTextOfSeveral lets words source out =
    (setting : Setting) (bytes : List ℕ) (jobs : Jobs) → HasPlansInput words source.bytes setting bytes → plans_judged setting bytes ≡ Ok jobs
    → LetsText lets out (plans_text (draw setting.key) jobs)

-- ---- both

-- The sink permits the due text of the arguments and the source: the text of a check, a trace, the report of a run or
-- the reports of several plans. The slots at the start of a run determine its initial outcomes. If they leave work, no
-- text is due. If the arguments, the graph or a plan is refused, no text is due.
pub record LetsDueText (lets : LetsBytes) (words : List (List ℕ)) (before : World) : Type 0 where
  pub one : names_plans words ≡ false → LetsTextOfOne lets words before
  pub several : names_plans words ≡ true → LetsTextOfSeveral lets words before.source before.out

-- ---- the diagnostic

-- the sink permits the line of each reason for which a call on one plan may end
abbrev pub LetsLineOfOne : LetsBytes → List (List ℕ) → World → Stream → Type 0
LetsLineOfOne lets words before note =
    (after : World) (reason : Option Ending) → Cause words before after reason → LeavesUntouched words before after (marks_of reason)
    → LetsText lets note (line_of (columns_of words) reason)

-- the sink permits the line of each reason for which a call on several plans may end; it uses no keeper
abbrev pub LetsLineOfSeveral : LetsBytes → List (List ℕ) → Stream → Stream → Stream → Type 0
LetsLineOfSeveral lets words source out note =
    (keeper : KeeperState) (after : World) (reason : Option Ending) → PlansCause words (world source out keeper) after reason
    → PlansLeave (world source out keeper) after (plans_marks reason) → LetsText lets note (line_of (columns_of words) reason)

-- The sink permits the due line: the one that says why the call ended. The reason must be possible from this world.
pub record LetsDueLine (lets : LetsBytes) (words : List (List ℕ)) (before : World) (note : Stream) : Type 0 where
  pub one : names_plans words ≡ false → LetsLineOfOne lets words before note
  pub several : names_plans words ≡ true → LetsLineOfSeveral lets words before.source before.out note
