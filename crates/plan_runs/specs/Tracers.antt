-- The memory that a trace allocates before its first write, and the ways a trace can end.
use Rattle.std.specs.Prelude.{◌≡◌, ℕ, List, [], ◌∷◌, Ok, codes, length}
use Rattle.std.specs.Io.KnownBytes.{Appends}
use Rattle.audit_model.specs.Faults.{Rose}
use Rattle.audit_model.specs.State.{Stream}
use Rattle.audit_model.specs.Job.{Job}
use Rattle.audit_statement.specs.Along.{moves_after, own_steps, plan_after}
use Rattle.audit_statement.specs.Draw.{draw}
use Rattle.audit_statement.specs.Endings.{AppendsPart}
use Rattle.audit_statement.specs.Report.{line}
use Rattle.audit_statement.specs.Trace.{count_shown, first_lines, range_lines, trace_head, trace_text}
use Rattle.flip_kernel.specs.ChainState.{ChainState}
use Rattle.plan_runs.specs.declared.tracing.TraceBuffers.{TraceBuffers}
use Rattle.plan_runs.specs.declared.tracing.Traced.{Traced}
use Rattle.plan_runs.specs.declared.tracing.TraceRange.{TraceRange}
use Rattle.plan_runs.specs.declared.tracing.Tracer.{Tracer}
use Rattle.plan_runs.specs.LineBuffers.{IsLineBuffer}
use Rattle.report.specs.AddedText.{WritesAllOf}
use Rattle.audit_statement.specs.DueText.{LetsBytes, LetsText}
use Rattle.report.specs.declared.ended.Ended.{Ended}
use Rattle.report.specs.declared.ended.Ended.TheVariants as ended

-- a walker of the job, and a line buffer
pub record IsTracer {J : Type 0} (job : Job) (t : Tracer J) : Type 0 where
  pub made : t.walker.job ≡ job
  pub line_buffer : IsLineBuffer job t.line_buffer

-- a tracer, the hub's memory, and the lines before the first trajectory
pub record AreTraceBuffersFor {J : Type 0} (job : Job) (r : TraceBuffers J) : Type 0 where
  pub tracer : IsTracer job r.tracer
  pub hub : length r.hub ≡ job.graph.units
  pub head : r.head.items ≡ trace_head job

-- the current plan is that of the trajectory with this id after these steps and moves
pub record IsCurrentAt (job : Job) (id step : ℕ) (current : ChainState) (moved : ℕ) : Type 0 where
  pub plan : current.plan ≡ plan_after job (draw job.setting.key) id step
  pub counted : moved ≡ moves_after job (draw job.setting.key) id step

-- the lines of all plans of a trajectory that are shown
abbrev pub all_lines : Job → Traced → List ℕ
all_lines job traced = first_lines job (draw job.setting.key) traced.id traced.thin (count_shown traced.thin (own_steps job traced.id))

-- the last line
abbrev pub end_line : List ℕ
end_line = line (codes "end" ∷ [])

-- the lines of this many trajectories of a range
abbrev pub lines_of_range : Job → TraceRange → ℕ → List ℕ
lines_of_range job range count = range_lines job (draw job.setting.key) range.thin range.first count

-- the text of the trace
abbrev pub text_of_range : Job → TraceRange → List ℕ
text_of_range job range = trace_text job (draw job.setting.key) range.first range.last range.thin

-- the end of a trace: it was written in full, or in part if a write failed, or nothing was written if memory ran out
abbrev pub TracesJob : Job → TraceRange → Stream → Stream → Ended → Type 0
TracesJob job range before after ended.Done = Appends before.bytes after.bytes (text_of_range job range) × (after.faults ≡ before.faults)
TracesJob job range before after ended.WriteFault = AppendsPart before.bytes after.bytes (text_of_range job range) × Rose before.faults after.faults
TracesJob job range before after ended.NoMemory = after ≡ before
TracesJob job range before after _ = ⊥

-- the sink permits the lines of a trajectory, of which it took the first
pub record LetsLines (lets : LetsBytes) (now : Stream) (job : Job) (traced : Traced) : Type 0 where
  pub start : Stream
  pub taken : WritesAllOf start now (first_lines job (draw job.setting.key) traced.id traced.thin 1) (Ok tt)
  pub permitted : LetsText lets start (all_lines job traced)
