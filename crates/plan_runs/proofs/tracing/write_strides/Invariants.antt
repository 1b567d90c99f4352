use Rattle.std.proofs.Common.{◌≡◌, ◌+◌, Ok}
use Rattle.audit_model.specs.State.{Stream}
use Rattle.audit_statement.specs.Along.{own_steps}
use Rattle.audit_statement.specs.Draw.{draw}
use Rattle.audit_statement.specs.Trace.{first_lines, shown}
use Rattle.plan_runs.specs.LineBuffers.{IsLineBuffer}
use Rattle.report.specs.AddedText.{WritesAllOf}
use Rattle.walker.specs.Walked.{IsUnderWay}
use Rattle.plan_runs.proofs.tracing.write_strides.Given as goal

abbrev pub invariant-loop-place : goal.invariant-loop-place
invariant-loop-place g l = record {
  at : l.step ≡ shown l.traced.thin (own_steps l.job l.traced.id) l.place;
  line_buffer : IsLineBuffer l.job l.tracer.line_buffer;
  way : IsUnderWay l.job l.traced.id l.step l.tracer.walker l.way;
  before : l.tracer.line_buffer.before ≡ l.tracer.walker.plan;
  written : (before : Stream) → WritesAllOf before (g.K.Sink.state l.initial.out) (first_lines l.job (draw l.job.setting.key) l.traced.id l.traced.thin 1) (Ok tt)
      → WritesAllOf before (g.K.Sink.state l.out) (first_lines l.job (draw l.job.setting.key) l.traced.id l.traced.thin (l.place + 1)) (Ok tt);
}
