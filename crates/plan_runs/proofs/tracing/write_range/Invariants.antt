use Rattle.std.proofs.Common.{Ok}
use Rattle.plan_runs.specs.Tracers.{IsTracer, lines_of_range}
use Rattle.report.specs.AddedText.{WritesAllOf}
use Rattle.plan_runs.proofs.tracing.write_range.Given as goal

abbrev pub invariant-loop-place : goal.invariant-loop-place
invariant-loop-place g l = record {
  tracer : IsTracer l.job l.tracer;
  written : WritesAllOf (g.K.Sink.state l.initial.out) (g.K.Sink.state l.out) (lines_of_range l.job l.range l.place) (Ok tt);
}
