use Rattle.std.proofs.Common.{◌<◌, ◌≤◌, sym, subst}
use Rattle.plan_runs.specs.declared.tracing.TraceRange.{TraceRange}
use Rattle.audit_run.proofs.Tracing.{good_range, traced_ends}
use Rattle.plan_runs.specs.Tracers.{text_of_range}
use Rattle.audit_statement.specs.DueText.{LetsText}
use Rattle.audit_run.proofs.trace.trace_job.Goals as goal

pub trace_range-requires-clause-thin : goal.trace_range-requires-clause-thin
trace_range-requires-clause-thin g c =
    subst (λ (r : TraceRange). 0 < r.thin) (sym c.range_of.ensures.value) (good_range c.args.job.now c.range_of.ensures.sound c.requires.trace).some_thin

pub trace_range-requires-clause-order : goal.trace_range-requires-clause-order
trace_range-requires-clause-order g c =
    subst (λ (r : TraceRange). r.first ≤ r.last) (sym c.range_of.ensures.value) (good_range c.args.job.now c.range_of.ensures.sound c.requires.trace).in_order

pub trace_range-requires-clause-few : goal.trace_range-requires-clause-few
trace_range-requires-clause-few g c =
    subst (λ (r : TraceRange). r.last < 100000) (sym c.range_of.ensures.value) (good_range c.args.job.now c.range_of.ensures.sound c.requires.trace).few

pub returns : goal.returns
returns g c = λ keeper.
    traced_ends c.args.job.now c.requires.trace c.range_of.result c.range_of.ensures.value (g.K.Sink.state c.args.out.now) (g.K.Sink.state c.trace_range.new.out) keeper c.trace_range.result c.trace_range.ensures

pub trace_range-requires-clause-text : goal.trace_range-requires-clause-text
trace_range-requires-clause-text g c =
    subst (λ (r : TraceRange). LetsText g.K.Sink.lets (g.K.Sink.state c.args.out.now) (text_of_range c.args.job.now r)) (sym c.range_of.ensures.value) c.requires.text
