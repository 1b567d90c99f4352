use Rattle.std.proofs.Common.{◌+◌, ◌-◌}
use Rattle.plan_runs.specs.Tracers.{end_line, lines_of_range}
use Rattle.plan_runs.proofs.Strides.{wrote_then}
use Rattle.report.proofs.Letting.{lets_front, lets_rest}
use Rattle.plan_runs.proofs.tracing.write_body.Goals as goal

pub returns-in-Ok : goal.returns-in-Ok
returns-in-Ok g c =
    wrote_then (g.K.Sink.state c.args.out.now) (g.K.Sink.state c.write_range.new.out) (g.K.Sink.state c.write_all.new.out)
    (lines_of_range c.args.job.now c.args.range (c.args.range.last + 1 - c.args.range.first)) end_line c.write_all.result c.in-Ok.ensures c.write_all.ensures

pub write_range-requires-clause-text : goal.write_range-requires-clause-text
write_range-requires-clause-text g c =
    lets_front (lines_of_range c.args.job.now c.args.range (c.args.range.last + 1 - c.args.range.first)) end_line c.requires.text

pub write_all-requires : goal.write_all-requires
write_all-requires g c =
    lets_rest (lines_of_range c.args.job.now c.args.range (c.args.range.last + 1 - c.args.range.first)) end_line c.requires.text c.in-Ok.ensures.0 c.in-Ok.ensures.1
