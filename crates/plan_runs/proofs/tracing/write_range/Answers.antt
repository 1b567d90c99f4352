use Rattle.std.proofs.Common.{◌≤◌, ◌+◌, ◌-◌, ◌++◌, Ok, Err, arith}
use Rattle.audit_statement.specs.Draw.{draw}
use Rattle.plan_runs.proofs.Strides.{range_begun, range_cut, range_split, range_then}
use Rattle.audit_statement.specs.Trace.{trajectory_lines}
use Rattle.plan_runs.specs.Tracers.{lines_of_range}
use Rattle.report.proofs.Letting.{lets_as, lets_front, lets_rest}
use Rattle.plan_runs.proofs.tracing.write_range.Goals as goal

pub loop-place-init : goal.loop-place-init
loop-place-init g c = record {
  tracer = c.requires.tracer;
  written = range_begun c.args.job.now (draw c.args.job.now.setting.key) c.args.range.thin c.args.range.first (g.K.Sink.state c.args.out.now);
}

pub returns-in-Err : goal.returns-in-Err
returns-in-Err g c =
    let job = c.args.job.now in
    let range = c.args.range in
    let place = c.loop-place.place in
    let few : place + 1 ≤ range.last + 1 - range.first = omega (arith, c.loop-place-test.true) in
    range_cut job (draw job.setting.key) range.thin range.first (g.K.Sink.state c.args.out.now) (g.K.Sink.state c.write_trajectory.new.out) (place + 1) (range.last + 1 - range.first)
    c.in-Err.field-0 _ few
    (range_then job (draw job.setting.key) range.thin range.first (g.K.Sink.state c.args.out.now) (g.K.Sink.state c.loop-place.out) (g.K.Sink.state c.write_trajectory.new.out) place
    (Err c.in-Err.field-0) c.loop-place.invariant.written c.in-Err.ensures.written)

pub loop-place-preserved : goal.loop-place-preserved
loop-place-preserved g c =
    let job = c.args.job.now in
    let range = c.args.range in
    record {
      tracer = c.in-Ok.ensures.tracer;
      written = range_then job (draw job.setting.key) range.thin range.first (g.K.Sink.state c.args.out.now) (g.K.Sink.state c.loop-place.out) (g.K.Sink.state c.write_trajectory.new.out)
          c.loop-place.place (Ok tt) c.loop-place.invariant.written c.in-Ok.ensures.written;
    }

pub write_trajectory-requires-clause-text : goal.write_trajectory-requires-clause-text
write_trajectory-requires-clause-text g c =
    let job = c.args.job.now in
    let range = c.args.range in
    let place = c.loop-place.place in
    let few : place + 1 ≤ range.last + 1 - range.first = omega (arith, c.loop-place-test.true) in
    let parts = range_split job (draw job.setting.key) range.thin range.first place (range.last + 1 - range.first) few in
    let next = trajectory_lines job (draw job.setting.key) range.thin (range.first + place) in
    let taken = c.loop-place.invariant.written in
    lets_front next parts.0 (lets_rest (lines_of_range job range place) (next ++ parts.0) (lets_as c.requires.text parts.1) taken.0 taken.1)
