use Rattle.plan_runs.specs.Plans.{plan_title}
use Rattle.plan_runs.proofs.Reported.{writes_part, writes_then}
use Rattle.report.proofs.Letting.{lets_front, lets_rest}
use Rattle.plan_runs.proofs.plans.write_plan.Goals as goal

pub returns-in-Err : goal.returns-in-Err
returns-in-Err g c = writes_part (g.K.Sink.state c.args.out.now) (g.K.Sink.state c.write_title.new.out) (plan_title c.args.name.now) c.args.text.now c.in-Err.field-0 c.in-Err.field-0 c.in-Err.ensures

pub returns-in-Ok : goal.returns-in-Ok
returns-in-Ok g c = writes_then (g.K.Sink.state c.args.out.now) (g.K.Sink.state c.write_title.new.out) (g.K.Sink.state c.write_all.new.out) (plan_title c.args.name.now) c.args.text.now c.write_all.result c.in-Ok.ensures c.write_all.ensures

pub write_title-requires : goal.write_title-requires
write_title-requires g c = lets_front (plan_title c.args.name.now) c.args.text.now c.requires

pub write_all-requires : goal.write_all-requires
write_all-requires g c = lets_rest (plan_title c.args.name.now) c.args.text.now c.requires c.in-Ok.ensures.0 c.in-Ok.ensures.1
