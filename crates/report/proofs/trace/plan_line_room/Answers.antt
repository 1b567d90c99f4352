use Rattle.report.proofs.Changes.{plan_line_le, trace_id_line_le}
use Rattle.report.proofs.trace.plan_line_room.Goals as goal

pub returns-clause-start : goal.returns-clause-start
returns-clause-start c = λ id thin. trace_id_line_le c.args.job.now id thin c.units.result

pub returns-clause-plan : goal.returns-clause-plan
returns-clause-plan c = λ step moved before plan legal. plan_line_le c.args.job.now step moved before plan c.units.ensures.sound legal c.units.result c.units.ensures.units
