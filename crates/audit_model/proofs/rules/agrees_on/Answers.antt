use Rattle.std.proofs.Common.{sym}
use Rattle.audit_model.proofs.Meeting.{strayed}
use Rattle.audit_model.proofs.rules.agrees_on.Goals as goal

pub returns-then-plan-unit : goal.returns-then-plan-unit
returns-then-plan-unit c =
    sym (strayed c.args.frozen.now c.args.home.now c.args.plan.now c.loop-unit.unit c.loop-unit-test.true c.if-frozen-unit-ne0.true c.if-plan-unit.true)
