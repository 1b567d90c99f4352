use Rattle.std.proofs.Common.{ap, ◌∙◌, arith}
use Rattle.std.specs.Prelude.{count_by}
use Rattle.std.proofs.lemmas.List.{take_all}
use Rattle.audit_model.specs.District.{in_district}
use Rattle.audit_model.proofs.Rows.{row_counted}
use Rattle.district_sums.proofs.mates.scan_mates.Goals as goal

pub returns-clause-one : goal.returns-clause-one
returns-clause-one c =
    c.loop-neighbor.invariant.one
    ∙ ap (count_by (in_district c.args.member.plan.now c.args.one))
    (take_all c.loop-neighbor.neighbor-index c.neighbours-neighbor-items.result.now (omega (arith, c.loop-neighbor-test.false)) ∙ c.neighbours-neighbor-items.ensures.list)
    ∙ row_counted c.args.member.graph.now c.args.member.unit (in_district c.args.member.plan.now c.args.one) c.args.member.sound

pub returns-clause-other : goal.returns-clause-other
returns-clause-other c =
    c.loop-neighbor.invariant.other
    ∙ ap (count_by (in_district c.args.member.plan.now c.args.other))
    (take_all c.loop-neighbor.neighbor-index c.neighbours-neighbor-items.result.now (omega (arith, c.loop-neighbor-test.false)) ∙ c.neighbours-neighbor-items.ensures.list)
    ∙ row_counted c.args.member.graph.now c.args.member.unit (in_district c.args.member.plan.now c.args.other) c.args.member.sound
