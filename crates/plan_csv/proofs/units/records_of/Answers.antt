use Rattle.std.proofs.Common.{refl, ap, inr, arith, length}
use Rattle.plan_csv.proofs.Placed.{unnamed_here, there_more, there_all}
use Rattle.plan_csv.proofs.units.records_of.Goals as goal

pub loop-unit-init : goal.loop-unit-init
loop-unit-init c = record { none = refl; count = ap length c.new-records.ensures.items; each = λ u l. absurd (omega (arith, l)) }

pub returns-in_default : goal.returns-in_default
returns-in_default c = inr (unnamed_here c.args.places.now c.loop-unit.unit c.loop-unit.records.items c.loop-unit.invariant c.loop-unit-test.true c.in_default.is)

pub loop-unit-preserved : goal.loop-unit-preserved
loop-unit-preserved c = there_more c.args.places.now c.loop-unit.unit c.loop-unit.records.items c.loop-unit.invariant c.in-Some.record c.push.new.self.items c.in-Some.is c.in_ok-push.ensures.items

pub returns : goal.returns
returns c =
    let low = c.loop-unit.auto.unit-end in
    let high = c.loop-unit-test.false in
    there_all c.args.places.now c.loop-unit.unit c.loop-unit.records.items (omega (arith, low, high)) c.loop-unit.invariant
