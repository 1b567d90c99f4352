use Rattle.std.proofs.Common.{length, ap, arith}
use Rattle.dual_json.proofs.Started.{started_more, started_all}
use Rattle.dual_json.proofs.districts.start_of.Goals as goal

pub loop-i-init : goal.loop-i-init
loop-i-init c = record { count = ap length c.new-start.ensures; inside = λ k l. absurd (omega (arith, l)); place = λ k l. absurd (omega (arith, l)) }

pub loop-i-preserved : goal.loop-i-preserved
loop-i-preserved c =
    started_more c.args.names.now c.args.found.now c.loop-i.i c.loop-i.start c.push.new.self c.place_of.result c.loop-i.invariant c.place_of.ensures.inside
    c.place_of.ensures.place c.in_ok-push.ensures.ok

pub returns : goal.returns
returns c =
    let low = c.loop-i.auto.i-end in
    let high = c.loop-i-test.false in
    started_all c.args.names.now c.args.found.now c.loop-i.i c.loop-i.start c.requires.different (omega (arith, low, high)) c.loop-i.invariant
