use Rattle.std.proofs.Common.{length, refl, sym, ap, ◌∙◌, arith}
use Rattle.std.specs.Option.{is_none, option_map}
use Rattle.dual_json.specs.Names.{label_from}
use Rattle.dual_json.specs.Places.{label_at_key, object_at}
use Rattle.dual_json.specs.Shape.{views}
use Rattle.dual_json.proofs.Listed.{object_is, length-views}
use Rattle.dual_json.proofs.Named.{named_more, named_all}
use Rattle.dual_json.proofs.names.names_at.Goals as goal
use Rattle.audit_model.proofs.First.{first_below_here}

pub loop-i-init : goal.loop-i-init
loop-i-init c = record { none = refl; count = ap length c.new-names.ensures.items; each = λ k l. absurd (omega (arith, l)) }

pub returns-in_default : goal.returns-in_default
returns-in_default c =
    let l = c.loop-i-test.true in
    first_below_here (length (views c.args.objects.now)) c.loop-i.i (λ k. is_none (label_at_key c.args.key.now (object_at (views c.args.objects.now) k)))
    c.loop-i.invariant.none (omega (arith, l, length-views c.args.objects.now))
    (ap (λ d. is_none (label_at_key c.args.key.now d)) (object_is c.args.objects.now c.loop-i.i c.index-objects-i.result l c.index-objects-i.is)
    ∙ ap is_none (sym c.name_at.ensures) ∙ ap (λ o. is_none (option_map label_from o)) c.in_default.is)

pub loop-i-preserved : goal.loop-i-preserved
loop-i-preserved c =
    named_more c.args.key.now (views c.args.objects.now) c.loop-i.i c.loop-i.names.items c.push.new.self.items c.in-Some.name _ c.loop-i.invariant
    (object_is c.args.objects.now c.loop-i.i c.index-objects-i.result c.loop-i-test.true c.index-objects-i.is) c.in-Some.ensures c.in-Ok.ensures.items

pub returns : goal.returns
returns c =
    let low = c.loop-i.auto.i-end in
    let high = c.loop-i-test.false in
    named_all c.args.key.now (views c.args.objects.now) c.loop-i.i c.loop-i.names.items (omega (arith, low, high, length-views c.args.objects.now)) c.loop-i.invariant
