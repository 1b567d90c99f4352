use Rattle.std.proofs.Common.{refl, sym, ap, inr, arith, ◌∙◌, length, None, Some, ◌≡◌, ◌<◌, ◌+◌, suc, get_or}
use Rattle.std.specs.Option.{is_some}
use Rattle.audit_model.specs.declared.fault.TableFault.TheVariants as fault
use Rattle.plan_csv.proofs.Pushed.{item_is}
use Rattle.plan_csv.proofs.Placed.{again_here, placed_more, placed_all, placed_none}
use Rattle.plan_csv.proofs.units.places_of.Goals as goal

pub loop-entry-init : goal.loop-entry-init
loop-entry-init c = placed_none c.args.units.now c.args.count c.in_ok-places.places.items c.in_ok-places.ensures.0 c.in_ok-places.ensures.1

pub returns-then-is_some : goal.returns-then-is_some
returns-then-is_some c =
    let l = c.loop-entry-test.true in
    let under : get_or c.args.units.now c.loop-entry.entry 0 < c.args.count = c.requires.within c.loop-entry.entry l in
    let inside : get_or c.args.units.now c.loop-entry.entry 0 < length c.loop-entry.places.items = omega (arith, under, c.loop-entry.invariant.size) in
    let next : suc c.loop-entry.entry ≡ c.loop-entry.entry + 1 = omega arith in
    inr (again_here c.args.units.now c.args.count c.loop-entry.entry c.loop-entry.places.items c.loop-entry.invariant (get_or c.args.units.now c.loop-entry.entry 0) refl under l
    (ap is_some (item_is c.loop-entry.places.items (get_or c.args.units.now c.loop-entry.entry 0) c.index.result.now None inside c.index.ensures) ∙ sym c.is_some.ensures ∙ c.if-is_some.true)
    ∙ ap (λ k. Some (fault.Twice k)) next)

pub loop-entry-preserved : goal.loop-entry-preserved
loop-entry-preserved c =
    let l = c.loop-entry-test.true in
    let under : get_or c.args.units.now c.loop-entry.entry 0 < c.args.count = c.requires.within c.loop-entry.entry l in
    let inside : get_or c.args.units.now c.loop-entry.entry 0 < length c.loop-entry.places.items = omega (arith, under, c.loop-entry.invariant.size) in
    placed_more c.args.units.now c.args.count c.loop-entry.entry c.loop-entry.places.items c.loop-entry.invariant (get_or c.args.units.now c.loop-entry.entry 0) refl under _
    (ap is_some (item_is c.loop-entry.places.items (get_or c.args.units.now c.loop-entry.entry 0) c.index.result.now None inside c.index.ensures) ∙ sym c.is_some.ensures ∙ c.if-is_some.false)
    refl

pub returns : goal.returns
returns c =
    let low = c.loop-entry.auto.entry-end in
    let high = c.loop-entry-test.false in
    placed_all c.args.units.now c.args.count c.loop-entry.entry c.loop-entry.places.items (omega (arith, low, high)) c.loop-entry.invariant
