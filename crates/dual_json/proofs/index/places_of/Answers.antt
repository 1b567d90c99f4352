use Rattle.std.proofs.Common.{refl, sym, ap, ◌∙◌, inr, arith}
use Rattle.std.specs.Map.{lookup}
use Rattle.std.proofs.lemmas.List.{length-map}
use Rattle.dual_json.specs.Names.{label_from, same_name}
use Rattle.dual_json.specs.Places.{labels_from}
use Rattle.dual_json.proofs.Indexed.{repeated_here, indexed_more, indexed_all}
use Rattle.dual_json.proofs.Named.{nth_get}
use Rattle.dual_json.proofs.index.places_of.Goals as goal

pub loop-place-init : goal.loop-place-init
loop-place-init c = record { leads = λ q. ap (lookup (same_name q)) c.in_ok-places.ensures.empty; none = refl }

pub returns-in-Ok-Some : goal.returns-in-Ok-Some
returns-in-Ok-Some c =
    let l = c.loop-place-test.true in
    inr (repeated_here (labels_from c.args.names.now) c.loop-place.place c.loop-place.places _ c.loop-place.invariant (nth_get c.args.names.now c.loop-place.place _ l)
    c.in-Ok-Some.first (omega (arith, l, length-map c.args.names.now label_from)) (sym c.in-Ok-Some.ensures.old ∙ c.in-Ok-Some.field-0-is))

pub loop-place-preserved : goal.loop-place-preserved
loop-place-preserved c =
    indexed_more (labels_from c.args.names.now) c.loop-place.place c.loop-place.places _ c.loop-place.invariant (nth_get c.args.names.now c.loop-place.place _ c.loop-place-test.true)
    c.insert.new.self (sym c.in-Ok-None.ensures.old ∙ c.in-Ok-None.field-0-is) c.in-Ok-None.ensures.updates.0

pub returns : goal.returns
returns c =
    let low = c.loop-place.auto.place-end in
    let high = c.loop-place-test.false in
    indexed_all (labels_from c.args.names.now) c.loop-place.place c.loop-place.places (omega (arith, low, high, length-map c.args.names.now label_from)) c.loop-place.invariant
