use Rattle.std.proofs.Common.{◌≡◌, ℕ, length, None, Some, refl, sym, ap, ◌∙◌, subst, arith}
use Rattle.std.specs.Option.{option_map}
use Rattle.audit_model.specs.First.{first_below}
use Rattle.audit_model.proofs.First.{first_below_more, first_below_here}
use Rattle.dual_json.specs.Lengths.{is_labelled, length_or_zero}
use Rattle.dual_json.specs.Names.{label_from}
use Rattle.dual_json.specs.Places.{object_at}
use Rattle.dual_json.specs.Shape.{views}
use Rattle.dual_json.proofs.Listed.{object_is, length-views}
use Rattle.dual_json.proofs.lengths.listed_length.Goals as goal

pub loop-place-init : goal.loop-place-init
loop-place-init c = refl

pub returns-then-is_named : goal.returns-then-is_named
returns-then-is_named c =
    let l = c.loop-place-test.true in
    let at = object_is c.args.entries.now c.loop-place.place c.index-entries-place.result l c.index-entries-place.is in
    let here = first_below_here (length (views c.args.entries.now)) c.loop-place.place (λ k. is_labelled (label_from c.args.name) (object_at (views c.args.entries.now) k)) c.loop-place.invariant (omega (arith, l, length-views c.args.entries.now))
    (ap (is_labelled (label_from c.args.name)) at ∙ sym c.is_named.ensures ∙ c.if-is_named.true) in
    ap Some (c.length_or_zero.ensures ∙ ap (length_or_zero c.args.key.now) (sym (object_is c.args.entries.now c.loop-place.place c.index-entries-place-then-is_named.result l c.index-entries-place-then-is_named.is)))
    ∙ sym (ap (option_map (λ k. length_or_zero c.args.key.now (object_at (views c.args.entries.now) k))) here)

pub loop-place-preserved : goal.loop-place-preserved
loop-place-preserved c =
    first_below_more c.loop-place.place (λ k. is_labelled (label_from c.args.name) (object_at (views c.args.entries.now) k)) c.loop-place.invariant
    (ap (is_labelled (label_from c.args.name)) (object_is c.args.entries.now c.loop-place.place c.index-entries-place.result c.loop-place-test.true c.index-entries-place.is)
    ∙ sym c.is_named.ensures ∙ c.if-is_named.false)

pub returns : goal.returns
returns c =
    let low = c.loop-place.auto.place-end in
    let high = c.loop-place-test.false in
    let at : c.loop-place.place ≡ length (views c.args.entries.now) = omega (arith, low, high, length-views c.args.entries.now) in
    sym (ap (option_map (λ k. length_or_zero c.args.key.now (object_at (views c.args.entries.now) k)))
    (subst (λ (m : ℕ). first_below m (λ k. is_labelled (label_from c.args.name) (object_at (views c.args.entries.now) k)) ≡ None) at c.loop-place.invariant))
