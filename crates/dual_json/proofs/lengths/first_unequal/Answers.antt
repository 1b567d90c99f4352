use Rattle.std.proofs.Common.{◌≡◌, ℕ, length, None, refl, sym, ap, ◌∙◌, subst, arith}
use Rattle.audit_model.specs.First.{first_below}
use Rattle.audit_model.proofs.First.{first_below_more, first_below_here}
use Rattle.dual_json.specs.Lengths.{is_unequal}
use Rattle.dual_json.specs.Shape.{lists_in}
use Rattle.dual_json.specs.Places.{object_at}
use Rattle.dual_json.specs.Shape.{views}
use Rattle.dual_json.proofs.Listed.{object_is, length-views}
use Rattle.dual_json.proofs.lengths.first_unequal.Goals as goal

pub loop-place-init : goal.loop-place-init
loop-place-init c = refl

pub returns-then-is_unequal : goal.returns-then-is_unequal
returns-then-is_unequal c =
    let l = c.loop-place-test.true in
    sym (first_below_here (length (views c.args.entries.now)) c.loop-place.place (λ k. is_unequal c.args.listed.key.now c.args.listed.index.now (lists_in c.args.listed.adjacency.now) c.args.node (object_at (views c.args.entries.now) k)) c.loop-place.invariant (omega (arith, l, length-views c.args.entries.now))
    (ap (is_unequal c.args.listed.key.now c.args.listed.index.now (lists_in c.args.listed.adjacency.now) c.args.node) (object_is c.args.entries.now c.loop-place.place c.index-entries-place.result l c.index-entries-place.is)
    ∙ sym c.is_unequal.ensures ∙ c.if-is_unequal.true))

pub loop-place-preserved : goal.loop-place-preserved
loop-place-preserved c =
    first_below_more c.loop-place.place (λ k. is_unequal c.args.listed.key.now c.args.listed.index.now (lists_in c.args.listed.adjacency.now) c.args.node (object_at (views c.args.entries.now) k)) c.loop-place.invariant
    (ap (is_unequal c.args.listed.key.now c.args.listed.index.now (lists_in c.args.listed.adjacency.now) c.args.node) (object_is c.args.entries.now c.loop-place.place c.index-entries-place.result c.loop-place-test.true c.index-entries-place.is)
    ∙ sym c.is_unequal.ensures ∙ c.if-is_unequal.false)

pub returns : goal.returns
returns c =
    let low = c.loop-place.auto.place-end in
    let high = c.loop-place-test.false in
    let at : c.loop-place.place ≡ length (views c.args.entries.now) = omega (arith, low, high, length-views c.args.entries.now) in
    sym (subst (λ (m : ℕ). first_below m (λ k. is_unequal c.args.listed.key.now c.args.listed.index.now (lists_in c.args.listed.adjacency.now) c.args.node (object_at (views c.args.entries.now) k)) ≡ None) at c.loop-place.invariant)
