use Rattle.std.proofs.Common.{◌≡◌, ℕ, length, None, refl, sym, ap, ◌∙◌, subst, arith}
use Rattle.audit_model.specs.First.{first_below}
use Rattle.audit_model.proofs.First.{first_below_more, first_below_here}
use Rattle.dual_json.specs.Required.{is_missing}
use Rattle.dual_json.specs.Places.{object_at}
use Rattle.dual_json.specs.Shape.{views}
use Rattle.dual_json.proofs.Listed.{object_is, length-views}
use Rattle.dual_json.proofs.required.first_missing.Goals as goal

pub loop-place-init : goal.loop-place-init
loop-place-init c = refl

pub returns-then-is_missing : goal.returns-then-is_missing
returns-then-is_missing c =
    let l = c.loop-place-test.true in
    sym (first_below_here (length (views c.args.entries.now)) c.loop-place.place (λ k. is_missing c.args.required (object_at (views c.args.entries.now) k)) c.loop-place.invariant (omega (arith, l, length-views c.args.entries.now))
    (ap (is_missing c.args.required) (object_is c.args.entries.now c.loop-place.place c.index-entries-place.result l c.index-entries-place.is)
    ∙ sym c.is_missing.ensures ∙ c.if-is_missing.true))

pub loop-place-preserved : goal.loop-place-preserved
loop-place-preserved c =
    first_below_more c.loop-place.place (λ k. is_missing c.args.required (object_at (views c.args.entries.now) k)) c.loop-place.invariant
    (ap (is_missing c.args.required) (object_is c.args.entries.now c.loop-place.place c.index-entries-place.result c.loop-place-test.true c.index-entries-place.is)
    ∙ sym c.is_missing.ensures ∙ c.if-is_missing.false)

pub returns : goal.returns
returns c =
    let low = c.loop-place.auto.place-end in
    let high = c.loop-place-test.false in
    let at : c.loop-place.place ≡ length (views c.args.entries.now) = omega (arith, low, high, length-views c.args.entries.now) in
    sym (subst (λ (m : ℕ). first_below m (λ k. is_missing c.args.required (object_at (views c.args.entries.now) k)) ≡ None) at c.loop-place.invariant)
