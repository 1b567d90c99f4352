use Rattle.std.proofs.Common.{◌≡◌, ℕ, length, None, refl, sym, ap, ◌∙◌, subst, inr, arith}
use Rattle.std.specs.Option.{option_map, is_none}
use Rattle.audit_model.specs.declared.fault.GraphFault.TheVariants.{UnknownNeighbour}
use Rattle.audit_model.specs.First.{first_below}
use Rattle.audit_model.proofs.First.{first_below_more, first_below_here}
use Rattle.dual_json.specs.Edges.{is_unknown, AddsEdges}
use Rattle.dual_json.specs.Places.{object_at}
use Rattle.dual_json.specs.Shape.{views}
use Rattle.dual_json.proofs.Edging.{adds_none, adds_more}
use Rattle.dual_json.proofs.Listed.{object_is, length-views}
use Rattle.dual_json.proofs.edges.add_edges.Goals as goal

pub loop-place-init : goal.loop-place-init
loop-place-init c = (refl, adds_none c.args.index.now (views c.args.entries.now) c.args.node c.args.pairs.now.items)

pub returns-in_default : goal.returns-in_default
returns-in_default c =
    let l = c.loop-place-test.true in
    inr (ap (option_map (UnknownNeighbour c.args.node))
    (first_below_here (length (views c.args.entries.now)) c.loop-place.place (λ k. is_unknown c.args.index.now (object_at (views c.args.entries.now) k)) c.loop-place.invariant.0 (omega (arith, l, length-views c.args.entries.now))
    (ap (is_unknown c.args.index.now) (object_is c.args.entries.now c.loop-place.place c.index-entries-place.result l c.index-entries-place.is)
    ∙ ap is_none (sym c.node_of.ensures ∙ c.in_default.is))))

pub loop-place-preserved : goal.loop-place-preserved
loop-place-preserved c =
    let at = object_is c.args.entries.now c.loop-place.place c.index-entries-place.result c.loop-place-test.true c.index-entries-place.is in (
      first_below_more c.loop-place.place (λ k. is_unknown c.args.index.now (object_at (views c.args.entries.now) k)) c.loop-place.invariant.0
          (ap (is_unknown c.args.index.now) at ∙ ap is_none (sym c.node_of.ensures ∙ c.in-Some.is)),
      adds_more c.args.index.now (views c.args.entries.now) c.loop-place.place c.args.node c.in-Some.other _ _ _ _ c.loop-place.invariant.1 at c.in-Some.ensures c.in_ok-push_edge.ensures,
    )

pub returns : goal.returns
returns c =
    let low = c.loop-place.auto.place-end in
    let high = c.loop-place-test.false in
    let at : c.loop-place.place ≡ length (views c.args.entries.now) = omega (arith, low, high, length-views c.args.entries.now) in
    let end : c.loop-place.place ≡ length c.args.entries.now = omega (arith, low, high) in (
      subst (λ (m : ℕ). first_below m (λ k. is_unknown c.args.index.now (object_at (views c.args.entries.now) k)) ≡ None) at c.loop-place.invariant.0,
      subst (λ (m : ℕ). AddsEdges c.args.index.now (views c.args.entries.now) m c.args.node c.args.pairs.now.items c.loop-place.pairs.items) end c.loop-place.invariant.1,
    )
