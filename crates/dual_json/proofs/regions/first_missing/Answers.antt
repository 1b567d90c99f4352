use Rattle.std.proofs.Common.{◌≡◌, ℕ, length, None, refl, sym, ap, ◌∙◌, subst, arith}
use Rattle.std.specs.Option.{is_none}
use Rattle.serde_json.specs.Find.{get as member}
use Rattle.dual_json.specs.Values.{value_data}
use Rattle.audit_model.specs.First.{first_below}
use Rattle.audit_model.proofs.First.{first_below_more, first_below_here}
use Rattle.dual_json.specs.Places.{object_at}
use Rattle.dual_json.specs.Shape.{views}
use Rattle.dual_json.proofs.Listed.{object_is, length-views}
use Rattle.dual_json.proofs.Regioned.{absent_is}
use Rattle.dual_json.proofs.regions.first_missing.Goals as goal

pub loop-node-init : goal.loop-node-init
loop-node-init c = refl

pub returns-then-is_none : goal.returns-then-is_none
returns-then-is_none c =
    let l = c.loop-node-test.true in
    sym (first_below_here (length (views c.args.nodes.now)) c.loop-node.node (λ i. is_none (member c.args.column.now (object_at (views c.args.nodes.now) i))) c.loop-node.invariant (omega (arith, l, length-views c.args.nodes.now))
    (ap (λ d. is_none (member c.args.column.now d)) (object_is c.args.nodes.now c.loop-node.node c.index-nodes-node.result l c.index-nodes-node.is)
    ∙ ap (λ k. is_none (member k (value_data c.index-nodes-node.result))) (sym c.as_str.ensures) ∙ absent_is _ c.get.result (member c.as_str.result.now (value_data c.index-nodes-node.result)) c.is_none.result c.get.ensures c.is_none.ensures ∙ c.if-is_none.true))

pub loop-node-preserved : goal.loop-node-preserved
loop-node-preserved c =
    first_below_more c.loop-node.node (λ i. is_none (member c.args.column.now (object_at (views c.args.nodes.now) i))) c.loop-node.invariant
    (ap (λ d. is_none (member c.args.column.now d)) (object_is c.args.nodes.now c.loop-node.node c.index-nodes-node.result c.loop-node-test.true c.index-nodes-node.is)
    ∙ ap (λ k. is_none (member k (value_data c.index-nodes-node.result))) (sym c.as_str.ensures) ∙ absent_is _ c.get.result (member c.as_str.result.now (value_data c.index-nodes-node.result)) c.is_none.result c.get.ensures c.is_none.ensures ∙ c.if-is_none.false)

pub returns : goal.returns
returns c =
    let low = c.loop-node.auto.node-end in
    let high = c.loop-node-test.false in
    let at : c.loop-node.node ≡ length (views c.args.nodes.now) = omega (arith, low, high, length-views c.args.nodes.now) in
    sym (subst (λ (m : ℕ). first_below m (λ i. is_none (member c.args.column.now (object_at (views c.args.nodes.now) i))) ≡ None) at c.loop-node.invariant)
