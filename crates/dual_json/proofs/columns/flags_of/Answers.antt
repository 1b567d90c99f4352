use Rattle.std.proofs.Common.{◌≡◌, length, sym, ap, ◌∙◌, arith}
use Rattle.std.specs.Option.{unwrap_or}
use Rattle.audit_model.specs.Below.{map_below}
use Rattle.audit_model.proofs.Below.{map_below_more}
use Rattle.dual_json.specs.Columns.{flag_in}
use Rattle.dual_json.specs.Places.{object_at}
use Rattle.dual_json.specs.Shape.{views}
use Rattle.dual_json.proofs.Listed.{object_is, length-views}
use Rattle.dual_json.proofs.columns.flags_of.Goals as goal

pub loop-node-init : goal.loop-node-init
loop-node-init c = c.new-flags.ensures

pub loop-node-preserved : goal.loop-node-preserved
loop-node-preserved c =
    map_below_more c.loop-node.node (λ i. unwrap_or (flag_in c.args.key.now (object_at (views c.args.nodes.now) i)) 0) c.loop-node.flags c.push.new.self c.unwrap_or-flag.result
    c.loop-node.invariant
    (c.unwrap_or-flag.ensures ∙ ap (λ o. unwrap_or o 0) (c.flag_at.ensures ∙ ap (flag_in c.args.key.now) (sym (object_is c.args.nodes.now c.loop-node.node c.index-nodes-node.result c.loop-node-test.true c.index-nodes-node.is))))
    c.in_ok-push.ensures.ok

pub returns : goal.returns
returns c =
    let low = c.loop-node.auto.node-end in
    let high = c.loop-node-test.false in
    let at : c.loop-node.node ≡ length (views c.args.nodes.now) = omega (arith, low, high, length-views c.args.nodes.now) in
    c.loop-node.invariant ∙ ap (λ m. map_below m (λ i. unwrap_or (flag_in c.args.key.now (object_at (views c.args.nodes.now) i)) 0)) at
