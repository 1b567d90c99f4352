use Rattle.std.proofs.Common.{refl, sym, ap, ◌∙◌}
use Rattle.std.specs.Option.{option_map}
use Rattle.audit_model.specs.declared.fault.GraphFault.TheVariants as fault
use Rattle.dual_json.specs.Columns.{missing_in}
use Rattle.dual_json.proofs.Listed.{objects_found, objects_more, objects_all}
use Rattle.dual_json.proofs.columns.check_columns.Goals as goal

pub loop-node-init : goal.loop-node-init
loop-node-init c = refl

pub returns-in-Some : goal.returns-in-Some
returns-in-Some c =
    objects_found c.args.nodes.now (λ i d. option_map (fault.Missing i) (missing_in c.args.columns.now d)) c.loop-node.node c.index-nodes-node.result (fault.Missing c.loop-node.node c.in-Some.column)
    c.loop-node-test.true c.index-nodes-node.is c.loop-node.invariant (ap (option_map (fault.Missing c.loop-node.node)) (sym c.missing_column.ensures ∙ c.in-Some.is))

pub loop-node-preserved : goal.loop-node-preserved
loop-node-preserved c =
    objects_more c.args.nodes.now (λ i d. option_map (fault.Missing i) (missing_in c.args.columns.now d)) c.loop-node.node c.index-nodes-node.result
    c.loop-node-test.true c.index-nodes-node.is c.loop-node.invariant (ap (option_map (fault.Missing c.loop-node.node)) (sym c.missing_column.ensures ∙ c.in_default.is))

pub returns : goal.returns
returns c =
    objects_all c.args.nodes.now (λ i d. option_map (fault.Missing i) (missing_in c.args.columns.now d)) c.loop-node.node c.loop-node.auto.node-end c.loop-node-test.false c.loop-node.invariant
