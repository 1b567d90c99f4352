use Rattle.std.proofs.Common.{◌≡◌, map}
use Rattle.serde_json.specs.View.{view}
use Rattle.audit_model.specs.Below.{map_below}
use Rattle.grid_maker.specs.Tree.{node_tree}
use Rattle.grid_maker.proofs.nodes.nodes_of.Given as goal

abbrev pub invariant-loop-unit : goal.invariant-loop-unit
invariant-loop-unit l = record {
  key : l.draws.key ≡ l.fn.key;
  stream : l.draws.stream ≡ 4294967296;
  place : l.draws.place ≡ l.unit;
  nodes : map view l.list.items ≡ map_below l.unit (node_tree l.square.size l.fn.key);
}
