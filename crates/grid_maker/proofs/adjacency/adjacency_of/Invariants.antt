use Rattle.std.proofs.Common.{◌≡◌, map}
use Rattle.serde_json.specs.View.{view}
use Rattle.audit_model.specs.Below.{map_below}
use Rattle.grid_maker.specs.Tree.{neighbours_tree}
use Rattle.grid_maker.proofs.adjacency.adjacency_of.Given as goal

abbrev pub invariant-loop-unit : goal.invariant-loop-unit
invariant-loop-unit l = map view l.list.items ≡ map_below l.unit (neighbours_tree l.square.size)
