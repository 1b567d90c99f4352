use Rattle.std.proofs.Common.{◌≡◌, None}
use Rattle.std.specs.Option.{option_map}
use Rattle.audit_model.specs.declared.fault.GraphFault.TheVariants.{UnknownNeighbour}
use Rattle.audit_model.specs.First.{first_some_below}
use Rattle.dual_json.specs.Edges.{entries_at, first_in, is_unknown, AreListed}
use Rattle.dual_json.specs.Shape.{lists_in}
use Rattle.dual_json.proofs.edges.pairs_of.Given as goal

abbrev pub invariant-loop-node : goal.invariant-loop-node
invariant-loop-node l = (first_some_below l.node (λ i. option_map (UnknownNeighbour i) (first_in (is_unknown l.index) (entries_at (lists_in l.adjacency) i))) ≡ None)
    × AreListed l.index (lists_in l.adjacency) l.node l.pairs.items
