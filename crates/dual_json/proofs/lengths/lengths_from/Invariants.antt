use Rattle.std.proofs.Common.{◌≡◌}
use Rattle.audit_model.specs.Below.{join_below}
use Rattle.dual_json.specs.Lengths.{row_lengths}
use Rattle.dual_json.specs.Shape.{lists_in}
use Rattle.dual_json.proofs.lengths.lengths_from.Given as goal

abbrev pub invariant-loop-node : goal.invariant-loop-node
invariant-loop-node l =
    l.lengths ≡ join_below l.node (row_lengths l.fn.listed.key.now l.fn.listed.index.now (lists_in l.fn.listed.adjacency.now) l.fn.graph)
