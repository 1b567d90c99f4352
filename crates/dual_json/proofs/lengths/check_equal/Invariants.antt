use Rattle.std.proofs.Common.{◌≡◌, None}
use Rattle.std.specs.Option.{option_map}
use Rattle.audit_model.specs.declared.fault.GraphFault.TheVariants.{UnequalLengths}
use Rattle.audit_model.specs.First.{first_some_below}
use Rattle.dual_json.specs.Lengths.{is_unequal}
use Rattle.dual_json.specs.Edges.{entries_at, first_in}
use Rattle.dual_json.specs.Shape.{lists_in}
use Rattle.dual_json.proofs.lengths.check_equal.Given as goal

abbrev pub invariant-loop-node : goal.invariant-loop-node
invariant-loop-node l = first_some_below l.node (λ i. option_map (UnequalLengths i) (first_in (is_unequal l.fn.listed.key.now l.fn.listed.index.now (lists_in l.fn.listed.adjacency.now) i) (entries_at (lists_in l.fn.listed.adjacency.now) i))) ≡ None
