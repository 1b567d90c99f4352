use Rattle.std.proofs.Common.{◌≡◌, None}
use Rattle.std.specs.Option.{option_map}
use Rattle.audit_model.specs.First.{first_some_below}
use Rattle.dual_json.specs.Edges.{entries_at, first_in}
use Rattle.dual_json.specs.Required.{is_missing, missing_fault}
use Rattle.dual_json.specs.Shape.{lists_in}
use Rattle.dual_json.proofs.required.check_entries.Given as goal

abbrev pub invariant-loop-node : goal.invariant-loop-node
invariant-loop-node l = first_some_below l.node (λ i. option_map (missing_fault l.required i) (first_in (is_missing l.required) (entries_at (lists_in l.adjacency) i))) ≡ None
