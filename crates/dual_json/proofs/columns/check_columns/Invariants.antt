use Rattle.std.proofs.Common.{◌≡◌, None}
use Rattle.std.specs.Option.{option_map}
use Rattle.audit_model.specs.declared.fault.GraphFault.TheVariants as fault
use Rattle.audit_model.specs.First.{first_some_below}
use Rattle.dual_json.specs.Columns.{missing_in}
use Rattle.dual_json.specs.Places.{object_at}
use Rattle.dual_json.specs.Shape.{views}
use Rattle.dual_json.proofs.columns.check_columns.Given as goal

abbrev pub invariant-loop-node : goal.invariant-loop-node
invariant-loop-node l = first_some_below l.node (λ i. option_map (fault.Missing i) (missing_in l.columns (object_at (views l.nodes) i))) ≡ None
