use Rattle.std.proofs.Common.{◌≡◌}
use Rattle.std.specs.Option.{unwrap_or}
use Rattle.audit_model.specs.Below.{map_below}
use Rattle.dual_json.specs.Columns.{flag_in}
use Rattle.dual_json.specs.Places.{object_at}
use Rattle.dual_json.specs.Shape.{views}
use Rattle.dual_json.proofs.columns.flags_of.Given as goal

abbrev pub invariant-loop-node : goal.invariant-loop-node
invariant-loop-node l = l.flags ≡ map_below l.node (λ i. unwrap_or (flag_in l.key (object_at (views l.nodes) i)) 0)
