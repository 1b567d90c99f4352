use Rattle.std.specs.List.{flat_map}
use Rattle.audit_model.specs.Below.{map_below}
use Rattle.ckpt_format.specs.Hashed.{Hashes, edges_from}
use Rattle.ckpt_format.proofs.digest.hash_edges.Given as goal

abbrev pub invariant-loop-unit : goal.invariant-loop-unit
invariant-loop-unit l = Hashes l.fn.hasher l.hasher (flat_map (edges_from l.graph) (map_below l.unit (λ u. u)))
