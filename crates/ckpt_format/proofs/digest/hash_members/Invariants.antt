use Rattle.std.specs.List.{flat_map}
use Rattle.audit_model.specs.Below.{map_below}
use Rattle.audit_statement.specs.Checkpoint.{member_bytes}
use Rattle.ckpt_format.specs.Hashed.{Hashes}
use Rattle.ckpt_format.proofs.digest.hash_members.Given as goal

abbrev pub invariant-loop-unit : goal.invariant-loop-unit
invariant-loop-unit l = Hashes l.fn.hasher l.hasher (flat_map (member_bytes l.group) (map_below l.unit (λ u. u)))
