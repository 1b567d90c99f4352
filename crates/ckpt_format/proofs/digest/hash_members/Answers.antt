use Rattle.audit_statement.specs.Checkpoint.{member_bytes}
use Rattle.ckpt_format.proofs.Hashing.{hashes_next, hashes_none, hashes_then}
use Rattle.ckpt_format.proofs.digest.hash_members.Goals as goal

pub loop-unit-init : goal.loop-unit-init
loop-unit-init c = hashes_none _

pub loop-unit-preserved : goal.loop-unit-preserved
loop-unit-preserved c =
    hashes_next (member_bytes c.args.group.now) c.loop-unit.unit _ _ _ c.loop-unit.invariant
    (hashes_then _ _ _ _ _ c.hash_number_at.ensures c.hash_number_at-in-loop-unit.ensures)
