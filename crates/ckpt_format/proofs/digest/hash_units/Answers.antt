use Rattle.audit_statement.specs.Checkpoint.{unit_bytes}
use Rattle.ckpt_format.proofs.Hashing.{hashes_next, hashes_none}
use Rattle.ckpt_format.proofs.digest.hash_units.Goals as goal

pub loop-unit-init : goal.loop-unit-init
loop-unit-init c = hashes_none _

pub loop-unit-preserved : goal.loop-unit-preserved
loop-unit-preserved c = hashes_next (unit_bytes c.args.job.now) c.loop-unit.unit _ _ _ c.loop-unit.invariant c.hash_unit.ensures
