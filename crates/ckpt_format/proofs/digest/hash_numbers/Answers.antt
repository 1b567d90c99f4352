use Rattle.std.specs.Int.{w32, to_be_bytes}
use Rattle.ckpt_format.proofs.Hashing.{hashes_more, hashes_none}
use Rattle.ckpt_format.proofs.digest.hash_numbers.Goals as goal

pub loop-number-init : goal.loop-number-init
loop-number-init c = hashes_none _

pub loop-number-preserved : goal.loop-number-preserved
loop-number-preserved c =
    hashes_more (to_be_bytes w32) c.args.numbers.now c.loop-number.number-index _ _ _ _ c.loop-number-test.true c.loop-number.invariant c.hash_u32.ensures
