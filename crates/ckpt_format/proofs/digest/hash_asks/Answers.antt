use Rattle.ckpt_format.specs.Hashed.{ask_bytes}
use Rattle.ckpt_format.proofs.Hashing.{hashes_more, hashes_none}
use Rattle.ckpt_format.proofs.digest.hash_asks.Goals as goal

pub loop-ask-init : goal.loop-ask-init
loop-ask-init c = hashes_none _

pub loop-ask-preserved : goal.loop-ask-preserved
loop-ask-preserved c = hashes_more ask_bytes c.args.asks.now c.loop-ask.ask-index _ _ _ _ c.loop-ask-test.true c.loop-ask.invariant c.hash_ask.ensures
