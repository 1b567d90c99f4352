use Rattle.std.proofs.Common.{take}
use Rattle.std.specs.List.{flat_map}
use Rattle.ckpt_format.specs.Hashed.{Hashes, ask_bytes}
use Rattle.ckpt_format.proofs.digest.hash_asks.Given as goal

abbrev pub invariant-loop-ask : goal.invariant-loop-ask
invariant-loop-ask l = Hashes l.fn.hasher l.hasher (flat_map ask_bytes (take l.ask-index l.asks))
