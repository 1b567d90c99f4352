use Rattle.std.proofs.Common.{take}
use Rattle.std.specs.Int.{w32, to_be_bytes}
use Rattle.std.specs.List.{flat_map}
use Rattle.ckpt_format.specs.Hashed.{Hashes}
use Rattle.ckpt_format.proofs.digest.hash_numbers.Given as goal

abbrev pub invariant-loop-number : goal.invariant-loop-number
invariant-loop-number l = Hashes l.fn.hasher l.hasher (flat_map (to_be_bytes w32) (take l.number-index l.numbers))
