use Rattle.std.proofs.Common.{take}
use Rattle.std.specs.Prelude.{flat_map}
use Rattle.std.specs.Int.{w32, to_be_bytes}
use Rattle.ckpt_format.specs.Written.{AppendsBytes}
use Rattle.ckpt_format.proofs.encode.append_numbers.Given as goal

abbrev pub invariant-loop-number : goal.invariant-loop-number
invariant-loop-number l = AppendsBytes l.fn.piece l.piece (flat_map (to_be_bytes w32) (take l.number-index l.numbers))
