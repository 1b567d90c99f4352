use Rattle.std.proofs.Common.{arith}
use Rattle.flip_kernel.proofs.Words.{length-flags_of}
use Rattle.flip_kernel.proofs.open_pairs.OpenPairs.new.Goals as goal

pub returns : goal.returns
returns c = omega (arith, length-flags_of c.in_ok-vec.field-0.items, c.in_ok-vec.ensures.len, c.place_of.ensures)
