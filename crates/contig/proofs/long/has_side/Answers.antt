use Rattle.std.proofs.Common.{arith}
use Rattle.contig.proofs.LongLists.{no_side}
use Rattle.contig.proofs.long.has_side.Goals as goal

pub returns : goal.returns
returns c _ = no_side c.args.ring.now c.args.x c.args.y (λ i l. c.loop-place.invariant i (omega (arith, l, c.loop-place-test.false)))
