use Rattle.std.proofs.Common.{arith}
use Rattle.contig.proofs.LongFaces.{cycle_from_places}
use Rattle.contig.proofs.long.is_cycle.Goals as goal

pub returns : goal.returns
returns c h =
    let sound = c.are_units.ensures.sound in
    cycle_from_places c.args.graph.now c.args.ring.now (omega (arith, c.if-ring-lt3.false)) (c.are_distinct.ensures c.if-not-are_distinct.false) (c.are_units.ensures.below c.if-not-are_units.false)
    (c.goes_round.ensures h) sound.symmetric
