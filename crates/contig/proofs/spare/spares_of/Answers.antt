use Rattle.contig.proofs.Adding.{no_corners}
use Rattle.contig.proofs.spare.spares_of.Goals as goal

pub returns-then-not-have_spare : goal.returns-then-not-have_spare
returns-then-not-have_spare c = no_corners c.args.graph.now _ c.none.result c.none.ensures (c.have_spare.ensures c.if-not-have_spare.true)

pub returns : goal.returns
returns c = record { placed = c.in_ok-spares.ensures.placed; seen = c.in_ok-spares.ensures.seen }
