use Rattle.contig.specs.Listed.{is_marked, side}
use Rattle.contig.specs.declared.face.Face.TheVariants.{Pentagon}
use Rattle.contig.proofs.Listing.{pentagon_sides}
use Rattle.contig.proofs.Turning.{ring_fits}
use Rattle.contig.proofs.list.mark_pentagon.Goals as goal

pub mark-requires-clause-units : goal.mark-requires-clause-units
mark-requires-clause-units c = let fits = ring_fits c.args.graph.now (Pentagon c.args.ring.0 c.args.ring.1 c.args.ring.2 c.args.ring.3 c.args.ring.4) c.requires.ring in (fits.0.units.0, fits.1.units.0)

pub mark-requires-clause-near : goal.mark-requires-clause-near
mark-requires-clause-near c = (ring_fits c.args.graph.now (Pentagon c.args.ring.0 c.args.ring.1 c.args.ring.2 c.args.ring.3 c.args.ring.4) c.requires.ring).0.near.0

pub mark-requires-2-clause-units : goal.mark-requires-2-clause-units
mark-requires-2-clause-units c = let fits = ring_fits c.args.graph.now (Pentagon c.args.ring.0 c.args.ring.1 c.args.ring.2 c.args.ring.3 c.args.ring.4) c.requires.ring in (fits.1.units.0, fits.2.units.0)

pub mark-requires-2-clause-near : goal.mark-requires-2-clause-near
mark-requires-2-clause-near c = (ring_fits c.args.graph.now (Pentagon c.args.ring.0 c.args.ring.1 c.args.ring.2 c.args.ring.3 c.args.ring.4) c.requires.ring).1.near.0

pub mark-requires-3-clause-units : goal.mark-requires-3-clause-units
mark-requires-3-clause-units c = let fits = ring_fits c.args.graph.now (Pentagon c.args.ring.0 c.args.ring.1 c.args.ring.2 c.args.ring.3 c.args.ring.4) c.requires.ring in (fits.2.units.0, fits.3.units.0)

pub mark-requires-3-clause-near : goal.mark-requires-3-clause-near
mark-requires-3-clause-near c = (ring_fits c.args.graph.now (Pentagon c.args.ring.0 c.args.ring.1 c.args.ring.2 c.args.ring.3 c.args.ring.4) c.requires.ring).2.near.0

pub mark-requires-4-clause-units : goal.mark-requires-4-clause-units
mark-requires-4-clause-units c = let fits = ring_fits c.args.graph.now (Pentagon c.args.ring.0 c.args.ring.1 c.args.ring.2 c.args.ring.3 c.args.ring.4) c.requires.ring in (fits.3.units.0, fits.4.units.0)

pub mark-requires-4-clause-near : goal.mark-requires-4-clause-near
mark-requires-4-clause-near c = (ring_fits c.args.graph.now (Pentagon c.args.ring.0 c.args.ring.1 c.args.ring.2 c.args.ring.3 c.args.ring.4) c.requires.ring).3.near.0

pub mark-requires-5-clause-units : goal.mark-requires-5-clause-units
mark-requires-5-clause-units c = let fits = ring_fits c.args.graph.now (Pentagon c.args.ring.0 c.args.ring.1 c.args.ring.2 c.args.ring.3 c.args.ring.4) c.requires.ring in (fits.4.units.0, fits.0.units.0)

pub mark-requires-5-clause-near : goal.mark-requires-5-clause-near
mark-requires-5-clause-near c = (ring_fits c.args.graph.now (Pentagon c.args.ring.0 c.args.ring.1 c.args.ring.2 c.args.ring.3 c.args.ring.4) c.requires.ring).4.near.0

pub returns-clause-there : goal.returns-clause-there
returns-clause-there c x y h =
    pentagon_sides (is_marked c.args.graph.now c.mark-5.new.marks.items) c.args.ring.0 c.args.ring.1 c.args.ring.2 c.args.ring.3 c.args.ring.4
    (c.mark-5.ensures.kept (side c.args.ring.0 c.args.ring.1) (c.mark-4.ensures.kept (side c.args.ring.0 c.args.ring.1) (c.mark-3.ensures.kept (side c.args.ring.0 c.args.ring.1) (c.mark-2.ensures.kept (side c.args.ring.0 c.args.ring.1) c.mark.ensures.there))))
    (c.mark-5.ensures.kept (side c.args.ring.1 c.args.ring.2) (c.mark-4.ensures.kept (side c.args.ring.1 c.args.ring.2) (c.mark-3.ensures.kept (side c.args.ring.1 c.args.ring.2) c.mark-2.ensures.there)))
    (c.mark-5.ensures.kept (side c.args.ring.2 c.args.ring.3) (c.mark-4.ensures.kept (side c.args.ring.2 c.args.ring.3) c.mark-3.ensures.there))
    (c.mark-5.ensures.kept (side c.args.ring.3 c.args.ring.4) c.mark-4.ensures.there) c.mark-5.ensures.there x y h
