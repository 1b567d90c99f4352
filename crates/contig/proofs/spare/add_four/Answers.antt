use Rattle.contig.specs.declared.face.Face.TheVariants.{Triangle}
use Rattle.contig.proofs.Turning.{ring_fits}
use Rattle.contig.proofs.spare.add_four.Goals as goal

pub add_corner-requires : goal.add_corner-requires
add_corner-requires c =
    let ring = ring_fits c.args.graph.now (Triangle c.args.ring.0 c.args.ring.1 c.args.ring.2) c.requires.ring in
    let spare = ring_fits c.args.graph.now (Triangle c.args.ring.0 c.args.ring.1 c.args.fourth) c.requires.spare in
    record { units = (spare.0.units.0, spare.2.units.0, ring.2.units.0); near = spare.0.near; rows = c.requires.spares }

pub add_corner-requires-2 : goal.add_corner-requires-2
add_corner-requires-2 c =
    let ring = ring_fits c.args.graph.now (Triangle c.args.ring.0 c.args.ring.1 c.args.ring.2) c.requires.ring in
    let spare = ring_fits c.args.graph.now (Triangle c.args.ring.0 c.args.ring.1 c.args.fourth) c.requires.spare in
    record { units = (spare.1.units.0, spare.0.units.0, ring.2.units.0); near = spare.1.near; rows = c.add_corner.ensures.width }

pub add_corner-requires-3 : goal.add_corner-requires-3
add_corner-requires-3 c =
    let ring = ring_fits c.args.graph.now (Triangle c.args.ring.0 c.args.ring.1 c.args.ring.2) c.requires.ring in
    let spare = ring_fits c.args.graph.now (Triangle c.args.ring.0 c.args.ring.1 c.args.fourth) c.requires.spare in
    record { units = (spare.2.units.0, spare.1.units.0, ring.2.units.0); near = spare.2.near; rows = c.add_corner-2.ensures.width }

pub add_corner-requires-4 : goal.add_corner-requires-4
add_corner-requires-4 c =
    let ring = ring_fits c.args.graph.now (Triangle c.args.ring.0 c.args.ring.1 c.args.ring.2) c.requires.ring in
    let spare = ring_fits c.args.graph.now (Triangle c.args.ring.0 c.args.ring.1 c.args.fourth) c.requires.spare in
    record { units = (ring.2.units.0, spare.2.units.0, ring.2.units.0); near = ring.2.near; rows = c.add_corner-3.ensures.width }

pub returns-clause-added : goal.returns-clause-added
returns-clause-added c corners h =
    c.in_ok-add_corner-4.ensures.added _ (c.in_ok-add_corner-3.ensures.added _ (c.in_ok-add_corner-2.ensures.added _ (c.in_ok-add_corner.ensures.added corners h)))
