use Rattle.contig.specs.declared.face.Face.TheVariants.{Pentagon}
use Rattle.contig.proofs.Turning.{ring_fits}
use Rattle.contig.proofs.rows.add_pentagon.Goals as goal

pub add_corner-requires : goal.add_corner-requires
add_corner-requires c =
    let fits = ring_fits c.args.graph.now (Pentagon c.args.ring.0 c.args.ring.1 c.args.ring.2 c.args.ring.3 c.args.ring.4) c.requires.ring in
    record { units = fits.0.units; near = fits.0.near; rows = c.requires.rows }

pub add_corner-requires-2 : goal.add_corner-requires-2
add_corner-requires-2 c =
    let fits = ring_fits c.args.graph.now (Pentagon c.args.ring.0 c.args.ring.1 c.args.ring.2 c.args.ring.3 c.args.ring.4) c.requires.ring in
    record { units = fits.1.units; near = fits.1.near; rows = c.add_corner.ensures.width }

pub add_corner-requires-3 : goal.add_corner-requires-3
add_corner-requires-3 c =
    let fits = ring_fits c.args.graph.now (Pentagon c.args.ring.0 c.args.ring.1 c.args.ring.2 c.args.ring.3 c.args.ring.4) c.requires.ring in
    record { units = fits.2.units; near = fits.2.near; rows = c.add_corner-2.ensures.width }

pub add_corner-requires-4 : goal.add_corner-requires-4
add_corner-requires-4 c =
    let fits = ring_fits c.args.graph.now (Pentagon c.args.ring.0 c.args.ring.1 c.args.ring.2 c.args.ring.3 c.args.ring.4) c.requires.ring in
    record { units = fits.3.units; near = fits.3.near; rows = c.add_corner-3.ensures.width }

pub add_corner-requires-5 : goal.add_corner-requires-5
add_corner-requires-5 c =
    let fits = ring_fits c.args.graph.now (Pentagon c.args.ring.0 c.args.ring.1 c.args.ring.2 c.args.ring.3 c.args.ring.4) c.requires.ring in
    record { units = fits.4.units; near = fits.4.near; rows = c.add_corner-4.ensures.width }

pub returns-clause-added : goal.returns-clause-added
returns-clause-added c corners h = c.in_ok-add_corner-5.ensures.added _ (c.in_ok-add_corner-4.ensures.added _ (c.in_ok-add_corner-3.ensures.added _ (c.in_ok-add_corner-2.ensures.added _ (c.in_ok-add_corner.ensures.added corners h))))
