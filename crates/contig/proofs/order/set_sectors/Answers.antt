use Rattle.std.proofs.Common.{List, ℕ, map, refl, sym, ap, ◌∙◌, subst}
use Rattle.contig.specs.Corners.{units_of}
use Rattle.contig.specs.Order.{AreUnfaced, HasNear, HasSeats, blank_at}
use Rattle.contig.proofs.Seating.{blank_unfaced}
use Rattle.contig.proofs.order.set_sectors.Goals as goal

pub sort_round-requires-clause-unfaced : goal.sort_round-requires-clause-unfaced
sort_round-requires-clause-unfaced c =
    subst (λ (r : List ℕ). AreUnfaced c.args.graph.now r c.set_blank.new.sectors.items) (sym c.neighbours-row.ensures.list)
    (blank_unfaced c.args.graph.now c.args.unit c.neighbours-row.ensures.sound c.set_blank.new.sectors.items
    (c.in_ok-set_blank.ensures ∙ ap (map blank_at) c.neighbours-row.ensures.list))

pub returns-then-put_faces : goal.returns-then-put_faces
returns-then-put_faces c = record {
  within = c.put_faces.ensures.within;
  near = λ _. subst (λ (r : List ℕ). HasNear r c.put_faces.new.sectors.items) c.neighbours-row.ensures.list c.put_faces.ensures.near;
  seats = λ _. subst (λ (r : List ℕ). HasSeats (map (units_of r) c.args.corners.now) c.put_faces.new.sectors.items) c.neighbours-row.ensures.list (c.if-put_faces.ensures.seats refl);
}
