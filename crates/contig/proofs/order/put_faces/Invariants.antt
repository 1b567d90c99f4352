use Rattle.std.proofs.Common.{◌≡◌, ℕ, length, map, take}
use Rattle.std.specs.Prelude.{All}
use Rattle.contig.specs.Corners.{units_of}
use Rattle.contig.specs.Order.{HasSeats, IsOnGraph, near_at}
use Rattle.contig.proofs.order.put_faces.Given as goal

abbrev pub invariant-loop-corner : goal.invariant-loop-corner
invariant-loop-corner l = record {
  near : (i : ℕ) → near_at l.sectors.items i ≡ near_at l.initial.sectors.items i;
  width : length l.sectors.items ≡ length l.initial.sectors.items;
  within : All (IsOnGraph l.graph) l.sectors.items;
  seats : HasSeats (map (units_of l.row) (take l.corner-index l.corners)) l.sectors.items;
}
