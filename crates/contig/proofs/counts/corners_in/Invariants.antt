use Rattle.std.proofs.Common.{◌≡◌, ◌≤◌, take}
use Rattle.std.specs.Prelude.{count_by}
use Rattle.contig.specs.Corners.{is_filled, units_of}
use Rattle.contig.specs.Counts.{is_before}
use Rattle.contig.proofs.counts.corners_in.Given as goal

abbrev pub invariant-loop-corner : goal.invariant-loop-corner
invariant-loop-corner l = record {
  counted : l.count ≡ count_by (λ c. is_filled (is_before l.plan l.end l.district) (units_of l.row c)) (take l.corner-index l.corner-items);
  few : l.count ≤ l.corner-index;
}
