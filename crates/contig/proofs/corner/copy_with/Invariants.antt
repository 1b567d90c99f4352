use Rattle.std.proofs.Common.{◌≡◌, ◌≤◌, ◌++◌}
use Rattle.std.specs.Prelude.{slice_range}
use Rattle.contig.proofs.corner.copy_with.Given as goal

abbrev pub invariant-loop-place : goal.invariant-loop-place
invariant-loop-place l = record {
  from : l.fn.span.begin ≤ l.place;
  upto : l.place ≤ l.fn.span.end;
  copied : l.corners.items ≡ l.initial.corners.items ++ slice_range l.initial.corners.items l.fn.span.begin l.place;
}
