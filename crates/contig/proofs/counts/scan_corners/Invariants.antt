use Rattle.std.proofs.Common.{◌≡◌, ◌≤◌, take}
use Rattle.std.specs.Prelude.{count_by, []}
use Rattle.std.specs.List.{slice_index_or}
use Rattle.audit_model.specs.District.{in_district}
use Rattle.contig.specs.Corners.{is_filled, units_of}
use Rattle.contig.proofs.counts.scan_corners.Given as goal

abbrev pub invariant-loop-corner : goal.invariant-loop-corner
invariant-loop-corner l = record {
  one : l.in_one ≡ count_by (λ c. is_filled (in_district l.member.plan.now l.one) (units_of (slice_index_or l.member.graph.now.neighbours l.member.unit []) c)) (take l.corner-index l.corner-items);
  other : l.in_other ≡ count_by (λ c. is_filled (in_district l.member.plan.now l.other) (units_of (slice_index_or l.member.graph.now.neighbours l.member.unit []) c)) (take l.corner-index l.corner-items);
  few_one : l.in_one ≤ l.corner-index;
  few_other : l.in_other ≤ l.corner-index;
}
