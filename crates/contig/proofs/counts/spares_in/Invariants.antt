use Rattle.std.proofs.Common.{◌≡◌, ◌≤◌, take}
use Rattle.std.specs.Prelude.{count_by, []}
use Rattle.std.specs.List.{slice_index_or}
use Rattle.contig.specs.Corners.{is_ending, is_starting, units_of}
use Rattle.contig.specs.Counts.{is_before}
use Rattle.contig.proofs.counts.spares_in.Given as goal

abbrev pub invariant-loop-corner : goal.invariant-loop-corner
invariant-loop-corner l = record {
  ends : l.ending ≡ count_by (λ c. is_ending (is_before l.member.plan.now l.end l.district) l.member.unit (units_of (slice_index_or l.member.graph.now.neighbours l.member.unit []) c)) (take l.corner-index l.corner-items);
  starts : l.starting ≡ count_by (λ c. is_starting (is_before l.member.plan.now l.end l.district) l.member.unit (units_of (slice_index_or l.member.graph.now.neighbours l.member.unit []) c)) (take l.corner-index l.corner-items);
  few_ends : l.ending ≤ l.corner-index;
  few_starts : l.starting ≤ l.corner-index;
}
