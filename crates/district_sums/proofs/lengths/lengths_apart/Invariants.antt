use Rattle.std.proofs.Common.{◌≡◌, ◌*◌, ◌≤◌, take}
use Rattle.district_sums.proofs.Measured.{apart_among}
use Rattle.district_sums.proofs.lengths.lengths_apart.Given as goal

abbrev pub invariant-loop-place : goal.invariant-loop-place
invariant-loop-place l = record {
  first : l.first ≡ apart_among l.fn.member.graph.now l.lengths l.plan l.unit l.bound l.one (take l.place l.row);
  second : l.second ≡ apart_among l.fn.member.graph.now l.lengths l.plan l.unit l.bound l.other (take l.place l.row);
  small_first : l.first ≤ 4294967295 * l.place;
  small_second : l.second ≤ 4294967295 * l.place;
}
