use Rattle.std.proofs.Common.{◌≡◌, ◌≤◌, take}
use Rattle.std.specs.Prelude.{count_by}
use Rattle.audit_model.specs.District.{in_district}
use Rattle.district_sums.proofs.mates.scan_mates.Given as goal

abbrev pub invariant-loop-neighbor : goal.invariant-loop-neighbor
invariant-loop-neighbor l = record {
  one : l.in_one ≡ count_by (in_district l.plan l.one) (take l.neighbor-index l.neighbor-items);
  other : l.in_other ≡ count_by (in_district l.plan l.other) (take l.neighbor-index l.neighbor-items);
  few_one : l.in_one ≤ l.neighbor-index;
  few_other : l.in_other ≤ l.neighbor-index;
}
