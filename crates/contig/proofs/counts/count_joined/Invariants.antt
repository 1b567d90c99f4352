use Rattle.std.proofs.Common.{◌≡◌, ◌≤◌, length, get_or}
use Rattle.audit_model.specs.Below.{count_below}
use Rattle.audit_model.specs.District.{in_district}
use Rattle.contig.specs.Order.{before, is_joined, near_at}
use Rattle.contig.proofs.counts.count_joined.Given as goal

abbrev pub invariant-loop-sector : goal.invariant-loop-sector
invariant-loop-sector l = record {
  before : l.before ≡ get_or l.plan (near_at l.sectors (before (length l.sectors) l.sector-index)) 0;
  one : l.in_one ≡ count_below l.sector-index (is_joined (in_district l.plan l.one) l.sectors);
  other : l.in_other ≡ count_below l.sector-index (is_joined (in_district l.plan l.other) l.sectors);
  few_one : l.in_one ≤ l.sector-index;
  few_other : l.in_other ≤ l.sector-index;
}
