use Rattle.std.proofs.Common.{◌≡◌, ◌≤◌, length}
use Rattle.audit_model.specs.Below.{count_below}
use Rattle.audit_model.specs.District.{in_district}
use Rattle.contig.specs.Order.{before, is_joined, near_at}
use Rattle.contig.proofs.missing.count_joined_in.Given as goal

abbrev pub invariant-loop-sector : goal.invariant-loop-sector
invariant-loop-sector l = record {
  before : l.before ≡ in_district l.plan l.district (near_at l.sectors (before (length l.sectors) l.sector-index));
  counted : l.count ≡ count_below l.sector-index (is_joined (in_district l.plan l.district) l.sectors);
  few : l.count ≤ l.sector-index;
}
