use Rattle.std.proofs.Common.{◌≡◌, ◌≤◌, length}
use Rattle.audit_model.specs.Below.{count_below}
use Rattle.contig.specs.Order.{before, is_start, near_at}
use Rattle.contig.proofs.Merging.{home}
use Rattle.contig.proofs.links.are_linked_in_order.Given as goal

abbrev pub invariant-loop-sector : goal.invariant-loop-sector
invariant-loop-sector l = record {
  before : l.before ≡ home l.leaving.plan.now l.leaving.unit (near_at l.sectors (before (length l.sectors) l.sector-index));
  starts : l.starts ≡ count_below l.sector-index (is_start (home l.leaving.plan.now l.leaving.unit) l.sectors);
  few : l.starts ≤ l.sector-index;
}
