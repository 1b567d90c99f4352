use Rattle.std.proofs.Common.{◌≡◌, length}
use Rattle.contig.specs.Order.{AreUnfaced}
use Rattle.contig.proofs.order.sort_round.Given as goal

abbrev pub invariant-loop-place : goal.invariant-loop-place
invariant-loop-place l = record {
  unfaced : AreUnfaced l.graph l.row l.sectors.items;
  width : length l.sectors.items ≡ length l.initial.sectors.items;
}
