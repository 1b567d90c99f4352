use Rattle.std.proofs.Common.{◌≡◌, ℕ, ◌<◌, [], length, get_or}
use Rattle.contig.specs.Order.{HasOrder}
use Rattle.contig.proofs.order.all_sectors.Given as goal

abbrev pub invariant-loop-unit : goal.invariant-loop-unit
invariant-loop-unit l = record {
  width : length l.all ≡ l.unit;
  each : (u : ℕ) → u < l.unit → HasOrder l.graph u (get_or l.rows u []) (get_or l.all u []);
}
