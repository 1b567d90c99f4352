use Rattle.std.proofs.Common.{◌*◌, ◌≤◌, length}
use Rattle.flip_kernel.proofs.Tables.{IsFilling}
use Rattle.flip_kernel.proofs.open_pairs.OpenPairs.refill_bits.Given as goal

abbrev pub invariant-loop-unit : goal.invariant-loop-unit
invariant-loop-unit l = record {
  width : l.graph.units * l.districts ≤ length l.self;
  filling : IsFilling l.graph l.plan l.districts l.unit l.self;
}
