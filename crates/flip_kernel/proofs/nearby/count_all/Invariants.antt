use Rattle.std.proofs.Common.{◌*◌, ◌≤◌, length}
use Rattle.flip_kernel.proofs.NearPairs.{IsCounting}
use Rattle.flip_kernel.proofs.nearby.count_all.Given as goal

abbrev pub invariant-loop-unit : goal.invariant-loop-unit
invariant-loop-unit l = record {
  width : l.graph.units * l.districts ≤ length l.table;
  counting : IsCounting l.graph l.plan l.districts l.unit l.table;
}
