use Rattle.std.proofs.Common.{◌≡◌, vec_len}
use Rattle.region_guard.specs.Guards.{AreRegionGuards}
use Rattle.region_guard.proofs.judges.region_guards.Given as goal

abbrev pub invariant-loop : goal.invariant-loop
invariant-loop g l = record {
  each : AreRegionGuards l.cut l.test l.rules l.districts l.judges.items;
  count : vec_len l.judges ≡ l.counter;
}
