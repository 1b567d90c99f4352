use Rattle.std.proofs.Common.{◌≡◌, vec_len}
use Rattle.plan_runs.specs.Guards.{AreGuards}
use Rattle.plan_runs.proofs.judges.guards.Given as goal

abbrev pub invariant-loop : goal.invariant-loop
invariant-loop g l = record {
  each : AreGuards l.test l.rules l.judges.items;
  count : vec_len l.judges ≡ l.counter;
}
