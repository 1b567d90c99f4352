use Rattle.std.proofs.Common.{◌≡◌, ◌≤◌}
use Rattle.case_runner.proofs.flips.walk.Given as goal

abbrev pub invariant-loop : goal.invariant-loop
invariant-loop g l = record {
  made : l.state.job ≡ l.job;
  place : l.draws.place ≡ l.counter;
  moved : l.moved ≤ l.counter;
  searched : l.searched ≤ l.counter;
}
