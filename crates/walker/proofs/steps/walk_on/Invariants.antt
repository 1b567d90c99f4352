use Rattle.std.proofs.Common.{◌≡◌, ◌+◌, ◌≤◌}
use Rattle.walker.proofs.Stepping.{GoesOn}
use Rattle.walker.proofs.steps.walk_on.Given as goal

abbrev pub invariant-loop-place : goal.invariant-loop-place
invariant-loop-place g l = record {
  made : l.state.job ≡ l.job;
  few : l.moved ≤ l.place;
  drawn : l.draws ≡ record l.initial.draws { place = l.initial.draws.place + l.place };
  walked : GoesOn l.job l.initial.state l.initial.draws l.place l.state l.draws l.moved;
}
