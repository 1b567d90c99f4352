use Rattle.std.proofs.Common.{◌≡◌, ◌+◌, ◌-◌, ◌≤◌, length}
use Rattle.audit_model.specs.Trajectory.{visit}
use Rattle.audit_statement.specs.Draw.{draw}
use Rattle.walker.specs.Trail.{IsTrail}
use Rattle.walker.proofs.steps.visit_along.Given as goal

abbrev pub invariant-opens : goal.invariant-opens
invariant-opens g l = record {
  made : l.state.job ≡ l.job;
  few : l.place ≤ length l.ready;
  visited : l.state.plan ≡ visit l.job (draw l.draws.key l.draws.stream) l.job.start (l.draws.place + l.place);
  trail : IsTrail l.job (draw l.draws.key l.draws.stream) (l.draws.place + l.place) l.trail;
  asked : l.trail.bins.asked ≡ l.initial.trail.bins.asked;
}

abbrev pub decreases-opens : goal.decreases-opens
decreases-opens g l = length l.ready - l.place
