use Rattle.std.proofs.Common.{◌≡◌, ◌-◌, ◌≤◌}
use Rattle.walker.specs.Track.{IsOnTrack}
use Rattle.walker.proofs.steps.count_visits.Given as goal

abbrev pub invariant-turns : goal.invariant-turns
invariant-turns g l = record {
  made : l.state.job ≡ l.job;
  few : l.place ≤ l.course.steps;
  on : IsOnTrack l.job l.state.plan l.place l.track;
  same_key : l.track.draws.key ≡ l.job.setting.key;
  same_stream : l.track.draws.stream ≡ l.course.stream;
  asked : l.track.trail.bins.asked ≡ l.course.shift;
}

abbrev pub decreases-turns : goal.decreases-turns
decreases-turns g l = l.course.steps - l.place
