use Rattle.std.proofs.Common.{◌-◌, ◌<◌, ◌≤◌}
use Rattle.sequential_test.specs.Ranks.{tails_below}
use Rattle.sequential_test.proofs.settle.tail_place.Given as goal

abbrev pub invariant-loop-place : goal.invariant-loop-place
invariant-loop-place l = record {
  below : l.few < l.place;
  within : l.place ≤ l.known;
  few : tails_below l.test.walks l.test.place l.test.tail l.test.start l.posted l.few < l.enough;
  reached : l.enough ≤ tails_below l.test.walks l.test.place l.test.tail l.test.start l.posted l.place;
}

abbrev pub decreases-loop-place : goal.decreases-loop-place
decreases-loop-place l = l.place - l.few
