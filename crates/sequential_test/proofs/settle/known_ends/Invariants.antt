use Rattle.std.proofs.Common.{◌≡◌, ◌≢◌, ◌+◌, ◌-◌, ◌<◌, ◌≤◌}
use Rattle.sequential_test.specs.Ranks.{ends_below}
use Rattle.sequential_test.proofs.settle.known_ends.Given as goal

abbrev pub invariant-loop-short : goal.invariant-loop-short
invariant-loop-short l = record {
  below : l.known < l.short;
  within : l.short ≤ l.ends + 1;
  known : ends_below l.walks l.posted l.known ≡ l.known;
  short : l.short ≤ l.ends → ends_below l.walks l.posted l.short ≢ l.short;
}

abbrev pub decreases-loop-short : goal.decreases-loop-short
decreases-loop-short l = l.short - l.known
