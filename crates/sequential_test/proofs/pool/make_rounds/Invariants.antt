use Rattle.std.proofs.Common.{◌≡◌, ◌-◌, vec_len}
use Rattle.sequential_test.specs.Pools.{AreRounds}
use Rattle.sequential_test.specs.Rounds.{ends_after}
use Rattle.sequential_test.proofs.pool.make_rounds.Given as goal

abbrev pub invariant-loop-walked : goal.invariant-loop-walked
invariant-loop-walked l = record {
  rounds : AreRounds l.ends l.seats 0 l.rounds.items;
  walked : l.walked ≡ ends_after l.ends (vec_len l.rounds);
}

abbrev pub decreases-loop-walked : goal.decreases-loop-walked
decreases-loop-walked l = l.ends - l.walked
