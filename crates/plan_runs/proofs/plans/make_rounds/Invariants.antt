use Rattle.std.proofs.Common.{◌≡◌, ◌++◌, All, length, map}
use Rattle.std.specs.Vec.Iter.{into_iter_items, into_iter_len}
use Rattle.plan_runs.specs.Plans.{IsRound, IsWalkOf, round_pairs, walk_pair}
use Rattle.plan_runs.proofs.plans.make_rounds.Given as goal

abbrev pub invariant-loop-walk : goal.invariant-loop-walk
invariant-loop-walk g l = record {
  rounds : All (IsRound) l.rounds.items;
  round : IsRound l.round;
  each : All (IsWalkOf) (into_iter_items l.walk-iterator);
  pairs : map walk_pair l.fn.walks.items ≡ (round_pairs l.rounds.items ++ map walk_pair l.round.items) ++ map walk_pair (into_iter_items l.walk-iterator);
  counted : into_iter_len l.walk-iterator ≡ length (into_iter_items l.walk-iterator);
}
