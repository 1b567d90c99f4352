use Rattle.std.proofs.Common.{◌≡◌, ◌+◌, ◌≤◌, vec_capacity, vec_len}
use Rattle.claim_counter.specs.Walkers.{AreWalkers}
use Rattle.walker.specs.Judges.{AreJudges}
use Rattle.claim_counter.proofs.workers.walkers.make_walkers.Given as goal

abbrev pub invariant-loop-judge : goal.invariant-loop-judge
invariant-loop-judge g l = record {
  judges : AreJudges l.job g.J.Judge.judging l.judges.items;
  made : AreWalkers l.job l.walkers.items;
  count : vec_len l.walkers + vec_len l.judges ≡ vec_len l.fn.judges;
  room : vec_len l.fn.judges ≤ vec_capacity l.walkers;
}

abbrev pub decreases-loop-judge : goal.decreases-loop-judge
decreases-loop-judge g l = vec_len l.judges
