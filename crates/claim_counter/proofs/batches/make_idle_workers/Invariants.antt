use Rattle.std.proofs.Common.{◌≡◌, ◌+◌, ◌≤◌, All, vec_capacity, vec_len}
use Rattle.claim_counter.specs.Batches.{IsIdleWorker}
use Rattle.claim_counter.specs.Walkers.{AreWalkers}
use Rattle.claim_counter.proofs.batches.make_idle_workers.Given as goal

abbrev pub invariant-loop-walker : goal.invariant-loop-walker
invariant-loop-walker g l = record {
  walkers : AreWalkers l.job l.walkers.items;
  idle_workers : All (IsIdleWorker l.job) l.idle_workers.items;
  count : vec_len l.idle_workers + vec_len l.walkers ≡ vec_len l.fn.walkers;
  room : vec_len l.fn.walkers ≤ vec_capacity l.idle_workers;
}

abbrev pub decreases-loop-walker : goal.decreases-loop-walker
decreases-loop-walker g l = vec_len l.walkers
