use Rattle.std.proofs.Common.{◌≡◌, ◌+◌, All, vec_capacity, vec_len}
use Rattle.claim_counter.specs.Records.{fresh}
use Rattle.claim_counter.specs.Passes.{own, BelongsTo}
use Rattle.claim_counter.specs.Batches.{IsIdleWorker, IsStarted}
use Rattle.claim_counter.proofs.batches.start_workers.Given as goal

abbrev pub invariant-loop-idle_worker : goal.invariant-loop-idle_worker
invariant-loop-idle_worker g l = record {
  idle_workers : All (IsIdleWorker l.job) l.idle_workers.items;
  started : All (IsStarted l.job l.claims) l.workers.items;
  pass : BelongsTo l.claims l.pass;
  fresh : own l.pass ≡ fresh (vec_len l.idle_workers);
  count : vec_len l.workers + vec_len l.idle_workers + 1 ≡ vec_len l.fn.idle_workers;
  hands_room : vec_capacity l.idle_workers ≡ vec_capacity l.fn.idle_workers;
  room : vec_capacity l.workers ≡ vec_capacity l.fn.workers;
}

abbrev pub decreases-loop-idle_worker : goal.decreases-loop-idle_worker
decreases-loop-idle_worker g l = vec_len l.idle_workers
