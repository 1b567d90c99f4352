use Rattle.std.proofs.Common.{◌≡◌, ◌+◌, ◌++◌, All, map, vec_capacity, vec_len, true}
use Rattle.outcome_book.specs.Booked.{IsBook}
use Rattle.claim_counter.specs.Records.{AreDifferentBelow}
use Rattle.claim_counter.specs.Passes.{own, size_of, BelongsTo}
use Rattle.claim_counter.specs.Batches.{IsBack, IsIdleWorker}
use Rattle.claim_counter.specs.Walks.{found_at}
use Rattle.claim_counter.proofs.batches.take_all.Given as goal

abbrev pub invariant-loop-worker : goal.invariant-loop-worker
invariant-loop-worker g l = record {
  workers : All (IsBack l.job l.todo l.claims) l.workers.items;
  idle_workers : All (IsIdleWorker l.job) l.idle_workers.items;
  pass : BelongsTo l.claims l.pass;
  ended : (own l.pass).ended ≡ true;
  seats : (own l.pass).weight + (own l.pass).spare + vec_len l.workers ≡ vec_len l.fn.workers;
  different : AreDifferentBelow (size_of l.claims).limit (own l.pass).claims;
  total : l.book.total ≡ l.fn.book.total;
  outcomes : l.book.outcomes ≡ l.fn.book.outcomes ++ map (found_at l.job l.todo) (own l.pass).claims;
  sound : IsBook l.book;
  count : vec_len l.idle_workers + vec_len l.workers ≡ vec_len l.fn.workers;
  room : vec_capacity l.idle_workers ≡ vec_capacity l.fn.idle_workers;
  workers_room : vec_capacity l.workers ≡ vec_capacity l.fn.workers;
}

abbrev pub decreases-loop-worker : goal.decreases-loop-worker
decreases-loop-worker g l = vec_len l.workers
