use Rattle.std.proofs.Common.{ℕ, subst}
use Rattle.claim_counter.specs.Batches.{IsFreshBatch}
use Rattle.claim_counter.proofs.pool.make_pool.Goals as goal

pub returns-clause-pool : goal.returns-clause-pool
returns-clause-pool g c = record {
  batch = subst (λ (n : ℕ). IsFreshBatch c.args.count n c.in_ok-batch.batch) c.len.ensures c.in_ok-batch.ensures;
  batch_workers = c.in_ok-batch_workers.ensures.batch_workers;
}
