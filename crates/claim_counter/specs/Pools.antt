-- Predicates on all workers of a run.
use Rattle.std.specs.Prelude.{ℕ}
use Rattle.audit_model.specs.Job.{Job}
use Rattle.claim_counter.specs.declared.pool.WorkerPool.{WorkerPool}
use Rattle.claim_counter.specs.Batches.{HasNoHub, IsFreshBatch, IsBatchWorkers}

-- `workers` workers, prepared to walk `count` trajectories of the job
pub record IsPool {J : Type 0} (job : Job) (count workers : ℕ) (c : WorkerPool J) : Type 0 where
  pub batch : IsFreshBatch count workers c.batch
  pub batch_workers : IsBatchWorkers job workers c.batch_workers

-- nothing is walked yet, and the hub is not computed
abbrev pub HasWalkedNothing : {J : Type 0} → Job → WorkerPool J → Type 0
HasWalkedNothing job c = HasNoHub job c.batch_workers
