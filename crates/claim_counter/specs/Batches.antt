-- Predicates on the workers of a run in batches.
use Rattle.std.specs.Prelude.{◌≡◌, ℕ, ◌+◌, ◌-◌, ◌<◌, ◌≤◌, List, [], length, replicate, vec_capacity, vec_len, Vec}
use Rattle.std.specs.List.{All}
use Rattle.audit_model.specs.Job.{Job}
use Rattle.audit_model.specs.Run.{total}
use Rattle.claim_counter.specs.declared.claims.Claims.{Claims}
use Rattle.claim_counter.specs.Records.{fresh}
use Rattle.claim_counter.specs.Passes.{own, size_of, BelongsTo}
use Rattle.claim_counter.specs.Workers.{IsWorkerDone, IsUnstarted}
use Rattle.claim_counter.specs.declared.batches.IdleWorker.{IdleWorker}
use Rattle.claim_counter.specs.declared.batches.BatchCounter.{BatchCounter}
use Rattle.claim_counter.specs.declared.batches.BatchWorkers.{BatchWorkers}
use Rattle.claim_counter.specs.declared.worker.Worker.{Worker}
use Rattle.audit_model.specs.Room.{RoomyOutcomes}

-- a counter of `count` places, none drawn, and a pass that can be split for `workers` workers
pub record IsFreshBatch (count workers : ℕ) (p : BatchCounter) : Type 0 where
  pub limit : (size_of p.claims).limit ≡ count
  pub seats : (size_of p.claims).seats ≡ workers
  pub pass : BelongsTo p.claims p.pass
  pub fresh : own p.pass ≡ fresh (workers - 1)

-- a worker of a job that can rest after a batch: its list has capacity for the outcomes of all trajectories
pub record CanBeIdle (job of : Job) (share : RoomyOutcomes) : Type 0 where
  pub made : of ≡ job
  pub share_room : total job ≤ length share.items + share.spare

module _ {J : Type 0} where
  -- a worker between two batches: its list is empty and has capacity for all outcomes
  pub record IsIdleWorker (job : Job) (h : IdleWorker J) : Type 0 where
    pub made : h.walker.job ≡ job
    pub empty : h.share.items ≡ []
    pub room : total job ≤ h.share.spare

  -- a worker before a batch
  pub record IsStarted (job : Job) (c : Claims) (w : Worker J) : Type 0 where
    pub unstarted : IsUnstarted job c w
    pub room : total job ≤ w.share.spare

  -- a worker after a batch
  pub record IsBack (job : Job) (todo : List ℕ) (c : Claims) (w : Worker J) : Type 0 where
    pub done : IsWorkerDone job todo c w
    pub made : w.walker.job ≡ job
    pub room : total job ≤ length w.share.items + w.share.spare

  -- the list of idle workers has capacity for one more
  pub record HasPlace {A : Type 0} (job : Job) (idle_workers : Vec (IdleWorker J) A) : Type 0 where
    pub hands_are : All (IsIdleWorker job) idle_workers.items
    pub room : vec_len idle_workers < vec_capacity idle_workers

  -- all workers rest, and there is capacity to give each a pass
  pub record AreIdle {A B : Type 0} (job : Job) (idle_workers : Vec (IdleWorker J) A) (workers : Vec (Worker J) B) : Type 0 where
    pub some : 0 < vec_len idle_workers
    pub hands_are : All (IsIdleWorker job) idle_workers.items
    pub none : vec_len workers ≡ 0
    pub room : vec_len idle_workers ≤ vec_capacity workers

  -- all workers are back from a batch, and there is capacity for all to rest
  pub record AreBack {A B : Type 0} (job : Job) (todo : List ℕ) (c : Claims) (workers : Vec (Worker J) A) (idle_workers : Vec (IdleWorker J) B) : Type 0 where
    pub workers_are : All (IsBack job todo c) workers.items
    pub some : 0 < vec_len workers
    pub none : vec_len idle_workers ≡ 0
    pub room : vec_len workers ≤ vec_capacity idle_workers

  -- `seats` idle workers, and capacity to give each a pass
  pub record IsBatchWorkers (job : Job) (seats : ℕ) (t : BatchWorkers J) : Type 0 where
    pub idle_workers : All (IsIdleWorker job) t.idle_workers.items
    pub count : vec_len t.idle_workers ≡ seats
    pub some : 1 ≤ seats
    pub none : vec_len t.workers ≡ 0
    pub hands_room : seats ≤ vec_capacity t.idle_workers
    pub room : seats ≤ vec_capacity t.workers
    pub hub : length t.hub ≡ job.graph.units

  -- the hub is not computed yet
  abbrev pub HasNoHub : Job → BatchWorkers J → Type 0
  HasNoHub job t = t.hub ≡ replicate job.graph.units 0
