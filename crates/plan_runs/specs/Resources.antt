-- The resources of a run that saves nothing.
use Rattle.std.specs.Prelude.{◌≡◌, ℕ, ◌+◌, ◌≤◌, length, Vec, vec_len}
use Rattle.flip_guard.specs.Judging.{Judging}
use Rattle.audit_model.specs.Job.{Job}
use Rattle.claim_counter.specs.declared.pool.WorkerPool.{WorkerPool}
use Rattle.claim_counter.specs.Pools.{IsPool}
use Rattle.sequential_test.specs.Pools.{IsStoppingPool}
use Rattle.sequential_test.specs.declared.pool.StoppingPool.{StoppingPool}
use Rattle.walker.specs.Judges.{AreJudges}
use Rattle.plan_runs.specs.declared.resources.Resources.{Resources}
use Rattle.plan_runs.specs.declared.resources.Workers.{Workers}
use Rattle.plan_runs.specs.declared.resources.Workers.TheVariants as workers
use Rattle.plan_runs.specs.RunBuffers.{AreBuffersFor}
use Rattle.plan_runs.specs.Serially.{IsTester}

-- a constraint for each worker of the job, and one for its serial test
pub record IsJudgeSet {J A : Type 0} (by : J → Judging) (job : Job) (judges : Vec J A) : Type 0 where
  pub judges_are : AreJudges job by judges.items
  pub count_is : vec_len judges ≡ job.setting.workers + 1

module _ {J : Type 0} where
  -- the workers of a run of all trajectories, with `count` of them pending
  pub record AreWorkersForAll (job : Job) (count : ℕ) (c : WorkerPool J) : Type 0 where
    pub plain : job.setting.stop ≡ 0
    pub pool : IsPool job count job.setting.workers c

  -- the workers of a run whose tests stop early
  pub record AreWorkersForStops (job : Job) (c : StoppingPool J) : Type 0 where
    pub early : 1 ≤ job.setting.stop
    pub pool : IsStoppingPool job job.setting.workers c

  -- the workers that the job requires, with `count` trajectories pending
  abbrev pub AreWorkersFor : Job → ℕ → Workers J → Type 0
  AreWorkersFor job count (workers.All c) = AreWorkersForAll job count c
  AreWorkersFor job count (workers.Early c) = AreWorkersForStops job c

  -- all resources of a run of the job
  pub record IsResourcesFor (job : Job) (m : Resources J) : Type 0 where
    pub buffers : AreBuffersFor job m.buffers
    pub workers : AreWorkersFor job (length m.buffers.todo) m.workers
    pub tester : IsTester job m.tester
