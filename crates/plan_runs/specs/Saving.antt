-- The resources of a run that saves.
use Rattle.std.specs.Prelude.{◌≡◌, ◌+◌, ◌*◌, ◌≤◌, length}
use Rattle.audit_model.specs.Job.{Job}
use Rattle.audit_model.specs.Run.{total}
use Rattle.audit_start.specs.declared.resume_state.SaveTarget.{SaveTarget}
use Rattle.tally_desk.specs.Pools.{IsDeskPool}
use Rattle.tally_desk.specs.declared.state.RunState.{RunState}
use Rattle.plan_runs.specs.RunBuffers.{AreBuffersFor}
use Rattle.plan_runs.specs.Serially.{IsTester}
use Rattle.plan_runs.specs.declared.saving.SavedResources.{SavedResources}

-- the place of the next save, and the digest of the job
abbrev pub target_of : {C : Type 0} → RunState C → SaveTarget
target_of s = record { digest = s.digest; place = s.place }

-- the initial state, the job's save interval, workers over a desk, a buffer for the checkpoint of all outcomes, and the
-- walker of the serial test
pub record IsSavedResourcesFor {J C : Type 0} (job : Job) (m : SavedResources J C) : Type 0 where
  pub buffers : AreBuffersFor job (record { book = m.state.book; todo = m.todo; sorted = m.state.sorted; text = m.text })
  pub every : m.state.save_every ≡ job.setting.save_every
  pub save_room : 84 + 80 * total job ≤ length m.state.room.items + m.state.room.spare
  pub pool : IsDeskPool job job.setting.workers m.pool
  pub tester : IsTester job m.tester
