-- A run: the properties of its job, and all outcomes at its end.
use Rattle.std.specs.Prelude.{◌≡◌, ℕ, ◌+◌, ◌≤◌, true, false, IsTrue, List, length, Ok}
use Rattle.audit_model.specs.declared.outcome.Outcome.{Outcome}
use Rattle.audit_model.specs.declared.setting.Setting.{Setting}
use Rattle.audit_model.specs.Job.{Job}
use Rattle.audit_model.specs.JobOf.{IsJob}
use Rattle.audit_model.specs.Power.{is_power_of_two}
use Rattle.audit_model.specs.Run.{total, run_ids}
use Rattle.ckpt_store.specs.Fitting.{AreFit}
use Rattle.audit_statement.specs.Endings.{full_of, is_walking}
use Rattle.audit_statement.specs.Words.{setting_of}

-- the command walks, there are endpoints to test, and nothing is saved or resumed
pub record StopsAlone (s : Setting) : Type 0 where
  pub walking : IsTrue (is_walking s.command)
  pub some_ends : 1 ≤ s.ends
  pub no_saves : s.save_every ≡ 0
  pub fresh : s.resume ≡ false

-- The job is accepted and its command walks. If it saves nothing, its budget covers every trajectory. If its tests stop
-- early, it runs alone. The run of its serial test has a power of two of plans.
pub record IsRunJob (job : Job) : Type 0 where
  pub sound : IsJob job
  pub walking : IsTrue (is_walking job.setting.command)
  pub covered : job.setting.save_every ≡ 0 → total job ≤ job.setting.budget
  pub alone : 1 ≤ job.setting.stop → StopsAlone job.setting
  pub even : IsTrue job.setting.serial → IsTrue (is_power_of_two (job.setting.steps + 1))

-- the initial outcomes and those of the walked ids, by rising id, each plausible for the job
pub record AreAll (job : Job) (initial_outcomes outcomes : List Outcome) : Type 0 where
  pub full : outcomes ≡ full_of job initial_outcomes
  pub count : length outcomes ≡ length initial_outcomes + length (run_ids job initial_outcomes job.setting.budget)
  pub few : length outcomes ≤ total job
  pub fit : AreFit job outcomes
  pub start : AreFit job initial_outcomes

-- the law that each job of accepted arguments that is walked is a run
abbrev pub AcceptedJobsAreRuns : Type 0
AcceptedJobsAreRuns = (words : List (List ℕ)) (job : Job) → setting_of words ≡ Ok job.setting → IsJob job → is_walking job.setting.command ≡ true → IsRunJob job
