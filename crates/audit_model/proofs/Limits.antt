-- Bounds of a job within its limits.
use Rattle.std.proofs.Common.{◌≤◌, ◌^◌, arith}
use Rattle.audit_model.specs.declared.setting.Command.{Command}
use Rattle.audit_model.specs.declared.setting.Command.TheVariants.{Check, Run, Make, Plans, Trace}
use Rattle.audit_model.specs.declared.setting.Setting.{Setting}
use Rattle.audit_model.specs.Limits.{IsSettingOf}
use Rattle.audit_model.specs.Job.{Job}
use Rattle.audit_model.specs.JobOf.{IsJob}

-- a setting of any command has at most 10 ^ 9 steps
pub few_of : (command : Command) (s : Setting) → IsSettingOf command s → s.steps ≤ 10 ^ 9
few_of Check s h = omega (arith, h.no_steps)
few_of Run s h = h.few_steps
few_of Make s h = h.few_steps
few_of Plans s h = h.few_steps
few_of Trace s h = h.run.few_steps

-- a job has at most 10 ^ 9 steps
pub few_steps : (job : Job) → IsJob job → job.setting.steps ≤ 10 ^ 9
few_steps job sound = few_of job.setting.command job.setting sound.within.setting.command
