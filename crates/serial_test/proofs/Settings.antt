-- Facts about a job with at least one step.
use Rattle.std.proofs.Common.{◌≤◌, arith}
use Rattle.audit_model.specs.declared.setting.Command.{Command}
use Rattle.audit_model.specs.declared.setting.Command.TheVariants.{Check, Run, Make, Plans, Trace}
use Rattle.audit_model.specs.declared.setting.Setting.{Setting}
use Rattle.audit_model.specs.Job.{Job}
use Rattle.audit_model.specs.JobOf.{IsJob}
use Rattle.audit_model.specs.Limits.{IsRunSetting, IsSettingOf}

-- a setting with steps is that of a run, for each command
run_by : (command : Command) (setting : Setting) → 1 ≤ setting.steps → IsSettingOf command setting → IsRunSetting setting
run_by Check setting some within = absurd (omega (arith, some, within.no_steps))
run_by Run setting some within = within
run_by Make setting some within = within
run_by Plans setting some within = within
run_by Trace setting some within = within.run

-- the setting is within the limits of a run
pub run_setting : (job : Job) → IsJob job → 1 ≤ job.setting.steps → IsRunSetting job.setting
run_setting job sound some = run_by job.setting.command job.setting some sound.within.setting.command
