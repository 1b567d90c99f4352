-- The limits of a job that its report needs, whatever its command.
use Rattle.std.proofs.Common.{ℕ, ◌+◌, ◌*◌, ◌^◌, ◌≤◌, List, length, sum, ap, subst, arith}
use Rattle.std.proofs.Math.Nat.{mul-le-mul_left, mul-one}
use Rattle.std.proofs.lemmas.List.Sums.{sum_by-le}
use Rattle.audit_model.specs.declared.setting.Command.{Command}
use Rattle.audit_model.specs.declared.setting.Command.TheVariants.{Check, Run, Make, Plans, Trace}
use Rattle.audit_model.specs.declared.setting.Setting.{Setting}
use Rattle.audit_model.specs.Job.{Job, total_votes}
use Rattle.audit_model.specs.JobOf.{IsJob}
use Rattle.audit_model.specs.Limits.{IsRunSetting, IsSettingOf, IsColumn}

-- bounds on a setting's numbers, which are 0 for a check
pub record IsSmall (s : Setting) : Type 0 where
  pub few : s.walks + s.ends ≤ 100000
  pub few_steps : s.steps ≤ 10 ^ 9
  pub few_hub_steps : s.hub_steps ≤ 10 ^ 9
  pub few_asks : length s.asks ≤ 4
  pub asked : s.walks ≤ s.walks * length s.asks

-- a run's setting has small numbers
of_run : (s : Setting) → IsRunSetting s → IsSmall s
of_run s h = record { few = h.few; few_steps = h.few_steps; few_hub_steps = h.few_hub_steps; few_asks = h.few_asks; asked = subst (λ n. n ≤ s.walks * length s.asks) (mul-one s.walks) (mul-le-mul_left s.walks h.some_asks) }

-- the setting of any command has small numbers
of_command : (c : Command) (s : Setting) → IsSettingOf c s → IsSmall s
of_command Check s h = record { few = omega arith; few_steps = omega arith; few_hub_steps = omega arith; few_asks = omega (arith, ap length h.no_asks); asked = omega (arith, h.no_walks) }
of_command Run s h = of_run s h
of_command Make s h = of_run s h
of_command Plans s h = of_run s h
of_command Trace s h = of_run s h.run

-- a job's setting has small numbers
pub small : (job : Job) → IsJob job → IsSmall job.setting
small job h = of_command job.setting.command job.setting h.within.setting.command

-- the sum of a column
column_sum : (units : ℕ) (numbers : List ℕ) → IsColumn units numbers → sum numbers ≤ units * 10 ^ 9
column_sum units numbers h =
    let within : sum numbers ≤ length numbers * 10 ^ 9 = sum_by-le (λ n. n) (10 ^ 9) numbers h.small in
    omega (arith, within, h.width)

-- the votes of a job are at most 2 * 10 ^ 14
pub votes : (job : Job) → IsJob job → total_votes job ≤ 2 * 10 ^ 14
votes job h =
    let input = h.within.input in
    omega (arith, input.units, column_sum job.graph.units job.counts.first input.first, column_sum job.graph.units job.counts.second input.second)
