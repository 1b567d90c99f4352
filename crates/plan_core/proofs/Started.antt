-- The start plan's value for the ask at a place.
use Rattle.std.proofs.Common.{◌≡◌, ℕ, zero, suc, ◌<◌, ◌≤◌, List, length, get_or, Option, Some, None, ℤ, pos, refl, sym, ap, ◌∙◌, subst, arith}
use Rattle.std.specs.Prelude.{IfSome}
use Rattle.std.specs.List.{slice_get}
use Rattle.audit_model.specs.declared.setting.Ask.{Ask}
use Rattle.audit_model.specs.declared.setting.Command.{Command}
use Rattle.audit_model.specs.declared.setting.Command.TheVariants.{Check, Run, Make, Plans, Trace}
use Rattle.audit_model.specs.declared.setting.Setting.{Setting}
use Rattle.audit_model.specs.Job.{Job}
use Rattle.audit_model.specs.JobOf.{IsJob}
use Rattle.audit_model.specs.Limits.{IsSettingOf}
use Rattle.audit_model.specs.Trajectory.{plan_value}
use Rattle.plan_core.specs.Valued.{value_of, start_values, IsValued}

-- a setting has at most four asks
few_of : (command : Command) (s : Setting) → IsSettingOf command s → length s.asks ≤ 4
few_of Check s h = omega (arith, ap (λ (asks : List Ask). length asks) h.no_asks)
few_of Run s h = h.few_asks
few_of Make s h = h.few_asks
few_of Plans s h = h.few_asks
few_of Trace s h = h.run.few_asks

-- a job has at most four asks
pub few_asks : (job : Job) → IsJob job → length job.setting.asks ≤ 4
few_asks job sound = few_of job.setting.command job.setting sound.within.setting.command

-- the value at a place is that of the ask there
abbrev pub IsStart : Job → ℕ → ℤ → Type 0
IsStart job place value = IfSome (slice_get job.setting.asks place) (λ ask. value ≡ plan_value job job.start ask.score)

-- the value of an ask is the start plan's
value_is : (job : Job) (o : Option Ask) → IfSome o (λ ask. value_of job o ≡ plan_value job job.start ask.score)
unfolding value_of
value_is job None = tt
value_is job (Some ask) = refl

-- the list of values has each ask's value at its place
value_at_place : (job : Job) (place : ℕ) → place < 4 → IsStart job place (get_or (start_values job) place (pos 0))
value_at_place job zero l = value_is job (slice_get job.setting.asks 0)
value_at_place job (suc zero) l = value_is job (slice_get job.setting.asks 1)
value_at_place job (suc (suc zero)) l = value_is job (slice_get job.setting.asks 2)
value_at_place job (suc (suc (suc zero))) l = value_is job (slice_get job.setting.asks 3)
value_at_place job (suc (suc (suc (suc k)))) l = absurd (omega (arith, l))

-- a cached value is the start plan's for the ask at its place
pub started : (job : Job) (values : List ℤ) (place : ℕ) (value : ℤ) → IsValued job values → place < length job.setting.asks
    → value ≡ get_or values place (pos 0) → IsStart job place value
started job values place value valued within at =
    subst (λ (z : ℤ). IsStart job place z) (sym (at ∙ ap (λ (zs : List ℤ). get_or zs place (pos 0)) valued.valued))
    (value_at_place job place (omega (arith, within, few_asks job valued.sound)))
