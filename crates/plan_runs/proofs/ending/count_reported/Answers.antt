use Rattle.std.proofs.Common.{◌≡◌, ◌∙◌, ℕ, zero, suc, ap, refl, sym}
use Rattle.audit_model.specs.declared.setting.Setting.{Setting}
use Rattle.audit_model.specs.Job.{Job}
use Rattle.report.specs.Outcomes.{reported_by}
use Rattle.audit_laws.proofs.Running.{reports_all}
use Rattle.plan_runs.proofs.ending.count_reported.Goals as goal

some_stop : (job : Job) (n : ℕ) → (n ≡ 0 → ⊥) → reported_by n job ≡ job.setting.walks
some_stop job zero some = absurd (some refl)
some_stop job (suc n) some = refl

pub returns-then-setting-eq0 : goal.returns-then-setting-eq0
returns-then-setting-eq0 c =
    c.total.ensures.value ∙ sym (reports_all c.args.job.now (sym (ap (λ (s : Setting). s.stop) c.setting.ensures.value) ∙ c.if-setting-eq0.true))

pub returns-else-setting-eq0 : goal.returns-else-setting-eq0
returns-else-setting-eq0 c =
    ap (λ (s : Setting). s.walks) c.setting-else-setting-eq0.ensures.value
    ∙ sym (some_stop c.args.job.now c.args.job.now.setting.stop (λ none. c.if-setting-eq0.false (ap (λ (s : Setting). s.stop) c.setting.ensures.value ∙ none)))
