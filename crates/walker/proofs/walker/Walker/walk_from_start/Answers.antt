use Rattle.std.proofs.Common.{ℕ, ◌*◌, ap, arith}
use Rattle.audit_model.specs.declared.setting.Setting.{Setting}
use Rattle.audit_model.proofs.Limits.{few_steps}
use Rattle.audit_statement.specs.Draw.{draw}
use Rattle.walker.proofs.Finding.{walk_found}
use Rattle.walker.proofs.walker.Walker.walk_from_start.Goals as goal

pub walk_along-found-requires-clause-few : goal.walk_along-found-requires-clause-few
walk_along-found-requires-clause-few g c =
    omega (arith, ap (λ (s : Setting). s.steps) c.setting-setting.ensures.value, few_steps c.args.job.now c.setting-setting.ensures.sound)

pub returns-clause-outcome : goal.returns-clause-outcome
returns-clause-outcome g c =
    let job = c.args.job.now in
    let setting = c.setting-setting.result.now in
    walk_found job (draw job.setting.key) c.args.id (2 * c.from-stream.result) setting.steps setting.shift c.walk_along-found.result
    (ap (λ (n : ℕ). 2 * n) c.from-stream.ensures) (ap (λ (s : Setting). s.steps) c.setting-setting.ensures.value)
    (ap (λ (s : Setting). s.shift) c.setting-setting.ensures.value) c.walk_along-found.ensures.outcome
