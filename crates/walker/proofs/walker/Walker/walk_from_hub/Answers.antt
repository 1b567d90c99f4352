use Rattle.std.proofs.Common.{ℕ, ◌+◌, ◌-◌, ◌*◌, List, ap, sym, subst, ◌∙◌}
use Rattle.audit_model.specs.declared.setting.Setting.{Setting}
use Rattle.audit_model.specs.Plan.{IsLegal}
use Rattle.audit_model.specs.Trajectory.{moves, visit}
use Rattle.audit_statement.specs.Draw.{draw}
use Rattle.flip_kernel.specs.ChainState.{ChainState}
use Rattle.audit_model.proofs.Mirror.{visit_stays_legal}
use Rattle.walker.proofs.Finding.{end_found}
use Rattle.walker.proofs.walker.Walker.walk_from_hub.Goals as goal

pub set-requires-clause-legal : goal.set-requires-clause-legal
set-requires-clause-legal g c =
    let job = c.args.job.now in
    subst (λ (p : List ℕ). IsLegal job p) (sym c.requires.hub)
    (visit_stays_legal job (draw job.setting.key 1) job.start job.setting.hub_steps c.setting-setting.ensures.sound.legal)

pub returns-clause-outcome : goal.returns-clause-outcome
returns-clause-outcome g c =
    let job = c.args.job.now in
    let stream = 2 * c.from.result + 3 in
    let unchanged = ap (λ (h : ChainState). h.plan) c.set.ensures.unchanged in
    let steps = ap (λ (s : Setting). s.hub_steps) c.setting-setting.ensures.value in
    end_found job (draw job.setting.key) c.args.id stream c.from-2.result c.args.hub.now c.walk-moved.new.state c.as_slice.result.now c.values.result
    (ap (λ (n : ℕ). 2 * n + 3) (c.from.ensures ∙ ap (λ (s : Setting). c.args.id - s.walks) c.setting-setting.ensures.value))
    c.requires.hub
    (c.from-2.ensures ∙ c.walk-moved.ensures.moved
    ∙ ap (λ (p : List ℕ). moves job (draw job.setting.key stream) p c.setting-setting.result.now.hub_steps) unchanged
    ∙ ap (λ (n : ℕ). moves job (draw job.setting.key stream) c.args.hub.now n) steps)
    (ap (λ (h : ChainState). h.job) c.walk-moved.ensures.plan ∙ ap (λ (h : ChainState). h.job) c.set.ensures.unchanged ∙ ap (λ (h : ChainState). h.job) c.self.view_is ∙ c.requires.made)
    (ap (λ (h : ChainState). h.plan) c.walk-moved.ensures.plan
    ∙ ap (λ (p : List ℕ). visit job (draw job.setting.key stream) p c.setting-setting.result.now.hub_steps) unchanged
    ∙ ap (λ (n : ℕ). visit job (draw job.setting.key stream) c.args.hub.now n) steps)
    (c.as_slice.ensures ∙ ap (λ (s : Setting). s.asks) c.setting-setting.ensures.value)
    c.values.ensures
