use Rattle.std.proofs.Common.{ℕ, ◌≤◌, ◌+◌, ◌-◌, ◌*◌, List, ap, sym, subst, ◌∙◌, arith}
use Rattle.audit_model.specs.declared.setting.Setting.{Setting}
use Rattle.audit_model.specs.Plan.{IsLegal}
use Rattle.audit_model.proofs.Mirror.{visit_stays_legal}
use Rattle.audit_statement.specs.Draw.{draw}
use Rattle.flip_kernel.specs.ChainState.{ChainState}
use Rattle.walker.proofs.Departing.{departed_walk, departed_end}
use Rattle.walker.proofs.walker.Walker.set_out.Goals as goal

pub returns-then-id-setting : goal.returns-then-id-setting
returns-then-id-setting g c =
    let job = c.args.job.now in
    record {
      way = departed_walk job c.args.id c.set.new.self c.new.result (ap (λ (h : ChainState). h.job) c.set.ensures.unchanged ∙ ap (λ (h : ChainState). h.job) c.self.view_is ∙ c.requires.made)
          (omega (arith, c.if-id-setting.true, ap (λ (s : Setting). s.walks) c.setting-setting.ensures.value))
          (ap (λ (h : ChainState). h.plan) c.set.ensures.unchanged ∙ c.as_slice.ensures ∙ c.start.ensures.value)
          (record {
            key_is = c.new.ensures.key ∙ ap (λ (s : Setting). s.key) c.setting-setting.ensures.value;
            stream_is = c.new.ensures.stream ∙ ap (λ (n : ℕ). 2 * n) c.from.ensures;
            first = c.new.ensures.place;
            unmoved = c.new.ensures.moved;
          });
    }

pub set-requires-else-id-setting-clause-legal : goal.set-requires-else-id-setting-clause-legal
set-requires-else-id-setting-clause-legal g c =
    let job = c.args.job.now in
    subst (λ (p : List ℕ). IsLegal job p) (sym (c.requires.hub (omega (arith, c.if-id-setting.false, ap (λ (s : Setting). s.walks) c.setting-setting.ensures.value))))
    (visit_stays_legal job (draw job.setting.key 1) job.start job.setting.hub_steps c.setting-setting.ensures.sound.legal)

pub returns-else-id-setting : goal.returns-else-id-setting
returns-else-id-setting g c =
    let job = c.args.job.now in
    let fresh = c.new-else-id-setting in
    let set = c.set-else-id-setting in
    let above : job.setting.walks ≤ c.args.id = omega (arith, c.if-id-setting.false, ap (λ (s : Setting). s.walks) c.setting-setting.ensures.value) in
    record {
      way = departed_end job c.args.id set.new.self fresh.result (ap (λ (h : ChainState). h.job) set.ensures.unchanged ∙ ap (λ (h : ChainState). h.job) c.self.view_is ∙ c.requires.made)
          above
          (ap (λ (h : ChainState). h.plan) set.ensures.unchanged ∙ c.requires.hub above)
          (record {
            key_is = fresh.ensures.key ∙ ap (λ (s : Setting). s.key) c.setting-setting.ensures.value;
            stream_is = fresh.ensures.stream ∙ ap (λ (n : ℕ). 2 * n + 3) (c.from-else-id-setting.ensures ∙ ap (λ (s : Setting). c.args.id - s.walks) c.setting-setting.ensures.value);
            first = fresh.ensures.place;
            unmoved = fresh.ensures.moved;
          });
    }
