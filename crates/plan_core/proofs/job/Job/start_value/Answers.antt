use Rattle.std.proofs.Common.{◌≡◌, length, ◌<◌, ◌∙◌, subst, sym, rules, w64, to_z, of_z}
use Rattle.audit_model.specs.Job.{Job}
use Rattle.plan_core.proofs.Started.{IsStart, started}
use Rattle.plan_core.proofs.job.Job.start_value.Goals as goal

pub returns : goal.returns
returns c =
    let within : c.args.ask < length c.self.inside.input.setting.asks =
    subst (λ (job : Job). c.args.ask < length job.setting.asks) (sym c.self.view_is) c.requires in
    let fits : to_z w64 (of_z w64 c.entry.result) ≡ c.entry.result = search rules in
    let value = fits ∙ c.entry.ensures in
    subst (λ (job : Job). IsStart job c.args.ask (to_z w64 (of_z w64 c.entry.result))) c.self.view_is
    (started c.self.inside.input c.self.inside.values c.args.ask _ c.self.invariant within value)
