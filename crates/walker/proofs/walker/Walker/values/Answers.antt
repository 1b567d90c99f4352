use Rattle.std.proofs.Common.{List, ap, sym, ◌∙◌}
use Rattle.audit_model.specs.declared.setting.Ask.{Ask}
use Rattle.audit_model.specs.declared.setting.Setting.{Setting}
use Rattle.audit_model.specs.Job.{Job}
use Rattle.flip_kernel.specs.ChainState.{ChainState}
use Rattle.walker.specs.Asked.{each, asked_value}
use Rattle.walker.proofs.Finding.{values_are_four}
use Rattle.walker.proofs.walker.Walker.values.Goals as goal

pub returns-clause-values : goal.returns-clause-values
returns-clause-values g c =
    let job = c.args.job.now in
    let plan = c.args.self.now.plan in
    c.values.ensures ∙ ap (λ (h : ChainState). each (asked_value h.job h.plan) c.as_slice.result.now) c.self.view_is
    ∙ ap (λ (j : Job). each (asked_value j plan) c.as_slice.result.now) c.requires.made
    ∙ ap (λ (asks : List Ask). each (asked_value job plan) asks) (c.as_slice.ensures ∙ ap (λ (s : Setting). s.asks) c.setting.ensures.value)
    ∙ sym (values_are_four job plan job.setting.asks)
