use Rattle.std.proofs.Common.{sym, ap, ◌∙◌}
use Rattle.audit_model.specs.declared.setting.Setting.{Setting}
use Rattle.walker.proofs.Flushing.{tested_of}
use Rattle.walker.proofs.trail.Trail.update.Goals as goal

pub returns-clause-tested : goal.returns-clause-tested
returns-clause-tested g c =
    let job = c.args.job.now in
    let current = c.args.state.now in
    tested_of job current.job current.plan c.as_slice.result.now _ c.requires.made
    (c.as_slice.ensures ∙ ap (λ (s : Setting). s.asks) c.setting.ensures.value) (c.update.ensures.start ∙ c.requires.start) c.update.ensures.inside
    (λ asked. c.update-2.ensures.start ∙ c.requires.seats (sym c.update-2.ensures.asked ∙ asked)) (λ asked. c.update-2.ensures.bin (sym c.update-2.ensures.asked ∙ asked))
    c.update-2.ensures.small
