use Rattle.std.proofs.Common.{refl, sym, ap, ◌∙◌}
use Rattle.audit_model.specs.declared.setting.Setting.{Setting}
use Rattle.walker.proofs.Flushing.{tested_first, trail_none}
use Rattle.walker.proofs.trail.Trail.new.Goals as goal

pub returns-clause-trail : goal.returns-clause-trail
returns-clause-trail g c =
    let job = c.args.job.now in
    let current = c.args.state.now in
    λ draws. trail_none job draws _ refl refl
    (tested_first job current.job current.plan c.as_slice.result.now _ c.requires.made c.requires.start
    (c.as_slice.ensures ∙ ap (λ (s : Setting). s.asks) c.setting.ensures.value) c.new-tally.ensures.start c.new-tally.ensures.inside
    (λ asked. c.new-bins.ensures.start (sym c.new-bins.ensures.asked ∙ asked)) (λ asked. c.new-bins.ensures.bin (sym c.new-bins.ensures.asked ∙ asked)) c.new-bins.ensures.small)
    c.new-tally.ensures.counts c.new-bins.ensures.counts
