use Rattle.std.proofs.Common.{refl, ap, ◌∙◌}
use Rattle.audit_model.specs.declared.setting.Setting.{Setting}
use Rattle.walker.proofs.Stepping.{walked_all, walked_state}
use Rattle.walker.proofs.steps.walk.Goals as goal

pub returns-clause-plan : goal.returns-clause-plan
returns-clause-plan g c =
    let job = c.args.job.now in
    walked_state job job.setting.key c.args.stream c.args.state.now.plan c.args.steps c.walk_on.new.state c.walk_on.new.draws c.walk_on.result
    (walked_all job job.setting.key c.args.stream c.args.steps c.args.state.now c.walk_on.new.state c.new-draws.result c.walk_on.new.draws c.walk_on.result c.requires.made
    (c.new-draws.ensures.key ∙ ap (λ (s : Setting). s.key) c.setting-setting.ensures.value) c.new-draws.ensures.stream c.new-draws.ensures.place c.walk_on.ensures.walked)
    c.args.steps refl c.args.state.now c.requires.made

pub returns-clause-moved : goal.returns-clause-moved
returns-clause-moved g c =
    let job = c.args.job.now in
    (walked_all job job.setting.key c.args.stream c.args.steps c.args.state.now c.walk_on.new.state c.new-draws.result c.walk_on.new.draws c.walk_on.result c.requires.made
    (c.new-draws.ensures.key ∙ ap (λ (s : Setting). s.key) c.setting-setting.ensures.value) c.new-draws.ensures.stream c.new-draws.ensures.place c.walk_on.ensures.walked).counted
