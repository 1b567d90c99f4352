use Rattle.flip_guard.proofs.CutAlone.{all_meet}
use Rattle.flip_guard.proofs.guard.GuardJudge.limits_nothing.Goals as goal

pub returns-clause-exact : goal.returns-clause-exact
returns-clause-exact g c = (
  λ free. record { all_cuts = c.allows_all.ensures.0 free; no_regions = c.requires.kept.2; no_group = c.requires.kept.3; no_frozen = c.requires.kept.4 },
  λ nothing. c.allows_all.ensures.1 nothing.all_cuts,
)

pub returns-clause-meets : goal.returns-clause-meets
returns-clause-meets g c = λ free cut plan few.
    all_meet c.args.self.now.rules (record { all_cuts = c.allows_all.ensures.0 free; no_regions = c.requires.kept.2; no_group = c.requires.kept.3; no_frozen = c.requires.kept.4 }) cut plan few
