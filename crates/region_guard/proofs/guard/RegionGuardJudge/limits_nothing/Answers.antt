use Rattle.flip_guard.proofs.CutAlone.{all_meet}
use Rattle.region_guard.proofs.guard.RegionGuardJudge.limits_nothing.Goals as goal

pub returns-clause-meets : goal.returns-clause-meets
returns-clause-meets g c = λ free cut plan few. all_meet c.args.self.now.rules (c.has_no_limits.ensures.0 free) cut plan few
