use Rattle.std.proofs.Common.{refl}
use Rattle.audit_laws.proofs.Starting.{none_fit}
use Rattle.plan_runs.proofs.plans.make_walk.Goals as goal

pub make_resources-requires-clause-start : goal.make_resources-requires-clause-start
make_resources-requires-clause-start g c = record { run = c.requires.run.run; fit = none_fit c.args.plan.job; fresh = λ early. refl }

pub make_resources-requires-clause-judges : goal.make_resources-requires-clause-judges
make_resources-requires-clause-judges g c = c.requires.judges

pub returns-in-Ok-clause-walk : goal.returns-in-Ok-clause-walk
returns-in-Ok-clause-walk g c = record { run = c.requires.run; own = c.in-Ok.resources; unwalked = refl; resources = c.in-Ok.ensures.resources; fresh = c.in-Ok.ensures.outcomes }

pub returns-in-Ok-clause-pair : goal.returns-in-Ok-clause-pair
returns-in-Ok-clause-pair g c = refl
