use Rattle.std.proofs.Common.{refl}
use Rattle.audit_model.specs.Below.{count_below}
use Rattle.audit_laws.proofs.examples.model.gaps_on_a_cycle.Goals as goal

pub returns-clause-start : goal.returns-clause-start
unfolding count_below
returns-clause-start c = refl

pub returns-clause-second : goal.returns-clause-second
unfolding count_below
returns-clause-second c = refl

pub returns-clause-third : goal.returns-clause-third
unfolding count_below
returns-clause-third c = refl
