use Rattle.std.proofs.Common.{refl}
use Rattle.audit_model.specs.Below.{count_below}
use Rattle.audit_laws.proofs.examples.rules.refused_by_rules.Goals as goal

pub returns-clause-cut : goal.returns-clause-cut
unfolding count_below
returns-clause-cut c = refl

pub returns-clause-enough : goal.returns-clause-enough
unfolding count_below
returns-clause-enough c = refl

pub returns-clause-split : goal.returns-clause-split
unfolding count_below
returns-clause-split c = refl
