use Rattle.std.proofs.Common.{refl}
use Rattle.audit_model.specs.Below.{count_below}
use Rattle.audit_laws.proofs.examples.limits.refused_by_limits.Goals as goal

pub returns-clause-split : goal.returns-clause-split
unfolding count_below
returns-clause-split c = refl

pub returns-clause-splits : goal.returns-clause-splits
unfolding count_below
returns-clause-splits c = refl

pub returns-clause-regions : goal.returns-clause-regions
unfolding count_below
returns-clause-regions c = refl

pub returns-clause-group : goal.returns-clause-group
unfolding count_below
returns-clause-group c = refl

pub returns-clause-none : goal.returns-clause-none
unfolding count_below
returns-clause-none c = refl
