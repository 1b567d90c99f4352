use Rattle.std.proofs.Common.{refl}
use Rattle.audit_model.specs.Below.{count_below}
use Rattle.audit_laws.proofs.examples.limits.kept_limits.Goals as goal

pub returns-clause-none : goal.returns-clause-none
unfolding count_below
returns-clause-none c = refl

pub returns-clause-splits : goal.returns-clause-splits
unfolding count_below
returns-clause-splits c = refl

pub returns-clause-too_many_splits : goal.returns-clause-too_many_splits
unfolding count_below
returns-clause-too_many_splits c = refl

pub returns-clause-regions : goal.returns-clause-regions
unfolding count_below
returns-clause-regions c = refl

pub returns-clause-too_many_regions : goal.returns-clause-too_many_regions
unfolding count_below
returns-clause-too_many_regions c = refl

pub returns-clause-whole : goal.returns-clause-whole
unfolding count_below
returns-clause-whole c = refl

pub returns-clause-majorities : goal.returns-clause-majorities
unfolding count_below
returns-clause-majorities c = refl

pub returns-clause-too_few : goal.returns-clause-too_few
unfolding count_below
returns-clause-too_few c = refl
