use Rattle.std.proofs.Common.{refl}
use Rattle.audit_model.specs.Below.{count_below}
use Rattle.audit_laws.proofs.examples.limits.small_majorities.Goals as goal

pub returns-clause-half : goal.returns-clause-half
unfolding count_below
returns-clause-half c = refl

pub returns-clause-more : goal.returns-clause-more
unfolding count_below
returns-clause-more c = refl

pub returns-clause-one : goal.returns-clause-one
unfolding count_below
returns-clause-one c = refl

pub returns-clause-two : goal.returns-clause-two
unfolding count_below
returns-clause-two c = refl

pub returns-clause-above : goal.returns-clause-above
unfolding count_below
returns-clause-above c = refl

pub returns-clause-of_none : goal.returns-clause-of_none
unfolding count_below
returns-clause-of_none c = refl
