use Rattle.std.proofs.Common.{refl}
use Rattle.audit_model.specs.Below.{count_below}
use Rattle.audit_laws.proofs.examples.limits.small_split_counts.Goals as goal

pub returns-clause-two : goal.returns-clause-two
unfolding count_below
returns-clause-two c = refl

pub returns-clause-two_regions : goal.returns-clause-two_regions
unfolding count_below
returns-clause-two_regions c = refl

pub returns-clause-one : goal.returns-clause-one
unfolding count_below
returns-clause-one c = refl

pub returns-clause-one_region : goal.returns-clause-one_region
unfolding count_below
returns-clause-one_region c = refl

pub returns-clause-twice : goal.returns-clause-twice
unfolding count_below
returns-clause-twice c = refl

pub returns-clause-same_region : goal.returns-clause-same_region
unfolding count_below
returns-clause-same_region c = refl

pub returns-clause-whole : goal.returns-clause-whole
unfolding count_below
returns-clause-whole c = refl

pub returns-clause-unused : goal.returns-clause-unused
unfolding count_below
returns-clause-unused c = refl

pub returns-clause-no_regions : goal.returns-clause-no_regions
unfolding count_below
returns-clause-no_regions c = refl
