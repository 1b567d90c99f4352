use Rattle.std.proofs.Common.{refl}
use Rattle.audit_model.specs.Below.{count_below}
use Rattle.audit_laws.proofs.examples.limits.bytes_of_limits.Goals as goal

pub returns-clause-splits : goal.returns-clause-splits
unfolding count_below
returns-clause-splits c = refl

pub returns-clause-split_regions : goal.returns-clause-split_regions
unfolding count_below
returns-clause-split_regions c = refl

pub returns-clause-group : goal.returns-clause-group
unfolding count_below
returns-clause-group c = refl

pub returns-clause-regions_alone : goal.returns-clause-regions_alone
unfolding count_below
returns-clause-regions_alone c = refl

pub returns-clause-no_regions : goal.returns-clause-no_regions
unfolding count_below
returns-clause-no_regions c = refl

pub returns-clause-splits_behind : goal.returns-clause-splits_behind
unfolding count_below
returns-clause-splits_behind c = refl

pub returns-clause-group_behind : goal.returns-clause-group_behind
unfolding count_below
returns-clause-group_behind c = refl
