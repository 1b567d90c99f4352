use Rattle.std.proofs.Common.{refl}
use Rattle.audit_model.specs.Below.{count_below}
use Rattle.audit_laws.proofs.examples.rules.small_splits.Goals as goal

pub returns-clause-cut : goal.returns-clause-cut
unfolding count_below
returns-clause-cut c = refl

pub returns-clause-regions : goal.returns-clause-regions
unfolding count_below
returns-clause-regions c = refl

pub returns-clause-no_regions : goal.returns-clause-no_regions
unfolding count_below
returns-clause-no_regions c = refl

pub returns-clause-whole : goal.returns-clause-whole
unfolding count_below
returns-clause-whole c = refl

pub returns-clause-split : goal.returns-clause-split
unfolding count_below
returns-clause-split c = refl

pub returns-clause-unused : goal.returns-clause-unused
unfolding count_below
returns-clause-unused c = refl

pub returns-clause-meets : goal.returns-clause-meets
unfolding count_below
returns-clause-meets c = refl

pub returns-clause-cuts_too_many : goal.returns-clause-cuts_too_many
unfolding count_below
returns-clause-cuts_too_many c = refl

pub returns-clause-splits_too_often : goal.returns-clause-splits_too_often
unfolding count_below
returns-clause-splits_too_often c = refl
