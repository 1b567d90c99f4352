use Rattle.std.proofs.Common.{refl}
use Rattle.audit_model.specs.Below.{count_below}
use Rattle.audit_laws.proofs.examples.frozen.bytes_with_frozen.Goals as goal

pub returns-clause-frozen : goal.returns-clause-frozen
unfolding count_below
returns-clause-frozen c = refl

pub returns-clause-share : goal.returns-clause-share
unfolding count_below
returns-clause-share c = refl

pub returns-clause-no_group : goal.returns-clause-no_group
unfolding count_below
returns-clause-no_group c = refl

pub returns-clause-frozen_behind : goal.returns-clause-frozen_behind
unfolding count_below
returns-clause-frozen_behind c = refl

pub returns-clause-share_behind : goal.returns-clause-share_behind
unfolding count_below
returns-clause-share_behind c = refl
