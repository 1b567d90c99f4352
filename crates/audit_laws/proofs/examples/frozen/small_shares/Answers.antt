use Rattle.std.proofs.Common.{refl}
use Rattle.audit_model.specs.Below.{count_below}
use Rattle.audit_laws.proofs.examples.frozen.small_shares.Goals as goal

pub returns-clause-below : goal.returns-clause-below
unfolding count_below
returns-clause-below c = refl

pub returns-clause-same : goal.returns-clause-same
unfolding count_below
returns-clause-same c = refl

pub returns-clause-both : goal.returns-clause-both
unfolding count_below
returns-clause-both c = refl

pub returns-clause-any : goal.returns-clause-any
unfolding count_below
returns-clause-any c = refl

pub returns-clause-none : goal.returns-clause-none
unfolding count_below
returns-clause-none c = refl
