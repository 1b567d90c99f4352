use Rattle.std.proofs.Common.{refl}
use Rattle.audit_model.specs.Below.{count_below}
use Rattle.audit_laws.proofs.examples.weights.small_largest_changes.Goals as goal

pub returns-clause-few : goal.returns-clause-few
unfolding count_below
returns-clause-few c = refl

pub returns-clause-more : goal.returns-clause-more
unfolding count_below
returns-clause-more c = refl

pub returns-clause-most : goal.returns-clause-most
unfolding count_below
returns-clause-most c = refl
