use Rattle.std.proofs.Common.{refl}
use Rattle.audit_model.specs.Below.{count_below}
use Rattle.audit_laws.proofs.examples.model.small_sums.Goals as goal

pub returns : goal.returns
unfolding count_below
returns c = refl
