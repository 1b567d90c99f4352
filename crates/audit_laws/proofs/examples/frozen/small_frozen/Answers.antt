use Rattle.std.proofs.Common.{refl}
use Rattle.audit_model.specs.Below.{count_below}
use Rattle.audit_laws.proofs.examples.frozen.small_frozen.Goals as goal

pub returns-clause-rules : goal.returns-clause-rules
unfolding count_below
returns-clause-rules c = refl
