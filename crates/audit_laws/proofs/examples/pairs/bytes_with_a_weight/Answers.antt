use Rattle.std.proofs.Common.{refl}
use Rattle.audit_model.specs.Below.{count_below}
use Rattle.audit_laws.proofs.examples.pairs.bytes_with_a_weight.Goals as goal

pub returns-clause-sixth : goal.returns-clause-sixth
unfolding count_below
returns-clause-sixth c = refl

pub returns-clause-behind : goal.returns-clause-behind
unfolding count_below
returns-clause-behind c = refl
