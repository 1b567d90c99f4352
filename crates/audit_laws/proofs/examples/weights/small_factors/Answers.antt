use Rattle.std.proofs.Common.{refl}
use Rattle.audit_model.specs.Weight.{factors}
use Rattle.audit_laws.proofs.examples.weights.small_factors.Goals as goal

pub returns-clause-product : goal.returns-clause-product
unfolding factors
returns-clause-product c = refl
