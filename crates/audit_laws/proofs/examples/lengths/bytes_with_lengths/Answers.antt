use Rattle.std.proofs.Common.{refl}
use Rattle.audit_model.specs.Below.{count_below}
use Rattle.audit_laws.proofs.examples.lengths.bytes_with_lengths.Goals as goal

pub returns-clause-fifth : goal.returns-clause-fifth
unfolding count_below
returns-clause-fifth c = refl

pub returns-clause-behind : goal.returns-clause-behind
unfolding count_below
returns-clause-behind c = refl

pub returns-clause-without : goal.returns-clause-without
unfolding count_below
returns-clause-without c = refl

pub returns-clause-nothing_behind : goal.returns-clause-nothing_behind
unfolding count_below
returns-clause-nothing_behind c = refl
