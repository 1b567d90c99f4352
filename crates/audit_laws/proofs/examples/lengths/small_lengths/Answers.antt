use Rattle.std.proofs.Common.{refl}
use Rattle.audit_model.specs.Below.{count_below}
use Rattle.audit_laws.proofs.examples.lengths.small_lengths.Goals as goal

pub returns-clause-one : goal.returns-clause-one
unfolding count_below
returns-clause-one c = refl

pub returns-clause-two : goal.returns-clause-two
unfolding count_below
returns-clause-two c = refl

pub returns-clause-all : goal.returns-clause-all
unfolding count_below
returns-clause-all c = refl

pub returns-clause-none : goal.returns-clause-none
unfolding count_below
returns-clause-none c = refl

pub returns-clause-no_lengths : goal.returns-clause-no_lengths
unfolding count_below
returns-clause-no_lengths c = refl
