use Rattle.std.proofs.Common.{refl}
use Rattle.audit_model.specs.Below.{count_below}
use Rattle.audit_model.specs.Plan.{is_legal}
use Rattle.audit_model.specs.Step.{next}
use Rattle.audit_model.specs.Weight.{factors, is_taken}
use Rattle.audit_laws.proofs.examples.weights.steps_with_a_weight.Goals as goal

pub returns-clause-taken : goal.returns-clause-taken
unfolding is_legal next is_taken factors count_below
returns-clause-taken c = refl

pub returns-clause-refused : goal.returns-clause-refused
unfolding is_legal next is_taken factors count_below
returns-clause-refused c = refl

pub returns-clause-even : goal.returns-clause-even
unfolding is_legal next is_taken factors count_below
returns-clause-even c = refl

pub returns-clause-back : goal.returns-clause-back
unfolding is_legal next is_taken factors count_below
returns-clause-back c = refl
