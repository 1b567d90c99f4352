use Rattle.std.proofs.Common.{refl}
use Rattle.audit_model.specs.Below.{count_below}
use Rattle.audit_model.specs.Plan.{is_legal}
use Rattle.audit_model.specs.Step.{next}
use Rattle.audit_model.specs.Weight.{is_taken}
use Rattle.audit_model.specs.Trajectory.{visit}
use Rattle.audit_laws.proofs.examples.model.small_outcomes.Goals as goal

pub returns-clause-path : goal.returns-clause-path
unfolding is_legal next is_taken visit count_below
returns-clause-path c = refl

pub returns-clause-cycle : goal.returns-clause-cycle
unfolding is_legal next is_taken visit count_below
returns-clause-cycle c = refl

pub returns-clause-cut : goal.returns-clause-cut
unfolding is_legal next is_taken visit count_below
returns-clause-cut c = refl
