use Rattle.std.proofs.Common.{refl}
use Rattle.audit_model.specs.Below.{count_below}
use Rattle.audit_model.specs.Plan.{is_legal}
use Rattle.audit_model.specs.Step.{next}
use Rattle.audit_model.specs.Weight.{is_taken}
use Rattle.audit_model.specs.Trajectory.{visit}
use Rattle.audit_laws.proofs.examples.model.more_outcomes.Goals as goal

pub returns-clause-three : goal.returns-clause-three
unfolding is_legal next is_taken visit count_below
returns-clause-three c = refl

pub returns-clause-districts : goal.returns-clause-districts
unfolding is_legal next is_taken visit count_below
returns-clause-districts c = refl
