use Rattle.std.proofs.Common.{refl}
use Rattle.audit_model.specs.Below.{count_below}
use Rattle.audit_model.specs.Plan.{is_legal}
use Rattle.audit_model.specs.Step.{next}
use Rattle.audit_model.specs.Weight.{is_taken}
use Rattle.audit_model.specs.Trajectory.{visit}
use Rattle.audit_laws.proofs.examples.model.visits_on_a_path.Goals as goal

pub returns-clause-third : goal.returns-clause-third
unfolding is_legal next is_taken visit count_below
returns-clause-third c = refl

pub returns-clause-eighth : goal.returns-clause-eighth
unfolding is_legal next is_taken visit count_below
returns-clause-eighth c = refl
