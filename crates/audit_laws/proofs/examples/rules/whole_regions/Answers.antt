use Rattle.std.proofs.Common.{refl}
use Rattle.audit_model.specs.Below.{count_below}
use Rattle.audit_model.specs.Plan.{is_legal}
use Rattle.audit_model.specs.Step.{next}
use Rattle.audit_model.specs.Weight.{is_taken}
use Rattle.audit_model.specs.Trajectory.{visit}
use Rattle.audit_laws.proofs.examples.rules.whole_regions.Goals as goal

pub returns-clause-whole : goal.returns-clause-whole
unfolding is_legal next is_taken visit count_below
returns-clause-whole c = refl

pub returns-clause-split : goal.returns-clause-split
unfolding is_legal next is_taken visit count_below
returns-clause-split c = refl
