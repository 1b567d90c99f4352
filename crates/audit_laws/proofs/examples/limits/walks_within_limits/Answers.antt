use Rattle.std.proofs.Common.{refl}
use Rattle.audit_model.specs.Below.{count_below}
use Rattle.audit_model.specs.Plan.{is_legal}
use Rattle.audit_model.specs.Step.{next}
use Rattle.audit_model.specs.Weight.{is_taken}
use Rattle.audit_model.specs.Trajectory.{visit}
use Rattle.audit_laws.proofs.examples.limits.walks_within_limits.Goals as goal

pub returns-clause-splits : goal.returns-clause-splits
unfolding is_legal next is_taken visit count_below
returns-clause-splits c = refl

pub returns-clause-regions : goal.returns-clause-regions
unfolding is_legal next is_taken visit count_below
returns-clause-regions c = refl

pub returns-clause-majorities : goal.returns-clause-majorities
unfolding is_legal next is_taken visit count_below
returns-clause-majorities c = refl

pub returns-clause-fewer : goal.returns-clause-fewer
unfolding is_legal next is_taken visit count_below
returns-clause-fewer c = refl
