use Rattle.std.proofs.Common.{refl}
use Rattle.audit_model.specs.Below.{count_below}
use Rattle.audit_model.specs.Plan.{is_legal}
use Rattle.audit_model.specs.Step.{next}
use Rattle.audit_model.specs.Weight.{is_taken}
use Rattle.audit_model.specs.Trajectory.{visit}
use Rattle.audit_laws.proofs.examples.rules.limited_cut_edges.Goals as goal

pub returns-clause-free : goal.returns-clause-free
unfolding is_legal next is_taken visit count_below
returns-clause-free c = refl

pub returns-clause-limited : goal.returns-clause-limited
unfolding is_legal next is_taken visit count_below
returns-clause-limited c = refl
