use Rattle.std.proofs.Common.{refl}
use Rattle.audit_model.specs.Below.{count_below}
use Rattle.audit_model.specs.JobOf.{job_with}
use Rattle.audit_model.specs.Plan.{is_legal}
use Rattle.audit_model.specs.Step.{next}
use Rattle.audit_model.specs.Weight.{is_taken}
use Rattle.audit_model.specs.Trajectory.{visit}
use Rattle.audit_laws.proofs.examples.tables.jobs_of_plans.Goals as goal

pub returns-clause-walked : goal.returns-clause-walked
unfolding job_with is_legal next is_taken visit count_below
returns-clause-walked c = refl

pub returns-clause-refused : goal.returns-clause-refused
unfolding job_with is_legal next is_taken visit count_below
returns-clause-refused c = refl

pub returns-clause-named : goal.returns-clause-named
unfolding job_with is_legal next is_taken visit count_below
returns-clause-named c = refl
