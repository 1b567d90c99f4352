use Rattle.std.proofs.Common.{sym, subst}
use Rattle.audit_model.specs.Job.{Job}
use Rattle.audit_model.specs.JobOf.{IsJob}
use Rattle.plan_core.specs.Valued.{IsValued}
use Rattle.plan_core.proofs.Moved.{moved_is_job, moved_is_valued}
use Rattle.plan_core.proofs.job.Job.with_origin.Goals as goal

pub invariant_of-result : goal.invariant_of-result
invariant_of-result c =
    subst (λ (j : Job). IsValued j c.self.inside.values) (sym c.with_origin.ensures) (moved_is_valued c.self.inside.input c.args.origin c.self.inside.values c.self.invariant)

pub returns-clause-sound : goal.returns-clause-sound
returns-clause-sound c =
    subst (λ (j : Job). IsJob j) (sym c.with_origin.ensures) (moved_is_job c.self.inside.input c.args.origin c.self.invariant.sound)
