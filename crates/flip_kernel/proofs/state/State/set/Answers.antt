use Rattle.std.proofs.Common.{ap, subst, ◌∙◌}
use Rattle.audit_model.specs.Job.{Job}
use Rattle.flip_kernel.specs.ChainState.{ChainState}
use Rattle.flip_kernel.specs.Judged.{IsJudgeFor}
use Rattle.flip_kernel.proofs.Judging.{plan_taken}
use Rattle.flip_kernel.proofs.state.State.set.Goals as goal

pub reset-requires-clause-plan : goal.reset-requires-clause-plan
reset-requires-clause-plan g c =
    let by = g.J.Judge.judging c.self.inside.judge in
    plan_taken c.args.job.now by (subst (λ (j : Job). IsJudgeFor j by) (ap (λ (h : ChainState). h.job) c.self.view_is ∙ c.requires.made) c.self.invariant.fit) c.args.plan.now c.requires.legal.complete c.requires.legal.in_range
