use Rattle.std.proofs.Common.{◌≡◌}
use Rattle.audit_model.specs.JobOf.{job_with, restarted}
use Rattle.plan_core.proofs.Judged.{given_job, job_with_none, job_with_some, restarted_is}
use Rattle.plan_core.proofs.job.Job.with_plan.Goals as goal

pub returns-in-Ok-clause-job : goal.returns-in-Ok-clause-job
returns-in-Ok-clause-job c =
    let job = c.args.self.now in
    let is : c.in-Ok.input ≡ restarted job c.args.start c.args.labels =
    restarted_is c.self.inside.input job c.args.start c.args.labels c.len.result c.in-Ok.input c.in-Ok.ensures c.len.ensures c.self.view_is in
    given_job c.in-Ok.input (job_with job c.args.start c.args.labels) (job_with_none job c.args.start c.args.labels c.in-Ok.input is)
    (job_with_some job c.args.start c.args.labels c.in-Ok.input is) c.of_input.result c.of_input.ensures.job
