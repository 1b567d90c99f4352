use Rattle.std.proofs.Common.{◌≡◌, Some, None, Ok, sym, subst}
use Rattle.audit_model.specs.Job.{Job}
use Rattle.audit_model.specs.JobOf.{job_of, plan_fault}
use Rattle.dual_graph.specs.Read.{parsed_of}
use Rattle.plan_core.proofs.Judged.{given_job, job_of_none, job_of_some}
use Rattle.plan_core.proofs.job.Job.with_regions.Goals as goal

pub returns-in-Ok-clause-job : goal.returns-in-Ok-clause-job
returns-in-Ok-clause-job c =
    let parsed = parsed_of c.args.parsed in
    let setting = c.args.setting in
    let regions = c.args.regions in
    given_job c.in-Ok.input (job_of parsed setting regions)
    (λ none. subst (λ (j : Job). job_of parsed setting regions ≡ Ok j) (sym c.in-Ok.ensures)
    (job_of_none parsed setting regions (subst (λ (j : Job). plan_fault j ≡ None) c.in-Ok.ensures none)))
    (λ fault some. job_of_some parsed setting regions fault (subst (λ (j : Job). plan_fault j ≡ Some fault) c.in-Ok.ensures some))
    c.of_input.result c.of_input.ensures.job
