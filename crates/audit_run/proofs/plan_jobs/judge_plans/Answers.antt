use Rattle.std.proofs.Common.{sym, subst}
use Rattle.audit_run.specs.Stages.{PlansRefused}
use Rattle.audit_run.proofs.Preparing.{jobs_prepared, jobs_refused}
use Rattle.audit_run.proofs.plan_jobs.judge_plans.Goals as goal

pub returns-in-Ok : goal.returns-in-Ok
returns-in-Ok c = λ before after given faults ended.
    jobs_prepared c.args.setting before after c.args.bytes.now given c.requires.few faults c.in-Ok.plans.items ended c.in-Ok.ensures.shared c.in-Ok.ensures.read

pub returns-in-Err : goal.returns-in-Err
returns-in-Err c = λ before after given faults.
    subst (PlansRefused c.args.setting before after) (sym c.plans_end.ensures)
    (jobs_refused c.args.setting before after c.args.bytes.now given c.requires.few faults c.in-Err.fault c.in-Err.ensures.read)
