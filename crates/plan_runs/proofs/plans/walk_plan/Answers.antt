use Rattle.std.proofs.Common.{◌∙◌, List, subst}
use Rattle.audit_model.specs.declared.outcome.Outcome.{Outcome}
use Rattle.plan_runs.specs.Found.{HasFound}
use Rattle.plan_runs.proofs.Reported.{none_short, thread_observed}
use Rattle.plan_runs.proofs.plans.walk_plan.Goals as goal

pub walk-found-requires-clause-buffers : goal.walk-found-requires-clause-buffers
walk-found-requires-clause-buffers g c κs within = c.requires.resources.buffers

pub walk-found-requires-clause-workers : goal.walk-found-requires-clause-workers
walk-found-requires-clause-workers g c κs within = c.requires.resources.workers

pub text_of-requires-clause-reportable : goal.text_of-requires-clause-reportable
text_of-requires-clause-reportable g c = c.walk-found.ensures.reportable

pub text_of-requires-clause-whole : goal.text_of-requires-clause-whole
text_of-requires-clause-whole g c =
    none_short c.args.job.now c.requires.run c.walk-found.result (subst (λ (os : List Outcome). HasFound c.args.job.now os c.walk-found.result) c.requires.fresh c.walk-found.ensures)

pub text_of-requires-clause-tester : goal.text_of-requires-clause-tester
text_of-requires-clause-tester g c = c.requires.resources.tester

pub returns : goal.returns
returns g c =
    let job = c.args.job.now in
    let has = subst (λ (os : List Outcome). HasFound job os c.walk-found.result) c.requires.fresh c.walk-found.ensures in
    c.text_of.ensures ∙ thread_observed job c.requires.run c.walk-found.result (has.whole (none_short job c.requires.run c.walk-found.result has))
