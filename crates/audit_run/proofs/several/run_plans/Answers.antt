use Rattle.audit_laws.proofs.Running.{accepted_jobs_are_runs}
use Rattle.audit_run.proofs.Preparing.{reported_run}
use Rattle.audit_run.proofs.Words.{run_alone, same_key}
use Rattle.audit_run.proofs.several.run_plans.Goals as goal

pub report_all-requires-clause-plans : goal.report_all-requires-clause-plans
report_all-requires-clause-plans g c κs within = record {
  setting = c.in-Ok.ensures.setting;
  shared = c.in-Ok.ensures.shared;
  alone = run_alone accepted_jobs_are_runs _ _ _ c.in-Ok.plans.items c.requires.plans c.in-Ok.ensures;
}

pub returns-in-Ok-clause-runs : goal.returns-in-Ok-clause-runs
returns-in-Ok-clause-runs g c = λ keeper.
    reported_run _ _ _ c.in-Ok.plans.items c.in-Ok.ensures _ _ keeper c.report_all.result
    (c.report_all.ensures.reports c.in-Ok.ensures.setting.key (same_key _ _ _ c.in-Ok.plans.items c.in-Ok.ensures))

pub returns-in-Err-clause-runs : goal.returns-in-Err-clause-runs
returns-in-Err-clause-runs g c = λ keeper. c.in-Err.ensures (g.K.Sink.state c.args.out.now) keeper

pub report_all-requires-clause-text : goal.report_all-requires-clause-text
report_all-requires-clause-text g c κs within =
    let prepared = c.in-Ok.ensures.prepared in
    record {
      key = c.in-Ok.ensures.setting.key;
      have_key = same_key _ _ _ c.in-Ok.plans.items c.in-Ok.ensures;
      permitted = c.requires.text c.in-Ok.ensures.setting prepared.bytes _ prepared.input prepared.judged_so;
    }
