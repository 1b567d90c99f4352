use Rattle.std.proofs.Common.{◌∙◌, None, sym}
use Rattle.audit_model.specs.State.{KeeperState}
use Rattle.audit_run.proofs.Following.{keeps_promise}
use Rattle.audit_run.proofs.Preparing.{plans_end}
use Rattle.report.proofs.Letting.{lets_as}
use Rattle.audit_run.proofs.several.audit_plans.Goals as goal

pub run_plans-why-requires-clause-plans : goal.run_plans-why-requires-clause-plans
run_plans-why-requires-clause-plans g c κs within = c.requires.plans

pub returns-clause-kept : goal.returns-clause-kept
returns-clause-kept g c = λ keeper.
    keeps_promise _ _ _ _ _ _ (plans_end _ _ _ _ _ _ _ (c.run_plans-why.ensures.runs keeper) c.write_diagnostic-status.ensures.status c.write_diagnostic-status.ensures.observed)

pub write_diagnostic-status-requires : goal.write_diagnostic-status-requires
write_diagnostic-status-requires g c =
    let keeper : KeeperState = record { slots = None; attempted = None; load_faults = record { all = 0; taken = 0 }; save_faults = 0 } in
    let ran = c.run_plans-why.ensures.runs keeper in
    lets_as (c.requires.note keeper _ _ ran.cause ran.untouched) ran.line_is

pub returns-clause-memory : goal.returns-clause-memory
returns-clause-memory g c = λ is. c.run_plans-why.ensures.memory (sym c.write_diagnostic-status.ensures.status ∙ is)
