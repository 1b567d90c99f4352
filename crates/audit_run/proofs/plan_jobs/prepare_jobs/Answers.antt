use Rattle.std.proofs.Common.{sym, subst}
use Rattle.audit_run.specs.Stages.{PlansRefused}
use Rattle.audit_run.proofs.Preparing.{at_its_end, read_refused}
use Rattle.audit_run.proofs.plan_jobs.prepare_jobs.Goals as goal

pub judge_plans-requires-clause-few : goal.judge_plans-requires-clause-few
judge_plans-requires-clause-few g c = rw c.as_slice.ensures c.in-Ok.ensures.few

pub returns-in-Ok : goal.returns-in-Ok
returns-in-Ok g c =
    at_its_end c.args.setting (g.S.Source.state c.args.source.now) (g.S.Source.state c.read_source.new.source) c.judge_plans.result c.in-Ok.ensures.at_end
    (c.judge_plans.ensures (g.S.Source.state c.args.source.now) (g.S.Source.state c.read_source.new.source) (rw c.as_slice.ensures c.in-Ok.ensures.given) c.in-Ok.ensures.faults)

pub returns-in-Err : goal.returns-in-Err
returns-in-Err g c = subst (PlansRefused c.args.setting (g.S.Source.state c.args.source.now) (g.S.Source.state c.read_source.new.source)) (sym c.read_end.ensures) (read_refused c.args.setting (g.S.Source.state c.args.source.now) (g.S.Source.state c.read_source.new.source) c.in-Err.end c.in-Err.ensures)
