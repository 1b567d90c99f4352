use Rattle.std.proofs.Common.{sym, subst}
use Rattle.report.specs.declared.ended.Ended.{Ended}
use Rattle.audit_statement.specs.World.{world}
use Rattle.audit_words.specs.ArgumentBytes.{argument_bytes}
use Rattle.audit_run.specs.Stages.{PlansRunTo}
use Rattle.audit_run.proofs.Preparing.{prepared, words_run}
use Rattle.audit_run.proofs.plan_jobs.prepare_plans.Goals as goal

pub returns-in-Ok : goal.returns-in-Ok
returns-in-Ok g c = prepared (argument_bytes c.args.words.now) c.in-Ok.setting c.in-Ok.ensures.exact _ _ c.prepare_jobs.result c.prepare_jobs.ensures

pub returns-in-Err : goal.returns-in-Err
returns-in-Err g c = λ out keeper.
    let source = g.S.Source.state c.args.source.now in
    subst (λ (why : Ended). PlansRunTo (argument_bytes c.args.words.now) (world source out keeper) (world source out keeper) why) (sym c.word_end.ensures)
    (words_run (argument_bytes c.args.words.now) source c.in-Err.fault out keeper c.in-Err.ensures.exact)
