use Rattle.std.proofs.Common.{sym, subst}
use Rattle.audit_start.specs.ResumeState.{IsOpened}
use Rattle.audit_model.specs.State.{KeeperState}
use Rattle.audit_statement.specs.Due.{LetsSavesOf}
use Rattle.audit_run.proofs.Placing.{goes_on}
use Rattle.audit_statement.specs.DueText.{LetsReportFrom}
use Rattle.audit_run.proofs.run.run_job.Goals as goal

pub run_with_cut_limit-requires-clause-opened : goal.run_with_cut_limit-requires-clause-opened
run_with_cut_limit-requires-clause-opened g c κs within =
    subst (λ (k : KeeperState). IsOpened c.args.job.now k.slots c.in-Ok.resume_state) (sym c.in-Ok.ensures.same) c.in-Ok.ensures.opened

pub run_with_cut_limit-requires-clause-lets : goal.run_with_cut_limit-requires-clause-lets
run_with_cut_limit-requires-clause-lets g c κs within = subst (LetsSavesOf g.C.Keeper.lets c.args.job.now) (sym c.in-Ok.ensures.same) c.requires.lets

pub run_with_all_rules-requires-clause-opened : goal.run_with_all_rules-requires-clause-opened
run_with_all_rules-requires-clause-opened g c κs within =
    subst (λ (k : KeeperState). IsOpened c.args.job.now k.slots c.in-Ok.resume_state) (sym c.in-Ok.ensures.same) c.in-Ok.ensures.opened

pub run_with_all_rules-requires-clause-lets : goal.run_with_all_rules-requires-clause-lets
run_with_all_rules-requires-clause-lets g c κs within = subst (LetsSavesOf g.C.Keeper.lets c.args.job.now) (sym c.in-Ok.ensures.same) c.requires.lets

pub returns-then-len-eq0-2-clause-finishes : goal.returns-then-len-eq0-2-clause-finishes
returns-then-len-eq0-2-clause-finishes g c = goes_on c.args.job.now _ _ _ _ _ _ c.in-Ok.ensures.same c.run_with_cut_limit.ensures.finishes

pub returns-else-len-eq0-clause-finishes : goal.returns-else-len-eq0-clause-finishes
returns-else-len-eq0-clause-finishes g c = goes_on c.args.job.now _ _ _ _ _ _ c.in-Ok.ensures.same c.run_with_all_rules.ensures.finishes

pub run_with_cut_limit-requires-clause-text : goal.run_with_cut_limit-requires-clause-text
run_with_cut_limit-requires-clause-text g c κs within =
    subst (λ (k : KeeperState). LetsReportFrom g.K.Sink.lets c.args.job.now (g.K.Sink.state c.args.out.now) k.slots) (sym c.in-Ok.ensures.same) c.requires.text

pub run_with_all_rules-requires-clause-text : goal.run_with_all_rules-requires-clause-text
run_with_all_rules-requires-clause-text g c κs within =
    subst (λ (k : KeeperState). LetsReportFrom g.K.Sink.lets c.args.job.now (g.K.Sink.state c.args.out.now) k.slots) (sym c.in-Ok.ensures.same) c.requires.text
