use Rattle.std.proofs.Common.{◌∙◌, List, sym, subst}
use Rattle.audit_model.specs.declared.outcome.Outcome.{Outcome}
use Rattle.audit_start.specs.declared.resume_state.SaveTarget.{SaveTarget}
use Rattle.audit_start.specs.ResumeState.{IsTargetFor}
use Rattle.audit_statement.specs.Due.{LetsSavesOf}
use Rattle.audit_statement.specs.Endings.{AreInitialOutcomes}
use Rattle.plan_runs.specs.RunBuffers.{IsStartOf}
use Rattle.audit_laws.specs.Calls.{Finishes}
use Rattle.audit_run.proofs.Placing.{no_target_observed, starts_so, target_observed}
use Rattle.audit_statement.specs.DueText.{LetsReport}
use Rattle.audit_run.proofs.run.run_with_judges.Goals as goal

pub run_without_saves-requires-clause-unsaved : goal.run_without_saves-requires-clause-unsaved
run_without_saves-requires-clause-unsaved g c κs within = no_target_observed _ _ _ _ c.in-None.is c.requires.opened.target

pub run_without_saves-requires-clause-start : goal.run_without_saves-requires-clause-start
run_without_saves-requires-clause-start g c κs within = subst (IsStartOf c.args.job.now) (sym c.as_slice.ensures) (starts_so c.args.job.now _ c.args.resume_state c.requires.opened)

pub make_saved_resources-requires-clause-start : goal.make_saved_resources-requires-clause-start
make_saved_resources-requires-clause-start g c = subst (IsStartOf c.args.job.now) (sym c.as_slice-in-Some.ensures) (starts_so c.args.job.now _ c.args.resume_state c.requires.opened)

pub run_saved-requires-clause-saved : goal.run_saved-requires-clause-saved
run_saved-requires-clause-saved g c κs within = (target_observed _ _ _ _ c.in-Some.target c.in-Some.is c.requires.opened.target).0

pub run_saved-requires-clause-placed : goal.run_saved-requires-clause-placed
run_saved-requires-clause-placed g c κs within =
    let made = c.in-Ok.ensures in
    subst (λ (x : g.row.C.Denot × SaveTarget). IsTargetFor c.args.job.now (g.C.Keeper.state x.0).slots x.1) (λ i. (sym made.keeper i, sym made.target i))
    (target_observed _ _ _ _ c.in-Some.target c.in-Some.is c.requires.opened.target).1

pub run_saved-requires-clause-opened : goal.run_saved-requires-clause-opened
run_saved-requires-clause-opened g c κs within =
    let made = c.in-Ok.ensures in
    subst (λ (x : g.row.C.Denot × List Outcome). AreInitialOutcomes c.args.job.now (g.C.Keeper.state x.0).slots x.1)
    (λ i. (sym made.keeper i, sym (made.outcomes ∙ c.as_slice-in-Some.ensures) i)) c.requires.opened.opened

pub run_saved-requires-clause-resources : goal.run_saved-requires-clause-resources
run_saved-requires-clause-resources g c κs within = c.in-Ok.ensures.resources

pub run_saved-requires-clause-lets : goal.run_saved-requires-clause-lets
run_saved-requires-clause-lets g c κs within =
    subst (λ (x : g.row.C.Denot). LetsSavesOf g.C.Keeper.lets c.args.job.now (g.C.Keeper.state x)) (sym c.in-Ok.ensures.keeper) c.requires.lets

pub returns-in-None-clause-finishes : goal.returns-in-None-clause-finishes
returns-in-None-clause-finishes g c =
    c.run_without_saves.ensures.finishes _ (subst (λ (os : List Outcome). AreInitialOutcomes c.args.job.now (g.C.Keeper.state c.args.keeper).slots os) (sym c.as_slice.ensures) c.requires.opened.opened)

pub returns-in-Ok-clause-finishes : goal.returns-in-Ok-clause-finishes
returns-in-Ok-clause-finishes g c =
    let before = g.K.Sink.state c.args.out.now in
    let after = g.K.Sink.state c.run_saved.new.out in
    let end = c.run_saved.result in
    subst (λ (x : g.row.C.Denot). Finishes c.args.job.now before after (g.C.Keeper.state x) (g.C.Keeper.state end.1) end.0) c.in-Ok.ensures.keeper c.run_saved.ensures.finishes

pub run_without_saves-requires-clause-text : goal.run_without_saves-requires-clause-text
run_without_saves-requires-clause-text g c κs within =
    subst (λ (os : List Outcome). LetsReport g.K.Sink.lets c.args.job.now (g.K.Sink.state c.args.out.now) os) (sym c.as_slice.ensures) (c.requires.text _ c.requires.opened.opened)

pub run_saved-requires-clause-text : goal.run_saved-requires-clause-text
run_saved-requires-clause-text g c κs within =
    subst (λ (os : List Outcome). LetsReport g.K.Sink.lets c.args.job.now (g.K.Sink.state c.args.out.now) os) (sym (c.in-Ok.ensures.outcomes ∙ c.as_slice-in-Some.ensures))
    (c.requires.text _ c.requires.opened.opened)
