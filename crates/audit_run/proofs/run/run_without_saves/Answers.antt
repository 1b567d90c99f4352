use Rattle.std.proofs.Common.{List, sym, subst}
use Rattle.audit_model.specs.declared.outcome.Outcome.{Outcome}
use Rattle.report.specs.declared.ended.Ended.{Ended}
use Rattle.audit_statement.specs.Endings.{AreInitialOutcomes}
use Rattle.audit_laws.specs.Calls.{Finishes}
use Rattle.audit_statement.specs.DueText.{LetsReport}
use Rattle.audit_run.proofs.run.run_without_saves.Goals as goal

pub returns-in-Ok-clause-finishes : goal.returns-in-Ok-clause-finishes
returns-in-Ok-clause-finishes g c = λ k opened.
    let job = c.args.job.now in
    let out = g.K.Sink.state c.args.out.now in
    let later = g.K.Sink.state c.run_unsaved.new.out in
    subst (λ (why : Ended). Finishes job out later k k why) (sym c.ended.ensures.ended)
    (c.run_unsaved.ensures k (subst (λ (os : List Outcome). AreInitialOutcomes job k.slots os) (sym c.in-Ok.ensures.outcomes) opened))

pub run_unsaved-requires-clause-resources : goal.run_unsaved-requires-clause-resources
run_unsaved-requires-clause-resources g c κs within = c.in-Ok.ensures.resources

pub run_unsaved-requires-clause-text : goal.run_unsaved-requires-clause-text
run_unsaved-requires-clause-text g c κs within =
    subst (λ (os : List Outcome). LetsReport g.K.Sink.lets c.args.job.now (g.K.Sink.state c.args.out.now) os) (sym c.in-Ok.ensures.outcomes) c.requires.text

pub returns-in-Ok-clause-memory : goal.returns-in-Ok-clause-memory
returns-in-Ok-clause-memory g c = λ is. absurd (c.ended.ensures.other is)
