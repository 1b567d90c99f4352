use Rattle.std.proofs.Common.{Ok, refl, sym, subst}
use Rattle.plan_runs.specs.Ending.{SavedBy}
use Rattle.plan_runs.proofs.Permitted.{report_permitted}
use Rattle.plan_runs.proofs.walking.run_unsaved.Goals as goal

pub end_run-requires-clause-reportable : goal.end_run-requires-clause-reportable
end_run-requires-clause-reportable g c = c.walk-found.ensures.reportable

pub returns : goal.returns
returns g c = λ k opened.
    let initial_outcomes = c.args.resources.buffers.book.outcomes in
    c.end_run.ensures initial_outcomes k k opened c.walk-found.ensures (subst (λ b. SavedBy b c.args.job.now initial_outcomes k k (Ok tt)) (sym c.requires.unsaved) (refl, refl))

pub end_run-requires-clause-text : goal.end_run-requires-clause-text
end_run-requires-clause-text g c = report_permitted c.args.job.now c.args.resources.buffers.book.outcomes c.walk-found.result (g.K.Sink.state c.args.out.now) c.requires.text c.walk-found.ensures
