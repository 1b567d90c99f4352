use Rattle.std.proofs.Common.{◌<◌, ◌≤◌, ◌∙◌, sym, ap, subst, arith}
use Rattle.audit_model.specs.Run.{total}
use Rattle.report.specs.Outcomes.{reported}
use Rattle.audit_laws.specs.Calls.{Finishes}
use Rattle.plan_runs.specs.declared.ending.Finished.{Finished}
use Rattle.plan_runs.specs.Ending.{ended_as, stopped_by}
use Rattle.plan_runs.specs.Found.{listed_in}
use Rattle.plan_runs.proofs.Finished.{short_ends, written_ends}
use Rattle.plan_runs.proofs.Reporting.{length-listed}
use Rattle.report.proofs.Letting.{lets_as}
use Rattle.plan_runs.proofs.ending.end_run.Goals as goal

pub text_of-text-requires-clause-whole : goal.text_of-text-requires-clause-whole
text_of-text-requires-clause-whole g c = omega (arith, c.if-found-due.false, c.count_reported-due.ensures)

pub returns-then-found-due : goal.returns-then-found-due
returns-then-found-due g c = λ initial_outcomes before after opened has saved.
    let job = c.args.job.now in
    let short : c.args.found.listed < reported job = omega (arith, c.if-found-due.true, c.count_reported-due.ensures) in
    let left = has.short short in
    let long = length-listed c.args.found has.reportable.enough in
    let is = c.stop.ensures ∙ ap (λ n. stopped_by c.args.found.listed n c.args.saved) (c.count_reported-due.ensures ∙ left.due) ∙ ap (λ n. stopped_by n (total job) c.args.saved) (sym long) in
    let out = g.K.Sink.state c.args.out.now in
    subst (λ (how : Finished). Finishes job out out before after (ended_as how)) (sym is)
    (short_ends job c.requires.reportable.run initial_outcomes (listed_in c.args.found) left.all out before after opened (omega (arith, short, long, left.due)) c.args.saved saved)

pub returns : goal.returns
returns g c = λ initial_outcomes before after opened has saved.
    let job = c.args.job.now in
    let whole : reported job ≤ c.args.found.listed = omega (arith, c.if-found-due.false, c.count_reported-due.ensures) in
    let all = has.whole whole in
    let text = c.as_slice.ensures ∙ c.text_of-text.ensures ∙ all.same in
    let out = g.K.Sink.state c.args.out.now in
    let later = g.K.Sink.state c.write_all-written.new.out in
    subst (λ (how : Finished). Finishes job out later before after (ended_as how)) (sym c.end.ensures)
    (written_ends job c.requires.reportable.run initial_outcomes all.outcomes all.all out later before after opened c.as_slice.result.now c.write_all-written.result c.args.saved
    all.whole text c.write_all-written.ensures saved)

pub write_all-written-requires : goal.write_all-written-requires
write_all-written-requires g c =
    lets_as (c.requires.text (omega (arith, c.if-found-due.false, c.count_reported-due.ensures))) (sym (c.as_slice.ensures ∙ c.text_of-text.ensures))
