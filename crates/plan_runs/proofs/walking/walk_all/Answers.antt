use Rattle.std.proofs.Common.{◌∙◌, refl, sym, subst}
use Rattle.claim_counter.specs.Walks.{IsTodo, IsWithin}
use Rattle.audit_laws.proofs.Running.{are_all}
use Rattle.plan_runs.proofs.Reporting.{all_found}
use Rattle.plan_runs.proofs.walking.walk_all.Goals as goal

pub returns : goal.returns
returns g c =
    let job = c.args.job.now in
    let buffers = c.requires.buffers in
    let found = c.all.ensures in
    let all = are_all job buffers.start.run c.args.buffers.book.outcomes c.args.buffers.book.outcomes c.as_slice.result.now c.walk_run.new.out.items
    refl buffers.start.fit (c.as_slice.ensures ∙ buffers.ids) (subst (IsWithin job) (sym c.as_slice.ensures) buffers.todo.within)
    c.walk_run.ensures.full c.walk_run.ensures.all c.walk_run.ensures.rising in
    all_found job buffers.start.run c.requires.workers.plain c.args.buffers.book.outcomes c.all.result
    (rw found.sorted all)
    (rw found.sorted found.listed)
    found.observed
    (rw found.text buffers.blank)
    (rw found.text buffers.report_room)

pub walk_run-requires-clause-todo : goal.walk_run-requires-clause-todo
walk_run-requires-clause-todo g c κs within = record {
  ids = subst (IsTodo c.args.job.now c.args.buffers.book.outcomes) (sym c.as_slice.ensures) c.requires.buffers.todo;
  whole = c.requires.buffers.total_is;
}
