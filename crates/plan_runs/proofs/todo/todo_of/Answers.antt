use Rattle.std.proofs.Common.{◌≡◌, ◌∙◌, ◌&&◌, sym, ap, subst, not, take, arith}
use Rattle.audit_model.specs.Below.{filter_below}
use Rattle.audit_model.specs.Run.{total, has_id, is_in_part}
use Rattle.claim_counter.specs.Walks.{IsTodo}
use Rattle.audit_laws.proofs.Listing.{run_ids_fit}
use Rattle.plan_runs.proofs.todo.todo_of.Goals as goal

pub returns-clause-todo : goal.returns-clause-todo
returns-clause-todo c =
    let kept = c.args.book.now.outcomes in
    let s = c.args.job.now.setting in
    let whole = c.total-total.ensures.value in
    let at : c.loop-id.id ≡ total c.args.job.now = omega (arith, whole, c.loop-id-test.false, c.loop-id.auto.id-end) in
    subst (IsTodo c.args.job.now kept)
    (sym (c.loop-id.invariant ∙ ap (λ n. take c.args.budget (filter_below n (λ id. not (has_id kept id) && is_in_part s.parts s.part id))) at))
    (run_ids_fit c.args.job.now kept c.args.budget)
