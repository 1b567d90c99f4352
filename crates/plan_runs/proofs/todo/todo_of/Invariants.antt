use Rattle.std.proofs.Common.{◌≡◌, ◌&&◌, not, take}
use Rattle.audit_model.specs.Below.{filter_below}
use Rattle.audit_model.specs.Run.{has_id, is_in_part}
use Rattle.plan_runs.proofs.todo.todo_of.Given as goal

abbrev pub invariant-loop-id : goal.invariant-loop-id
invariant-loop-id l =
    l.ids ≡ take l.budget (filter_below l.id (λ id. not (has_id l.book.outcomes id) && is_in_part l.job.setting.parts l.job.setting.part id))
