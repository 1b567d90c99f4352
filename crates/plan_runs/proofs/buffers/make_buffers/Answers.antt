use Rattle.std.proofs.Common.{◌∙◌, ap, sym, subst, arith}
use Rattle.audit_model.specs.declared.setting.Setting.{Setting}
use Rattle.audit_model.specs.Run.{run_ids}
use Rattle.plan_runs.specs.RunBuffers.{IsStartOf}
use Rattle.plan_runs.proofs.buffers.make_buffers.Goals as goal

pub returns-clause-buffers : goal.returns-clause-buffers
returns-clause-buffers c = record {
  total_is = c.in_ok-book.ensures.total;
  start = subst (IsStartOf c.args.job.now) (sym c.in_ok-book.ensures.outcomes) c.requires;
  ids = c.in_ok-todo.ensures.ids ∙ ap (λ (s : Setting). run_ids c.args.job.now c.in_ok-book.book.outcomes s.budget) c.setting.ensures.value;
  todo = c.in_ok-todo.ensures.todo;
  room = omega (arith, c.in_ok-book.ensures.total, c.total.ensures.value, c.in_ok-sorted.ensures.spare);
  blank = c.in_ok-reserve.ensures.bytes ∙ c.new-text.ensures;
  report_room = c.in_ok-reserve.ensures.room;
}
