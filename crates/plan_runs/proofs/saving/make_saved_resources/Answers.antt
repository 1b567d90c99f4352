use Rattle.std.proofs.Common.{◌∙◌, ap, sym, subst}
use Rattle.audit_model.specs.declared.setting.Setting.{Setting}
use Rattle.plan_runs.specs.RunBuffers.{AreBuffersFor}
use Rattle.plan_runs.proofs.saving.make_saved_resources.Goals as goal

pub returns-in-Ok-new-clause-resources : goal.returns-in-Ok-new-clause-resources
returns-in-Ok-new-clause-resources g c =
    let first = c.in-Ok-new.ensures.state in
    let buffers = c.in-Ok-make_buffers in
    record {
      buffers = subst (AreBuffersFor c.args.job.now) (λ i. record {
        book = sym first.book_is i;
        todo = buffers.buffers.todo;
        sorted = sym first.sorted_is i;
        text = buffers.buffers.text;
      }) buffers.ensures.buffers;
      every = first.every_is ∙ ap (λ (s : Setting). s.save_every) c.setting.ensures.value;
      save_room = first.save_room;
      pool = c.in-Ok.ensures.pool;
      tester = c.in-Ok.ensures.tester;
    }
