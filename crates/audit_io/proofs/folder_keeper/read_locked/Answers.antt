use Rattle.std.proofs.Common.{◌∙◌}
use Rattle.audit_io.proofs.Keeping.{locked_asked, locked_failed}
use Rattle.audit_io.proofs.folder_keeper.read_locked.Goals as goal

pub returns-in-Ok-lock-clause-done : goal.returns-in-Ok-lock-clause-done
returns-in-Ok-lock-clause-done g c = locked_asked _ _ _ _ _ _ _ _ _ _ _ (c.as_str.ensures ∙ c.in-Ok.ensures) c.in-Ok-lock.ensures c.read_slot.ensures.done

pub returns-in-Ok-clause-done : goal.returns-in-Ok-clause-done
returns-in-Ok-clause-done g c =
    locked_failed _ _ _ _ _ _ _ _ _ _ _ (c.as_str.ensures ∙ c.in-Ok.ensures) c.in-Err-lock.ensures c.refuse.ensures.why c.load_error.ensures
