use Rattle.audit_io.specs.Keepers.{load_done, load_unlocked}
use Rattle.audit_io.proofs.file_keeper.load_by.Goals as goal

pub returns-in-Ok-clause-done : goal.returns-in-Ok-clause-done
returns-in-Ok-clause-done g c = load_done _ _ c.in-Ok.ensures.done c.open_slot.ensures c.load_opened.ensures.done

pub returns-in-Err-clause-done : goal.returns-in-Err-clause-done
returns-in-Err-clause-done g c = load_unlocked _ c.in-Err.ensures.done c.refuse.ensures.why
