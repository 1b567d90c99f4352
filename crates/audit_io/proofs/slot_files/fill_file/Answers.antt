use Rattle.audit_io.proofs.Calls.{done_stop, done_then}
use Rattle.audit_io.proofs.slot_files.fill_file.Goals as goal

pub returns-in-Ok-clause-done : goal.returns-in-Ok-clause-done
returns-in-Ok-clause-done g c = done_then _ _ _ _ _ _ c.in-Ok.ensures c.store_names.ensures.done

pub returns-in-Err-clause-done : goal.returns-in-Err-clause-done
returns-in-Err-clause-done g c = done_stop _ _ _ _ c.in-Err.ensures
