use Rattle.audit_io.proofs.Calls.{done_stop, file_done}
use Rattle.audit_io.proofs.slot_files.save_file.Goals as goal

pub returns-in-Ok-clause-done : goal.returns-in-Ok-clause-done
returns-in-Ok-clause-done g c = file_done _ _ _ _ _ c.in-Ok.is_new _ _ _ c.in-Ok.ensures c.keeps_names.ensures c.fill_file.ensures.done

pub returns-in-Err-clause-done : goal.returns-in-Err-clause-done
returns-in-Err-clause-done g c = (c.in-Err.ensures.0, done_stop _ _ _ _ c.in-Err.ensures.1)
