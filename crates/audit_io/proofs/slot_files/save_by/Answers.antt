use Rattle.audit_io.proofs.Calls.{knows_stored, saved_done, saved_stop}
use Rattle.audit_io.proofs.slot_files.save_by.Goals as goal

pub returns-in-Ok-clause-done : goal.returns-in-Ok-clause-done
returns-in-Ok-clause-done g c = saved_done _ _ _ _ _ _ _ _ _ _ c.name_of.ensures c.name_of-in-Ok.ensures c.in-Ok.ensures c.save_file.ensures.done

pub returns-in-Err-clause-done : goal.returns-in-Err-clause-done
returns-in-Err-clause-done g c = saved_stop _ _ _ _ _ _ _ c.name_of.ensures c.in-Err.ensures

pub returns-in-Ok-clause-stored : goal.returns-in-Ok-clause-stored
returns-in-Ok-clause-stored g c = knows_stored _ _ _ _ _ _ _ _ _ _ _ _ c.name_of.ensures c.in-Ok.ensures c.save_file.ensures.done
