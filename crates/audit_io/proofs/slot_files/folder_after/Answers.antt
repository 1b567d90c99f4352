use Rattle.audit_io.proofs.Calls.{after_err, after_ok}
use Rattle.audit_io.proofs.slot_files.folder_after.Goals as goal

pub returns-in-Ok : goal.returns-in-Ok
returns-in-Ok g c = after_ok _ _ _ _ _ c.in-Ok.is c.store_folder.ensures

pub returns-in-Err : goal.returns-in-Err
returns-in-Err g c = after_err _ _ _ c.in-Err.is
