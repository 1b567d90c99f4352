use Rattle.std.proofs.Common.{[], ◌∷◌, refl}
use Rattle.audit_io.specs.FileCalls.{here, opened, step}
use Rattle.audit_io.proofs.Calls.{done_stop, folder_done, one_done}
use Rattle.audit_io.proofs.slot_files.store_folder.Goals as goal

pub returns-in-Ok : goal.returns-in-Ok
returns-in-Ok g c = folder_done _ _ _ _ c.in-Ok.ensures c.accept_unsupported.ensures

pub returns-in-Err : goal.returns-in-Err
returns-in-Err g c = done_stop _ _ (step (opened here) ∷ []) _ (one_done _ _ _ _ _ _ c.in-Err.ensures refl refl)
