use Rattle.std.proofs.Common.{[], ◌∷◌, refl}
use Rattle.audit_io.specs.FileCalls.{step, stored_made, wrote}
use Rattle.audit_io.proofs.Calls.{done_stop, done_then, ok_error, one_done}
use Rattle.audit_io.proofs.slot_files.write_file.Goals as goal

pub returns-in-Ok : goal.returns-in-Ok
returns-in-Ok g c =
    done_then _ _ _ (step (wrote _) ∷ []) (step stored_made ∷ []) _ (one_done _ _ _ _ _ _ c.in-Ok.ensures refl refl)
    (one_done _ _ _ _ _ _ c.store_made.ensures refl (ok_error c.store_made.result))

pub returns-in-Err : goal.returns-in-Err
returns-in-Err g c = done_stop _ _ (step (wrote _) ∷ []) _ (one_done _ _ _ _ _ _ c.in-Err.ensures refl refl)
