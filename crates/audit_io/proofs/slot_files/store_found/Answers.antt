use Rattle.std.proofs.Common.{[], ◌∷◌, true, false, Some, refl, sym, ap, ◌∙◌}
use Rattle.std_io.specs.declared.io.kind.ErrorKind.{ErrorKind}
use Rattle.audit_io.specs.FileCalls.{is_not_found, opened, step}
use Rattle.audit_io.proofs.Calls.{done_stop, found_done, one_done}
use Rattle.audit_io.proofs.slot_files.store_found.Goals as goal

pub returns-in-Ok : goal.returns-in-Ok
returns-in-Ok g c = found_done _ _ _ _ _ _ c.in-Ok.ensures c.folder_after.ensures

pub returns-in-NotFound : goal.returns-in-NotFound
returns-in-NotFound g c =
    (true, one_done _ _ _ _ _ true c.in-Err.ensures refl (ap (λ (k : ErrorKind). is_not_found (Some k)) (sym c.kind.ensures ∙ c.in-NotFound.is)))

pub returns-in_default : goal.returns-in_default
returns-in_default g c = (false, done_stop _ _ (step (opened _) ∷ []) _ (one_done _ _ _ _ _ false c.in-Err.ensures refl refl))
