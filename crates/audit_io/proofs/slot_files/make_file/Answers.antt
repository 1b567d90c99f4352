use Rattle.std.proofs.Common.{[], ◌∷◌, true, false, Some, refl, sym, ap, ◌∙◌}
use Rattle.std_io.specs.declared.io.kind.ErrorKind.{ErrorKind}
use Rattle.audit_io.specs.FileCalls.{emptied, is_there, made, step}
use Rattle.audit_io.proofs.Calls.{done_then, one_done}
use Rattle.audit_io.proofs.slot_files.make_file.Goals as goal

pub returns-in-Ok : goal.returns-in-Ok
returns-in-Ok g c = one_done _ _ _ _ _ _ c.in-Ok.ensures refl refl

pub returns-in-Ok-empty : goal.returns-in-Ok-empty
returns-in-Ok-empty g c =
    done_then _ _ _ (record { what = made _; goes_on = is_there } ∷ []) (step (emptied _) ∷ []) true
    (one_done _ _ _ _ _ _ c.in-Err.ensures refl (ap (λ (k : ErrorKind). is_there (Some k)) (sym c.kind.ensures ∙ c.in-AlreadyExists.is)))
    (one_done _ _ _ _ _ _ c.in-Ok-empty.ensures refl refl)

pub returns-in-Err-empty : goal.returns-in-Err-empty
returns-in-Err-empty g c = (
  false,
  done_then _ _ _ (record { what = made _; goes_on = is_there } ∷ []) (step (emptied _) ∷ []) false
      (one_done _ _ _ _ _ _ c.in-Err.ensures refl (ap (λ (k : ErrorKind). is_there (Some k)) (sym c.kind.ensures ∙ c.in-AlreadyExists.is)))
      (one_done _ _ _ _ _ _ c.in-Err-empty.ensures refl refl),
)

pub returns-in_default : goal.returns-in_default
returns-in_default g c = (true, one_done _ _ _ _ _ _ c.in-Err.ensures refl refl)
