use Rattle.audit_io.proofs.Calls.{names_known, names_stored}
use Rattle.audit_io.proofs.slot_files.store_names.Goals as goal

pub returns-then-names-clause-done : goal.returns-then-names-clause-done
returns-then-names-clause-done g c = names_known _ _ c.if-names.true

pub returns-in-Ok-clause-done : goal.returns-in-Ok-clause-done
returns-in-Ok-clause-done g c = names_stored _ _ _ _ c.if-names.false c.in-Ok.ensures

pub returns-in-Err-clause-done : goal.returns-in-Err-clause-done
returns-in-Err-clause-done g c = names_stored _ _ _ _ c.if-names.false c.in-Err.ensures
