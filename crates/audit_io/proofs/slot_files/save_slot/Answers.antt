use Rattle.std.proofs.Common.{refl}
use Rattle.audit_io.specs.Looks.{save_done, save_no_look, save_no_place}
use Rattle.audit_io.proofs.slot_files.save_slot.Goals as goal

pub returns-in-Ok-is_unstored-clause-done : goal.returns-in-Ok-is_unstored-clause-done
returns-in-Ok-is_unstored-clause-done g c = save_done _ _ _ c.in-Ok.ensures c.in-Ok-is_unstored.ensures c.save_by.ensures.stored c.save_by.ensures.done

pub returns-in-Err-is_unstored-clause-done : goal.returns-in-Err-is_unstored-clause-done
returns-in-Err-is_unstored-clause-done g c = save_no_look _ c.in-Ok.ensures c.in-Err-is_unstored.ensures refl refl

pub returns-in-Err-clause-done : goal.returns-in-Err-clause-done
returns-in-Err-clause-done g c = save_no_place c.in-Err.ensures refl refl
