use Rattle.std.proofs.Common.{refl}
use Rattle.audit_io.specs.Keepers.{keep_unlocked}
use Rattle.audit_io.proofs.Keeping.{kept}
use Rattle.audit_io.proofs.file_keeper.keep.Goals as goal

pub returns-in-Ok-clause-done : goal.returns-in-Ok-clause-done
returns-in-Ok-clause-done g c = kept _ _ _ _ _ _ _ _ _ _ _ _ _ c.is_ok.ensures.value c.in-Ok.ensures.done c.save_slot.ensures.done

pub returns-in-Err-clause-done : goal.returns-in-Err-clause-done
returns-in-Err-clause-done g c = keep_unlocked _ c.in-Err.ensures.done refl refl
