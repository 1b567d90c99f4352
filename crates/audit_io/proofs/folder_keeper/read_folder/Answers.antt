use Rattle.audit_io.specs.Keepers.{folder_unlocked}
use Rattle.audit_io.proofs.Keeping.{another, working}
use Rattle.audit_io.proofs.folder_keeper.read_folder.Goals as goal

pub returns-then-not-place-clause-done : goal.returns-then-not-place-clause-done
returns-then-not-place-clause-done g c = folder_unlocked c.if-not-place.true c.read_slot.ensures.done

pub returns-then-is_working_folder-clause-done : goal.returns-then-is_working_folder-clause-done
returns-then-is_working_folder-clause-done g c = working _ _ _ _ _ _ _ _ _ _ _ c.if-not-place.false c.if-is_working_folder.true c.is_working_folder.ensures c.read_slot-then-is_working_folder.ensures.done

pub returns-clause-done : goal.returns-clause-done
returns-clause-done g c = another _ _ _ _ _ _ _ _ _ _ _ c.if-not-place.false c.if-is_working_folder.false c.is_working_folder.ensures c.read_locked.ensures.done
