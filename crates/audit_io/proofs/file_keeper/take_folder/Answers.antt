use Rattle.std.proofs.Common.{refl}
use Rattle.audit_io.specs.Keepers.{folder_locked, folder_own, folder_refused}
use Rattle.audit_io.proofs.file_keeper.take_folder.Goals as goal

pub returns-then-folder-clause-done : goal.returns-then-folder-clause-done
returns-then-folder-clause-done g c = folder_own c.if-folder.true refl refl refl

pub returns-in-Ok-clause-done : goal.returns-in-Ok-clause-done
returns-in-Ok-clause-done g c = folder_locked c.if-folder.false c.in-Ok.ensures refl

pub returns-in-Err-clause-done : goal.returns-in-Err-clause-done
returns-in-Err-clause-done g c = folder_refused _ c.if-folder.false c.in-Err.ensures refl refl
