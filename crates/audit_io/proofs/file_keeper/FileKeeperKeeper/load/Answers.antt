use Rattle.audit_io.proofs.Keeping.{loaded_same}
use Rattle.audit_io.proofs.file_keeper.FileKeeperKeeper.load.Goals as goal

pub returns-clause-done : goal.returns-clause-done
returns-clause-done g c = loaded_same _ _ _ _ _ _ _ _ _ _ _ c.count.ensures.same c.load_by-loaded.ensures.done
