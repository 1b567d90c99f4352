use Rattle.audit_io.proofs.Keeping.{read_same}
use Rattle.audit_io.proofs.folder_keeper.FolderKeeperKeeper.load.Goals as goal

pub returns-clause-done : goal.returns-clause-done
returns-clause-done g c = read_same _ _ _ _ _ _ _ _ _ _ c.count.ensures.same c.read_folder-loaded.ensures.done
