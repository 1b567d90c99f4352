use Rattle.audit_io.proofs.Looking.{compared}
use Rattle.audit_io.proofs.looks.are_one.Goals as goal

pub returns : goal.returns
returns g c = compared _ _ _ _ _ _ _ _ c.name_of.ensures c.name_of-2.ensures c.plain_file-first.ensures c.plain_file-second.ensures c.are_same.ensures
