use Rattle.audit_folders.proofs.Texts.{added_line, said_of}
use Rattle.audit_folders.proofs.gather_command.refuse.Goals as goal

pub returns-clause-observed : goal.returns-clause-observed
returns-clause-observed g c = added_line _ (said_of c.add_line-ended.ensures)
