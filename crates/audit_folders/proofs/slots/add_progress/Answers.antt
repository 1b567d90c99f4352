use Rattle.audit_folders.proofs.Texts.{adds_as}
use Rattle.report.proofs.Letting.{next_as}
use Rattle.audit_folders.proofs.slots.add_progress.Goals as goal

pub returns-in-Some : goal.returns-in-Some
returns-in-Some g c = adds_as c.add_progress_line.ensures (rw c.in-Some.is)

pub add_progress_line-requires : goal.add_progress_line-requires
add_progress_line-requires g c = next_as c.requires (rw c.in-Some.is)
