use Rattle.audit_folders.proofs.Texts.{adds_as}
use Rattle.report.proofs.Letting.{next_as}
use Rattle.audit_folders.proofs.slot_lines.add_newest_line.Goals as goal

pub returns-in-None : goal.returns-in-None
returns-in-None g c = adds_as c.add_line.ensures (rw c.in-None.is)

pub returns-in-Some : goal.returns-in-Some
returns-in-Some g c = adds_as c.add_line-in-Some.ensures (rw (c.in-Some.is, c.from.ensures))

pub add_line-requires : goal.add_line-requires
add_line-requires g c = next_as c.requires (rw c.in-None.is)

pub add_line-requires-in-Some : goal.add_line-requires-in-Some
add_line-requires-in-Some g c = next_as c.requires (rw (c.in-Some.is, c.from.ensures))
