use Rattle.audit_folders.proofs.Texts.{adds_as}
use Rattle.report.proofs.Letting.{next_as}
use Rattle.audit_folders.proofs.slot_lines.add_slot_line.Goals as goal

pub returns-in-Absent : goal.returns-in-Absent
returns-in-Absent g c = adds_as c.add_line.ensures (rw (c.in-Absent.is, c.from.ensures))

pub returns-in-Broken : goal.returns-in-Broken
returns-in-Broken g c = adds_as c.add_line-in-Broken.ensures (rw (c.in-Broken.is, c.from-in-Broken.ensures, c.fault_name.ensures))

pub returns-in-Whole : goal.returns-in-Whole
returns-in-Whole g c = adds_as c.add_whole_line.ensures (rw c.in-Whole.is)

pub add_line-requires : goal.add_line-requires
add_line-requires g c = next_as c.requires (rw (c.in-Absent.is, c.from.ensures))

pub add_line-requires-in-Broken : goal.add_line-requires-in-Broken
add_line-requires-in-Broken g c = next_as c.requires (rw (c.in-Broken.is, c.from-in-Broken.ensures, c.fault_name.ensures))

pub add_whole_line-requires : goal.add_whole_line-requires
add_whole_line-requires g c = next_as c.requires (rw c.in-Whole.is)
