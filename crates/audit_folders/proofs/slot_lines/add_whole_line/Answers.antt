use Rattle.audit_folders.proofs.Texts.{adds_as}
use Rattle.report.proofs.Letting.{next_as}
use Rattle.audit_folders.proofs.slot_lines.add_whole_line.Goals as goal

pub returns : goal.returns
returns g c = adds_as c.add_line.ensures (rw (c.from.ensures, c.from-2.ensures, c.from-3.ensures, c.len.ensures))

pub add_line-requires : goal.add_line-requires
add_line-requires g c = next_as c.requires (rw (c.from.ensures, c.from-2.ensures, c.from-3.ensures, c.len.ensures))
