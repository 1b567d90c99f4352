use Rattle.report.proofs.NoteLines.{adds_line}
use Rattle.report.proofs.note.checkpoint.write_damaged.Goals as goal

pub returns : goal.returns
returns g c = adds_line c.write_note.ensures (rw (c.slot_name.ensures, c.slot_name-2.ensures))
