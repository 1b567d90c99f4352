use Rattle.std.proofs.Common.{[]}
use Rattle.report.proofs.NoteLines.{text_adds, said_nothing}
use Rattle.report.proofs.Letting.{next_begins}
use Rattle.report.proofs.note.output.write_note.Goals as goal

pub returns : goal.returns
returns g c = text_adds _ _ _ _ (c.add_line-ended.ensures.adds _ [] (said_nothing _))

pub add_line-ended-requires : goal.add_line-ended-requires
add_line-ended-requires g c = next_begins c.requires
