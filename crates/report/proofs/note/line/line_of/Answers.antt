use Rattle.std.proofs.Common.{length, refl}
use Rattle.report.proofs.NoteLines.{dropped_say_nothing, filled_line}
use Rattle.report.proofs.note.line.line_of.Goals as goal

pub returns : goal.returns
returns c = filled_line c.args.pieces.now c.copy_from_slice.new.self _ c.copy_from_slice.ensures.after (dropped_say_nothing _ (length c.args.pieces.now) 8 refl)
