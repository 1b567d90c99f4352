use Rattle.report.proofs.NoteLines.{fails_after}
use Rattle.report.proofs.Letting.{next_lets}
use Rattle.report.proofs.note.output.add.Goals as goal

pub returns-in-Err : goal.returns-in-Err
returns-in-Err g c = λ start text_so_far s. fails_after start _ _ text_so_far c.args.piece.now c.args.going c.if-not-going.false c.in-Err.ensures.0 c.in-Err.ensures.1 s

pub write_all-requires : goal.write_all-requires
write_all-requires g c = next_lets c.args.going c.if-not-going.false c.requires
