use Rattle.audit_folders.proofs.lines.added_pieces.Goals as goal

pub returns : goal.returns
returns c = rw (c.from.ensures, c.from-2.ensures, c.beside_of.ensures)
