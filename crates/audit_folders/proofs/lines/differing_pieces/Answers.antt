use Rattle.audit_folders.proofs.lines.differing_pieces.Goals as goal

pub returns : goal.returns
returns c = rw (c.from.ensures)
