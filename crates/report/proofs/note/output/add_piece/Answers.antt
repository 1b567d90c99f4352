use Rattle.report.proofs.note.output.add_piece.Goals as goal

pub returns-in-Text : goal.returns-in-Text
returns-in-Text g c = λ start text_so_far s. rw (c.in-Text.is, ← c.as_bytes.ensures.value) (c.add.ensures start text_so_far s)

pub returns-in-Number : goal.returns-in-Number
returns-in-Number g c = λ start text_so_far s. rw (c.in-Number.is, ← c.format.ensures.text, ← c.as_bytes-in-Number.ensures.value) (c.add-in-Number.ensures start text_so_far s)

pub returns-in-Digest : goal.returns-in-Digest
returns-in-Digest g c = λ start text_so_far s. rw (c.in-Digest.is, ← c.digits_of.ensures) (c.add-in-Digest.ensures start text_so_far s)
