use Rattle.std.proofs.Common.{◌∙◌, eq-eqb, ne_eqb}
use Rattle.report.proofs.NoteLines.{names_half, names_share}
use Rattle.report.proofs.note.plan.majorities_line.Goals as goal

pub returns-then-share-eq5000 : goal.returns-then-share-eq5000
returns-then-share-eq5000 c =
    c.line_of.ensures
    ∙ rw (c.from.ensures, c.from-then-share-eq5000.ensures) (names_half c.args.districts c.args.least c.args.share (eq-eqb c.args.share 5000 c.if-share-eq5000.true))

pub returns : goal.returns
returns c =
    c.line_of-2.ensures
    ∙ rw (c.from-2.ensures, c.from-3.ensures, c.from-4.ensures) (names_share c.args.districts c.args.least c.args.share (ne_eqb c.args.share 5000 c.if-share-eq5000.false))
