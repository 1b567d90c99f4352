use Rattle.std.proofs.Common.{◌∙◌}
use Rattle.report.proofs.note.graph.label_line.Goals as goal

pub returns : goal.returns
returns c = c.line_of.ensures ∙ rw (c.from.ensures, c.as_str.ensures)
