use Rattle.std.proofs.Common.{◌∙◌}
use Rattle.report.proofs.note.graph.region_line.Goals as goal

pub returns-in-Missing : goal.returns-in-Missing
returns-in-Missing c = c.label_line.ensures ∙ rw c.in-Missing.is

pub returns-in-BadLabel : goal.returns-in-BadLabel
returns-in-BadLabel c = c.label_line-in-BadLabel.ensures ∙ rw c.in-BadLabel.is

pub returns-in-TooMany : goal.returns-in-TooMany
returns-in-TooMany c = c.count_line.ensures ∙ rw c.in-TooMany.is

pub returns-in-Memory : goal.returns-in-Memory
returns-in-Memory c = c.text_line.ensures ∙ rw c.in-Memory.is
