use Rattle.std.proofs.Common.{◌∙◌}
use Rattle.report.proofs.note.graph.graph_line.Goals as goal

pub returns-in-NotJson : goal.returns-in-NotJson
returns-in-NotJson c = c.text_line.ensures ∙ rw c.in-NotJson.is

pub returns-in-BadShape : goal.returns-in-BadShape
returns-in-BadShape c = c.words_line.ensures ∙ rw (c.in-BadShape.is, c.part_name.ensures)

pub returns-in-Directed : goal.returns-in-Directed
returns-in-Directed c = c.text_line-in-Directed.ensures ∙ rw c.in-Directed.is

pub returns-in-LengthsDiffer : goal.returns-in-LengthsDiffer
returns-in-LengthsDiffer c = c.counts_line.ensures ∙ rw c.in-LengthsDiffer.is

pub returns-in-TooManyUnits : goal.returns-in-TooManyUnits
returns-in-TooManyUnits c = c.count_line.ensures ∙ rw c.in-TooManyUnits.is

pub returns-in-BadId : goal.returns-in-BadId
returns-in-BadId c = c.node_line.ensures ∙ rw c.in-BadId.is

pub returns-in-SameId : goal.returns-in-SameId
returns-in-SameId c = c.two_line.ensures ∙ rw c.in-SameId.is

pub returns-in-BadNeighbour : goal.returns-in-BadNeighbour
returns-in-BadNeighbour c = c.neighbor_line.ensures ∙ rw c.in-BadNeighbour.is

pub returns-in-UnknownNeighbour : goal.returns-in-UnknownNeighbour
returns-in-UnknownNeighbour c = c.neighbor_line-in-UnknownNeighbour.ensures ∙ rw c.in-UnknownNeighbour.is

pub returns-in-TooManyEdges : goal.returns-in-TooManyEdges
returns-in-TooManyEdges c = c.count_line-in-TooManyEdges.ensures ∙ rw c.in-TooManyEdges.is

pub returns-in-Missing : goal.returns-in-Missing
returns-in-Missing c = c.column_line.ensures ∙ rw c.in-Missing.is

pub returns-in-BadNumber : goal.returns-in-BadNumber
returns-in-BadNumber c = c.column_line-in-BadNumber.ensures ∙ rw (c.in-BadNumber.is, c.no_value.ensures)

pub returns-in-BadLabel : goal.returns-in-BadLabel
returns-in-BadLabel c = c.node_line-in-BadLabel.ensures ∙ rw c.in-BadLabel.is

pub returns-in-DistrictCount : goal.returns-in-DistrictCount
returns-in-DistrictCount c = c.count_line-in-DistrictCount.ensures ∙ rw c.in-DistrictCount.is

pub returns-in-MissingLength : goal.returns-in-MissingLength
returns-in-MissingLength c = c.length_line.ensures ∙ rw c.in-MissingLength.is

pub returns-in-BadLength : goal.returns-in-BadLength
returns-in-BadLength c = c.length_line-in-BadLength.ensures ∙ rw c.in-BadLength.is

pub returns-in-UnequalLengths : goal.returns-in-UnequalLengths
returns-in-UnequalLengths c = c.length_line-in-UnequalLengths.ensures ∙ rw c.in-UnequalLengths.is

pub returns-in-Memory : goal.returns-in-Memory
returns-in-Memory c = c.text_line-in-Memory.ensures ∙ rw c.in-Memory.is
