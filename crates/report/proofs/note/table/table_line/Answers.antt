use Rattle.std.proofs.Common.{◌∙◌}
use Rattle.report.proofs.note.table.table_line.Goals as goal

pub returns-in-Unreadable : goal.returns-in-Unreadable
returns-in-Unreadable c = c.numbered_line.ensures ∙ rw c.in-Unreadable.is

pub returns-in-NoHeader : goal.returns-in-NoHeader
returns-in-NoHeader c = c.text_line.ensures ∙ rw c.in-NoHeader.is

pub returns-in-TooManyPlans : goal.returns-in-TooManyPlans
returns-in-TooManyPlans c = c.count_line.ensures ∙ rw c.in-TooManyPlans.is

pub returns-in-BadName : goal.returns-in-BadName
returns-in-BadName c = c.numbered_line-in-BadName.ensures ∙ rw (c.in-BadName.is, c.from.ensures)

pub returns-in-SharedId : goal.returns-in-SharedId
returns-in-SharedId c = c.two_line.ensures ∙ rw c.in-SharedId.is

pub returns-in-UnknownId : goal.returns-in-UnknownId
returns-in-UnknownId c = c.numbered_line-in-UnknownId.ensures ∙ rw c.in-UnknownId.is

pub returns-in-Twice : goal.returns-in-Twice
returns-in-Twice c = c.numbered_line-in-Twice.ensures ∙ rw c.in-Twice.is

pub returns-in-MissingUnit : goal.returns-in-MissingUnit
returns-in-MissingUnit c = c.numbered_line-in-MissingUnit.ensures ∙ rw (c.in-MissingUnit.is, c.from-in-MissingUnit.ensures)

pub returns-in-DistrictCount : goal.returns-in-DistrictCount
returns-in-DistrictCount c = c.districts_line.ensures ∙ rw c.in-DistrictCount.is

pub returns-in-Memory : goal.returns-in-Memory
returns-in-Memory c = c.text_line-in-Memory.ensures ∙ rw c.in-Memory.is
