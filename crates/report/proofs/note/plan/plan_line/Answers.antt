use Rattle.std.proofs.Common.{◌∙◌}
use Rattle.report.proofs.note.plan.plan_line.Goals as goal

pub returns-in-NoVotes : goal.returns-in-NoVotes
returns-in-NoVotes c = c.text_line.ensures ∙ rw c.in-NoVotes.is

pub returns-in-OutOfBounds : goal.returns-in-OutOfBounds
returns-in-OutOfBounds c = c.bounds_line.ensures ∙ rw c.in-OutOfBounds.is

pub returns-in-Disconnected : goal.returns-in-Disconnected
returns-in-Disconnected c = c.parts_line.ensures ∙ rw c.in-Disconnected.is

pub returns-in-TooManyCut : goal.returns-in-TooManyCut
returns-in-TooManyCut c = c.above_line.ensures ∙ rw c.in-TooManyCut.is

pub returns-in-TooManySplit : goal.returns-in-TooManySplit
returns-in-TooManySplit c = c.split_line.ensures ∙ rw c.in-TooManySplit.is

pub returns-in-TooManySplits : goal.returns-in-TooManySplits
returns-in-TooManySplits c = c.above_line-in-TooManySplits.ensures ∙ rw c.in-TooManySplits.is

pub returns-in-TooManySplitRegions : goal.returns-in-TooManySplitRegions
returns-in-TooManySplitRegions c = c.above_line-in-TooManySplitRegions.ensures ∙ rw c.in-TooManySplitRegions.is

pub returns-in-TooFewMajorities : goal.returns-in-TooFewMajorities
returns-in-TooFewMajorities c = c.majorities_line.ensures ∙ rw c.in-TooFewMajorities.is

pub returns-in-TooLong : goal.returns-in-TooLong
returns-in-TooLong c = c.length_line.ensures ∙ rw c.in-TooLong.is

pub returns-in-Memory : goal.returns-in-Memory
returns-in-Memory c = c.text_line-in-Memory.ensures ∙ rw c.in-Memory.is
