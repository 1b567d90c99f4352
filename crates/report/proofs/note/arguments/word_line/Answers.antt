use Rattle.std.proofs.Common.{◌∙◌}
use Rattle.report.proofs.note.arguments.word_line.Goals as goal

pub returns-in-NoCommand : goal.returns-in-NoCommand
returns-in-NoCommand c = c.text_line.ensures ∙ rw c.in-NoCommand.is

pub returns-in-UnknownCommand : goal.returns-in-UnknownCommand
returns-in-UnknownCommand c = c.words_line.ensures ∙ rw (c.in-UnknownCommand.is, c.as_str.ensures)

pub returns-in-UnknownName : goal.returns-in-UnknownName
returns-in-UnknownName c = c.words_line-in-UnknownName.ensures ∙ rw (c.in-UnknownName.is, c.as_str-in-UnknownName.ensures)

pub returns-in-Twice : goal.returns-in-Twice
returns-in-Twice c = c.words_line-in-Twice.ensures ∙ rw (c.in-Twice.is, c.spelling_of.ensures)

pub returns-in-NoValue : goal.returns-in-NoValue
returns-in-NoValue c = c.words_line-in-NoValue.ensures ∙ rw (c.in-NoValue.is, c.spelling_of-in-NoValue.ensures)

pub returns-in-MissingName : goal.returns-in-MissingName
returns-in-MissingName c = c.words_line-in-MissingName.ensures ∙ rw (c.in-MissingName.is, c.spelling_of-in-MissingName.ensures)

pub returns-in-BadValue : goal.returns-in-BadValue
returns-in-BadValue c = c.words_line-in-BadValue.ensures ∙ rw (c.in-BadValue.is, c.spelling_of-in-BadValue.ensures)

pub returns-in-PairsNeedTwoWalks : goal.returns-in-PairsNeedTwoWalks
returns-in-PairsNeedTwoWalks c = c.text_line-in-PairsNeedTwoWalks.ensures ∙ rw c.in-PairsNeedTwoWalks.is

pub returns-in-Memory : goal.returns-in-Memory
returns-in-Memory c = c.text_line-in-Memory.ensures ∙ rw c.in-Memory.is
