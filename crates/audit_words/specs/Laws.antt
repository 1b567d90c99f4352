-- The laws that tie the usage to the parsing of arguments.
use Rattle.std.specs.Prelude.{◌≡◌, ℕ, true, List, Some, IsErr}
use Rattle.audit_model.specs.declared.fault.Name.{Name}
use Rattle.audit_model.specs.declared.setting.Command.{Command}
use Rattle.audit_statement.specs.Words.{NameAndValue, command_of, is_good, is_number, setting_of, text_of}
use Rattle.audit_words.specs.declared.question.Question.{Question}
use Rattle.audit_words.specs.Arguments.{between, kind_of}
use Rattle.audit_words.specs.Questions.{question_of}
use Rattle.audit_words.specs.Usage.{command_text}

-- arguments that ask for help or the version are refused as those of an audit
abbrev pub QuestionsWereRefused : Type 0
QuestionsWereRefused = (words : List (List ℕ)) (question : Question) → question_of words ≡ Some question → IsErr (setting_of words)

-- each command is parsed from its spelling in the usage
abbrev pub CommandsAreSpelled : Type 0
CommandsAreSpelled = (command : Command) → command_of (command_text command) ≡ Some command

-- a valid value of an argument that takes numbers is within the limits in the usage
abbrev pub ArgumentsKeepLimits : Type 0
ArgumentsKeepLimits = (command : Command) (words : List NameAndValue) (name : Name) (low high : ℕ) → kind_of name ≡ between low high
    → is_good command words name ≡ true → is_number low high (text_of command words name) ≡ true
