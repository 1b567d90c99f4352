-- The arguments that ask for help or the version, and the text that answers them.
-- The grammar is this project's own: exactly `--help`, exactly `--version`, or exactly a command and `--help`.
-- All other arguments ask for neither.
use Rattle.std.specs.Prelude.{ℕ, List, [], ◌∷◌, ◌++◌, codes, bytes_eq, cond, Option, Some, None, option_map}
use Rattle.audit_statement.specs.Report.{line}
use Rattle.audit_statement.specs.Words.{command_of}
use Rattle.audit_words.specs.declared.build.Build.{Build}
use Rattle.audit_words.specs.declared.question.Question.{Question}
use Rattle.audit_words.specs.declared.question.Question.TheVariants.{Usage, Version, Arguments}
use Rattle.audit_words.specs.Usage.{command_lines, on_lines, usage_lines}

-- ---- the questions

-- the question of a single argument
abbrev pub question_of_word : List ℕ → Option Question
question_of_word word = cond (bytes_eq word (codes "--help")) (Some Usage) (cond (bytes_eq word (codes "--version")) (Some Version) None)

-- the question of two arguments, the first of which may be a command
abbrev pub question_of_two : List ℕ → List ℕ → Option Question
question_of_two word next = cond (bytes_eq next (codes "--help")) (option_map Arguments (command_of word)) None

-- the question of the auditor's arguments
abbrev pub question_of : List (List ℕ) → Option Question
question_of [] = None
question_of (word ∷ []) = question_of_word word
question_of (word ∷ next ∷ []) = question_of_two word next
question_of (word ∷ next ∷ more ∷ rest) = None

-- ---- the answers

-- three lines: the program and its version; the commit of its sources; the kit that proved and built it
abbrev pub version_text : List ℕ → Build → List ℕ
version_text program build =
    line (program ∷ build.version.now ∷ []) ++ line (codes "commit" ∷ build.commit.now ∷ []) ++ line (build.kit.now ∷ [])

-- the auditor's answer to a question
abbrev pub answer_to : Build → Question → List ℕ
answer_to build Usage = on_lines usage_lines
answer_to build Version = version_text (codes "district-audit") build
answer_to build (Arguments command) = on_lines (command_lines command)
