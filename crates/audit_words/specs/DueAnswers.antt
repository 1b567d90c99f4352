-- The text that a call may hand to its sinks at any moment, for all arguments.
use Rattle.std.specs.Prelude.{◌≡◌, ℕ, List, Some, None}
use Rattle.audit_model.specs.State.{Stream}
use Rattle.audit_statement.specs.Accepted.{no_columns}
use Rattle.audit_statement.specs.Note.{note, write_fault}
use Rattle.audit_statement.specs.World.{World}
use Rattle.audit_words.specs.declared.build.Build.{Build}
use Rattle.audit_words.specs.declared.question.Question.{Question}
use Rattle.audit_words.specs.Questions.{answer_to, question_of}
use Rattle.audit_statement.specs.DueText.{LetsBytes, LetsDueLine, LetsDueText, LetsText}

-- the sink permits the answer if the arguments ask for help or the version, and else the due text of an audit
pub record LetsAnswerOrText (lets : LetsBytes) (build : Build) (words : List (List ℕ)) (before : World) : Type 0 where
  pub answers : (question : Question) → question_of words ≡ Some question → LetsText lets before.out (answer_to build question)
  pub audits : question_of words ≡ None → LetsDueText lets words before

-- the sink permits the line about a failed write if the arguments ask for help or the version, and else the due line of
-- an audit
pub record LetsAnyLine (lets : LetsBytes) (words : List (List ℕ)) (before : World) (note_before : Stream) : Type 0 where
  pub answers : (question : Question) → question_of words ≡ Some question → LetsText lets note_before (note no_columns write_fault)
  pub audits : question_of words ≡ None → LetsDueLine lets words before note_before
