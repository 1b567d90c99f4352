-- The effect of a call that asks for help or the version, and all that the top call promises.
use Rattle.std.specs.Prelude.{◌≡◌, ◌⊎◌, ℕ, List, Some, None}
use Rattle.std.specs.Io.KnownBytes.{Appends}
use Rattle.audit_model.specs.Faults.{Rose}
use Rattle.audit_model.specs.State.{Stream}
use Rattle.audit_statement.specs.Accepted.{no_columns}
use Rattle.audit_statement.specs.Endings.{AddsLine, AppendsPart}
use Rattle.audit_statement.specs.Note.{note, write_fault}
use Rattle.audit_statement.specs.Whole.{KeepsEachPromise}
use Rattle.audit_statement.specs.World.{World}
use Rattle.audit_words.specs.declared.build.Build.{Build}
use Rattle.audit_words.specs.declared.question.Question.{Question}
use Rattle.audit_words.specs.Questions.{answer_to, question_of}

-- the whole text was written, nothing failed, and nothing was said on the diagnostic
pub record IsTextWritten (text : List ℕ) (before after note_before note_after : Stream) (status : ℕ) : Type 0 where
  pub status_is : status ≡ 0
  pub written : Appends before.bytes after.bytes text
  pub faultless : after.faults ≡ before.faults
  pub silent : note_after ≡ note_before

-- a write failed: a prefix of the text was written, and one line says so on the diagnostic
pub record IsTextCutOff (text : List ℕ) (before after note_before note_after : Stream) (status : ℕ) : Type 0 where
  pub status_is : status ≡ 5
  pub written : AppendsPart before.bytes after.bytes text
  pub rose : Rose before.faults after.faults
  pub observed : AddsLine note_before note_after (note no_columns write_fault)

-- the text was written, or a write failed
abbrev pub WritesAnswer : List ℕ → Stream → Stream → Stream → Stream → ℕ → Type 0
WritesAnswer text before after note_before note_after status =
    IsTextWritten text before after note_before note_after status ⊎ IsTextCutOff text before after note_before note_after status

-- the text was written or a write failed, the source was not read, and the checkpoint slots were left alone
pub record Answers (text : List ℕ) (before after : World) (note_before note_after : Stream) (status : ℕ) : Type 0 where
  pub observed : WritesAnswer text before.out after.out note_before note_after status
  pub source : after.source ≡ before.source
  pub keeper : after.keeper ≡ before.keeper

-- All that the top call promises: if the arguments ask for help or the version, only the answer is written. All other
-- arguments are those of an audit.
pub record AnswersOrAudits (build : Build) (words : List (List ℕ)) (before after : World) (note_before note_after : Stream) (status : ℕ) : Type 0 where
  pub answers : (question : Question) → question_of words ≡ Some question → Answers (answer_to build question) before after note_before note_after status
  pub audits : question_of words ≡ None → KeepsEachPromise words before after note_before note_after status
