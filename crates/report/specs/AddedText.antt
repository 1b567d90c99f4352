-- The effect of writing a whole text, and of writing a line piece by piece.
use Rattle.std.specs.Prelude.{◌≡◌, ℕ, Bool, true, false, List, ◌++◌, Result, Ok, Err}
use Rattle.std.specs.Io.KnownBytes.{Appends}
use Rattle.audit_io.specs.declared.source.Failed.{Failed}
use Rattle.audit_model.specs.Faults.{Rose}
use Rattle.audit_statement.specs.Endings.{AppendsPart}
use Rattle.audit_model.specs.State.{Stream}
use Rattle.audit_statement.specs.DueText.{LetsBytes, LetsText}

-- the sink took the whole text, or a part if it failed
abbrev pub HasAdded : Stream → Stream → List ℕ → Bool → Type 0
HasAdded before after text true = Appends before.bytes after.bytes text × (after.faults ≡ before.faults)
HasAdded before after text false = AppendsPart before.bytes after.bytes text × Rose before.faults after.faults

-- the sink took the whole text, or a part if it failed
abbrev pub WritesAllOf : Stream → Stream → List ℕ → Result (Unit {0}) Failed → Type 0
WritesAllOf before after text (Ok done) = Appends before.bytes after.bytes text × (after.faults ≡ before.faults)
WritesAllOf before after text (Err failed) = AppendsPart before.bytes after.bytes text × Rose before.faults after.faults

-- this text was written after the earlier text. `going` and `result` say that nothing had failed before and after.
pub record AddsText (before after : Stream) (going : Bool) (text : List ℕ) (result : Bool) : Type 0 where
  pub adds : (start : Stream) (text_so_far : List ℕ) → HasAdded start before text_so_far going → HasAdded start after (text_so_far ++ text) result

-- A text is being written. `text_so_far` was written to a sink that permits it and then this text.
pub record LetsNext (lets : LetsBytes) (now : Stream) (going : Bool) (text : List ℕ) : Type 0 where
  pub start : Stream
  pub text_so_far : List ℕ
  pub added : HasAdded start now text_so_far going
  pub permitted : LetsText lets start (text_so_far ++ text)
