-- The words of a line, and the effect of appending a text to a buffer.
use Rattle.std.specs.Prelude.{◌≡◌, ◌≤◌, ℕ, ◌+◌, List, [], ◌∷◌, ◌++◌, length, flat_map, decimal, Result, OnOk, IsOk}
use Rattle.std.specs.Fmt.{signed_decimal}
use Rattle.hex.specs.Hex.{encode_lower}
use Rattle.json.specs.Print.{quoted}
use Rattle.audit_model.specs.Room.{RoomyBytes}
use Rattle.audit_model.specs.declared.memory.Memory.{Memory}
use Rattle.report.specs.declared.lines.Word.{Word}
use Rattle.report.specs.declared.lines.Word.TheVariants.{Text, Number, Signed, Fraction, Billionths, Quarters, Key, Quoted}
use Rattle.audit_statement.specs.Report.{fraction, billionths}
use Rattle.audit_statement.specs.Words.{quarters}

-- the text of a word
abbrev pub word_text : Word → List ℕ
word_text (Text text) = text.now
word_text (Number n) = decimal n
word_text (Signed z) = signed_decimal z
word_text (Fraction top bottom) = fraction top bottom
word_text (Billionths n) = billionths n
word_text (Quarters q) = quarters q
word_text (Key key) = encode_lower key.now
word_text (Quoted text) = quoted text.now

-- words with a space before each
abbrev pub spaced : List (List ℕ) → List ℕ
spaced = flat_map (λ word. 32 ∷ word)

-- the rest of a line after its first word
abbrev pub tail_of : List (List ℕ) → List ℕ
tail_of [] = 10 ∷ []
tail_of (word ∷ words) = 32 ∷ (word ++ tail_of words)

-- the text is appended, and within the capacity this does not fail
pub record AppendsText (old new : RoomyBytes) (text : List ℕ) (result : Result (Unit {0}) Memory) : Type 0 where
  pub ok : OnOk result (new.items ≡ old.items ++ text)
  pub room : length text ≤ old.spare → IsOk result × (new.spare + length text ≡ old.spare)
