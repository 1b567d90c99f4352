-- Appending a text piece by piece.
use Rattle.std.proofs.Common.{◌≡◌, ◌∙◌, ℕ, ◌+◌, ◌≤◌, subst, append-nil, List, [], ◌∷◌, ◌++◌, length, refl, ap, sym, arith, append_assoc, Result, Ok, Err}
use Rattle.std.proofs.lemmas.Bool.{false≢true}
use Rattle.std.proofs.lemmas.List.{length-append}
use Rattle.std.proofs.lemmas.Grind.{flat_map-append}
use Rattle.audit_model.specs.Room.{RoomyBytes}
use Rattle.audit_model.specs.declared.memory.Memory.{Memory}
use Rattle.report.specs.Lines.{AppendsText, spaced, tail_of}
use Rattle.audit_statement.specs.Report.{line}

-- a line is its first word and the rest
pub line-cons : (word : List ℕ) (words : List (List ℕ)) → line (word ∷ words) ≡ word ++ tail_of words
line-cons word [] = refl
line-cons word (next ∷ words) = ap (λ t. word ++ 32 ∷ t) (line-cons next words)

-- all of the text but the rest is appended, and within the capacity the total stays as before
pub record IsWritten (old now : RoomyBytes) (whole left : List ℕ) : Type 0 where
  pub items : now.items ++ left ≡ old.items ++ whole
  pub room : length whole ≤ old.spare → now.spare + length now.items ≡ old.spare + length old.items

-- before the first piece nothing is written, and the whole is left
pub written-none : (old : RoomyBytes) (whole left : List ℕ) → whole ≡ left → IsWritten old old whole left
written-none old whole left e = record { items = ap (λ t. old.items ++ t) (sym e); room = λ _. refl }

-- there is capacity for the next piece
has_room : (old now : RoomyBytes) (whole piece left : List ℕ) → IsWritten old now whole (piece ++ left) → length whole ≤ old.spare → length piece ≤ now.spare
has_room old now whole piece left w enough =
    let sum : now.spare + length now.items ≡ old.spare + length old.items = w.room enough in
    let count : length now.items + (length piece + length left) ≡ length old.items + length whole = simp length-append at (ap length w.items) in
    omega arith

-- one more piece is written
pub written-more : (old now new : RoomyBytes) (whole piece left : List ℕ) → IsWritten old now whole (piece ++ left) → AppendsText now new piece (Ok tt) → IsWritten old new whole left
written-more old now new whole piece left w more = record {
  items = ap (λ t. t ++ left) more.ok ∙ append_assoc now.items piece left ∙ w.items;
  room = λ enough.
      let sum : now.spare + length now.items ≡ old.spare + length old.items = w.room enough in
      let spent = more.room (has_room old now whole piece left w enough) in
      let longer : length new.items ≡ length now.items + length piece = ap length more.ok ∙ length-append now.items piece in
      omega (arith, spent.1);
}

-- if a piece cannot be written, the whole cannot
pub written-err : (old now new : RoomyBytes) (whole piece left : List ℕ) (e : Memory) → IsWritten old now whole (piece ++ left) → AppendsText now new piece (Err e) → AppendsText old new whole (Err e)
written-err old now new whole piece left e w more = record {
  ok = tt;
  room = λ enough. absurd (false≢true (more.room (has_room old now whole piece left w enough)).0);
}

-- after the last piece the whole is written, or it cannot be
pub written-last : (old now new : RoomyBytes) (whole piece : List ℕ) (r : Result (Unit {0}) Memory) → IsWritten old now whole piece → AppendsText now new piece r → AppendsText old new whole r
written-last old now new whole piece (Ok u) w more =
    let done = written-more old now new whole piece [] (subst (λ t. IsWritten old now whole t) (sym (append-nil piece)) w) more in
    let items : new.items ≡ old.items ++ whole = sym (append-nil new.items) ∙ done.items in
    record {
      ok = items;
      room = λ enough.
          let sum : new.spare + length new.items ≡ old.spare + length old.items = done.room enough in
          let count : length new.items ≡ length old.items + length whole = ap length items ∙ length-append old.items whole in
          (refl, omega arith);
    }
written-last old now new whole piece (Err e) w more = written-err old now new whole piece [] e (subst (λ t. IsWritten old now whole t) (sym (append-nil piece)) w) more

-- the rest of a line after its first word, and the line's end
pub tail-spaced : (words : List (List ℕ)) → tail_of words ≡ spaced words ++ 10 ∷ []
tail-spaced [] = refl
tail-spaced (word ∷ words) = ap (λ t. 32 ∷ (word ++ t)) (tail-spaced words) ∙ ap (λ t. 32 ∷ t) (sym (append_assoc word (spaced words) (10 ∷ [])))

-- a line from its first word and three lists of words
pub line-parts : (word : List ℕ) (words more last : List (List ℕ)) → (((word ++ spaced words) ++ spaced more) ++ spaced last) ++ 10 ∷ [] ≡ line (word ∷ ((words ++ more) ++ last))
line-parts word words more last =
    sym (line-cons word ((words ++ more) ++ last)
    ∙ ap (λ t. word ++ t) (tail-spaced ((words ++ more) ++ last))
    ∙ ap (λ t. word ++ (t ++ 10 ∷ [])) (flat_map-append (λ (w : List ℕ). 32 ∷ w) (words ++ more) last)
    ∙ ap (λ t. word ++ ((t ++ spaced last) ++ 10 ∷ [])) (flat_map-append (λ (w : List ℕ). 32 ∷ w) words more)
    ∙ joined word (spaced words) (spaced more) (spaced last))
  where
    joined : (a b c d : List ℕ) → a ++ (((b ++ c) ++ d) ++ 10 ∷ []) ≡ (((a ++ b) ++ c) ++ d) ++ 10 ∷ []
    joined a b c d = simp append_assoc

-- one more list of words is appended to the line
pub line-four : (word : List ℕ) (words more last end : List (List ℕ))
    → ((((word ++ spaced words) ++ spaced more) ++ spaced last) ++ spaced end) ++ 10 ∷ [] ≡ line (word ∷ (((words ++ more) ++ last) ++ end))
line-four word words more last end =
    ap (λ t. ((t ++ spaced last) ++ spaced end) ++ 10 ∷ [])
    (append_assoc word (spaced words) (spaced more) ∙ ap (λ t. word ++ t) (sym (flat_map-append (λ (w : List ℕ). 32 ∷ w) words more)))
    ∙ line-parts word (words ++ more) last end

-- the last two lists of words are appended to the line at once
pub line-five : (word : List ℕ) (words more last end rest : List (List ℕ))
    → ((((word ++ spaced words) ++ spaced more) ++ spaced last) ++ (spaced end ++ spaced rest)) ++ 10 ∷ [] ≡ line (word ∷ ((((words ++ more) ++ last) ++ end) ++ rest))
line-five word words more last end rest =
    ap (λ t. ((((word ++ spaced words) ++ spaced more) ++ spaced last) ++ t) ++ 10 ∷ []) (sym (flat_map-append (λ (w : List ℕ). 32 ∷ w) end rest))
    ∙ line-four word words more last (end ++ rest)
    ∙ ap (λ t. line (word ∷ t)) (sym (append_assoc ((words ++ more) ++ last) end rest))

-- two texts are appended one after the other
pub appends-two : (old mid new : RoomyBytes) (a b : List ℕ) (r : Result (Unit {0}) Memory) → AppendsText old mid a (Ok tt) → AppendsText mid new b r → AppendsText old new (a ++ b) r
appends-two old mid new a b r first second = written-last old mid new (a ++ b) b r (written-more old old mid (a ++ b) a b (written-none old (a ++ b) (a ++ b) refl) first) second

-- a text whose front cannot be appended cannot be appended
pub appends-err : (old new : RoomyBytes) (a b : List ℕ) (e : Memory) → AppendsText old new a (Err e) → AppendsText old new (a ++ b) (Err e)
appends-err old new a b e first = written-err old old new (a ++ b) a b e (written-none old (a ++ b) (a ++ b) refl) first

-- the appended text may be replaced by an equal one
pub appends-by : (old new : RoomyBytes) (a b : List ℕ) (r : Result (Unit {0}) Memory) → a ≡ b → AppendsText old new a r → AppendsText old new b r
appends-by old new a b r e h = subst (λ t. AppendsText old new t r) e h

-- three texts are appended one after the other, as an equal text
module _ (old : RoomyBytes) (a b c text : List ℕ) (is : (a ++ b) ++ c ≡ text) where
  pub three-first : (new : RoomyBytes) (e : Memory) → AppendsText old new a (Err e) → AppendsText old new text (Err e)
  three-first new e first = appends-by old new ((a ++ b) ++ c) text (Err e) is (appends-err old new (a ++ b) c e (appends-err old new a b e first))

  pub three-second : (mid new : RoomyBytes) (e : Memory) → AppendsText old mid a (Ok tt) → AppendsText mid new b (Err e) → AppendsText old new text (Err e)
  three-second mid new e first second = appends-by old new ((a ++ b) ++ c) text (Err e) is (appends-err old new (a ++ b) c e (appends-two old mid new a b (Err e) first second))

  pub three-all : (mid next new : RoomyBytes) (r : Result (Unit {0}) Memory) → AppendsText old mid a (Ok tt) → AppendsText mid next b (Ok tt) → AppendsText next new c r → AppendsText old new text r
  three-all mid next new r first second third = appends-by old new ((a ++ b) ++ c) text r is (appends-two old next new (a ++ b) c r (appends-two old mid next a b (Ok tt) first second) third)
