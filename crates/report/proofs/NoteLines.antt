-- Lines that are written piece by piece.
use Rattle.std.proofs.Common.{◌≡◌, ◌∙◌, inl, inr, ℕ, zero, suc, ◌+◌, ◌<◌, ◌≤◌, Bool, true, false, List, [], ◌∷◌, ◌++◌, length, drop, drop-cons, get_or, add-one, map, flat_map, replicate, append_assoc, append-nil, refl, sym, ap, subst}
use Rattle.std.proofs.lemmas.List.{drop_all, map-append}
use Rattle.std.proofs.KnownBytes.{Appends-nil}
use Rattle.audit_model.specs.Faults.{Rose}
use Rattle.audit_statement.specs.Endings.{AddsLine, AppendsPart}
use Rattle.report.specs.declared.piece.Piece.{Piece}
use Rattle.report.specs.Pieces.{piece_text}
use Rattle.report.specs.AddedText.{HasAdded}
use Rattle.std.specs.Prelude.{◌==◌, codes, decimal}
use Rattle.std.proofs.lemmas.Bool.{cond-true, cond-false}
use Rattle.audit_model.specs.declared.fault.PlanFault.TheVariants.{TooFewMajorities}
use Rattle.audit_statement.specs.Note.{as_line, plan_note}
use Rattle.audit_model.specs.State.{Stream}
use Rattle.report.proofs.Appended.{part_after}

-- an equal text is the added line
pub adds_line : {n m : Stream} {text_so_far line : List ℕ} → AddsLine n m text_so_far → text_so_far ≡ line → AddsLine n m line
adds_line {n = n} {m = m} a e = subst (λ (text : List ℕ). AddsLine n m text) e a

-- a text written in whole or in part is added to the line
pub text_adds : (n m : Stream) (text : List ℕ) (whole : Bool) → HasAdded n m text whole → AddsLine n m text
text_adds n m text true s = record { added = inl s }
text_adds n m text false s = record { added = inr s }

-- before its first piece, nothing of a line is written
pub said_nothing : (n : Stream) → HasAdded n n [] true
said_nothing n = (Appends-nil n.bytes, refl)

-- a piece that was written in part ends the line
pub fails_after : (start old new : Stream) (text_so_far piece : List ℕ) (going : Bool) → going ≡ true
    → AppendsPart old.bytes new.bytes piece → Rose old.faults new.faults → HasAdded start old text_so_far going → HasAdded start new (text_so_far ++ piece) false
fails_after start old new text_so_far piece true e part rose s =
    (part_after start.bytes old.bytes new.bytes text_so_far piece s.0 part, subst (λ (k : ℕ). Rose k new.faults) s.1 rose)
fails_after start old new text_so_far piece false e part rose s = cc

-- ---- a line with some pieces written

-- a front of the whole line was written, and this rest is left
pub record IsOnTheWay (start now : Stream) (going : Bool) (whole left : List ℕ) : Type 0 where
  pub text_so_far : List ℕ
  pub has_added : HasAdded start now text_so_far going
  pub split : text_so_far ++ left ≡ whole

-- the state after the first piece of a line
pub begun : (start now : Stream) (first left : List ℕ) (going : Bool) → HasAdded start now first going → IsOnTheWay start now going (first ++ left) left
begun start now first left going s = record { text_so_far = first; has_added = s; split = refl }

-- the state after one more piece
pub goes_on : (start now next : Stream) (going then : Bool) (whole piece left : List ℕ) → IsOnTheWay start now going whole (piece ++ left)
    → ((from : Stream) (text_so_far : List ℕ) → HasAdded from now text_so_far going → HasAdded from next (text_so_far ++ piece) then) → IsOnTheWay start next then whole left
goes_on start now next going then whole piece left w more = record {
  text_so_far = w.text_so_far ++ piece;
  has_added = more start w.text_so_far w.has_added;
  split = append_assoc w.text_so_far piece left ∙ w.split;
}

-- if nothing is left, the whole line was written
pub all_added : (start now : Stream) (going : Bool) (whole : List ℕ) → IsOnTheWay start now going whole [] → HasAdded start now whole going
all_added start now going whole w = subst (λ (text : List ℕ). HasAdded start now text going) (sym (append-nil w.text_so_far) ∙ w.split) w.has_added

-- ---- the texts of pieces

-- the pieces from a place on are the piece there and those after it
pub one_piece_more : (pieces : List Piece) (i : ℕ) (blank : Piece) → i < length pieces
    → flat_map piece_text (drop i pieces) ≡ piece_text (get_or pieces i blank) ++ flat_map piece_text (drop (i + 1) pieces)
one_piece_more pieces i blank l = rw (add-one, drop-cons pieces i blank) refl

-- after the last piece nothing is left
pub no_piece_left : (pieces : List Piece) (i : ℕ) → length pieces ≤ i → flat_map piece_text (drop i pieces) ≡ []
no_piece_left pieces i over = ap (flat_map piece_text) (drop_all i pieces over)

-- a line that begins with these pieces
pub line_begins : (pieces : List Piece) (rest : List (List ℕ)) → as_line (map piece_text pieces ++ rest) ≡ flat_map piece_text pieces ++ as_line rest
line_begins [] rest = refl
line_begins (piece ∷ pieces) rest = ap (λ t. piece_text piece ++ t) (line_begins pieces rest) ∙ sym (append_assoc (piece_text piece) (flat_map piece_text pieces) (as_line rest))

-- the line of two lists of pieces
pub two_texts : (first pieces : List Piece) → (flat_map piece_text first ++ flat_map piece_text pieces) ++ 10 ∷ [] ≡ as_line (map piece_text first ++ map piece_text pieces)
two_texts first pieces =
    append_assoc (flat_map piece_text first) (flat_map piece_text pieces) (10 ∷ [])
    ∙ ap (λ t. flat_map piece_text first ++ t) (sym (ap as_line (sym (append-nil (map piece_text pieces))) ∙ line_begins pieces []))
    ∙ sym (line_begins first (map piece_text pieces))

-- empty texts write nothing
pub blanks_say_nothing : (blank : Piece) (count : ℕ) → piece_text blank ≡ [] → as_line (map piece_text (replicate count blank)) ≡ 10 ∷ []
blanks_say_nothing blank zero none = refl
blanks_say_nothing blank (suc count) none = ap (λ t. t ++ as_line (map piece_text (replicate count blank))) none ∙ blanks_say_nothing blank count none

-- empty texts from a place on write nothing
pub dropped_say_nothing : (blank : Piece) (place count : ℕ) → piece_text blank ≡ [] → as_line (map piece_text (drop place (replicate count blank))) ≡ 10 ∷ []
dropped_say_nothing blank zero zero none = refl
dropped_say_nothing blank zero (suc count) none = blanks_say_nothing blank (suc count) none
dropped_say_nothing blank (suc place) zero none = refl
dropped_say_nothing blank (suc place) (suc count) none = dropped_say_nothing blank place count none

-- a line may end with pieces that write nothing
pub filled_line : (pieces start rest : List Piece) → start ≡ pieces → as_line (map piece_text rest) ≡ 10 ∷ [] → as_line (map piece_text (start ++ rest)) ≡ as_line (map piece_text pieces)
filled_line pieces start rest is none =
    ap (λ (ps : List Piece). as_line (map piece_text (ps ++ rest))) is
    ∙ ap as_line (map-append piece_text pieces rest)
    ∙ line_begins pieces (map piece_text rest)
    ∙ ap (λ t. flat_map piece_text pieces ++ t) none
    ∙ sym (line_begins pieces [])
    ∙ ap as_line (append-nil (map piece_text pieces))

-- ---- the line about a group's majorities

-- a share of one half is not named
pub names_half : (districts least share : ℕ) → (share == 5000) ≡ true
    → as_line (codes "the group has a majority in " ∷ decimal districts ∷ codes " districts, fewer than " ∷ decimal least ∷ [])
    ≡ as_line (plan_note (TooFewMajorities districts least share))
names_half districts least share half =
    ap (λ start. as_line (start ++ decimal districts ∷ codes " districts, fewer than " ∷ decimal least ∷ []))
    (sym (cond-true (share == 5000) (codes "the group has a majority in " ∷ [])
    (codes "the group has more than " ∷ decimal share ∷ codes " of 10000 in " ∷ []) half))

-- another share is named
pub names_share : (districts least share : ℕ) → (share == 5000) ≡ false
    → as_line (codes "the group has more than " ∷ decimal share ∷ codes " of 10000 in "
    ∷ decimal districts ∷ codes " districts, fewer than " ∷ decimal least ∷ [])
    ≡ as_line (plan_note (TooFewMajorities districts least share))
names_share districts least share other =
    ap (λ start. as_line (start ++ decimal districts ∷ codes " districts, fewer than " ∷ decimal least ∷ []))
    (sym (cond-false (share == 5000) (codes "the group has a majority in " ∷ [])
    (codes "the group has more than " ∷ decimal share ∷ codes " of 10000 in " ∷ []) other))
