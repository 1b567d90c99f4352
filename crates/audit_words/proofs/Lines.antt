-- Lines that are appended one after the other.
use Rattle.std.proofs.Common.{◌≡◌, ◌∙◌, ℕ, zero, suc, ◌+◌, ◌<◌, ◌≤◌, add-one, Bool, true, List, [], ◌∷◌, ◌++◌, length, take, take_all, drop, map, get_or, refl, sym, ap, append_assoc, append-nil, arith, subst}
use Rattle.std.proofs.KnownBytes.{Appends-nil}
use Rattle.audit_model.specs.State.{Stream}
use Rattle.audit_words.specs.Usage.{on_lines}
use Rattle.report.specs.AddedText.{AddsText, HasAdded, LetsNext}
use Rattle.audit_statement.specs.DueText.{LetsBytes}
use Rattle.report.proofs.Letting.{next_as, next_front, next_rest}

module _ {before after : Stream} {going result : Bool} where
  -- an equal text is appended likewise
  pub adds_as : {one other : List ℕ} → AddsText before after going one result → one ≡ other → AddsText before after going other result
  adds_as a e = subst (λ (t : List ℕ). AddsText before after going t result) e a

-- the empty text is appended by doing nothing
pub adds_none : {s : Stream} {going : Bool} → AddsText s s going [] going
adds_none {s = s} {going = going} = record { adds = λ start text_so_far h. subst (λ (t : List ℕ). HasAdded start s t going) (sym (append-nil text_so_far)) h }

-- two texts are appended one after the other
pub adds_both : {a b c : Stream} {first then last : Bool} {one other : List ℕ} → AddsText a b first one then → AddsText b c then other last → AddsText a c first (one ++ other) last
adds_both {c = c} {last = last} {one = one} {other = other} x y = record {
  adds = λ start text_so_far s. subst (λ (t : List ℕ). HasAdded start c t last) (append_assoc text_so_far one other) (y.adds start (text_so_far ++ one) (x.adds start text_so_far s));
}

-- a text that is appended to nothing is all that was written
pub said_of : {a b : Stream} {text : List ℕ} {result : Bool} → AddsText a b true text result → HasAdded a b text result
said_of {a = a} x = x.adds a [] (Appends-nil a.bytes, refl)

module _ {X : Type 0} (say : X → List ℕ) where
  -- one more line is appended
  lines_more : (xs : List X) (i : ℕ) (d : X) → i < length xs
      → on_lines (map say (take i xs)) ++ (say (get_or xs i d) ++ 10 ∷ []) ≡ on_lines (map say (take (suc i) xs))
  lines_more [] i d l = absurd (omega (arith, l))
  lines_more (x ∷ xs) zero d l = sym (append-nil (say x ++ 10 ∷ []))
  lines_more (x ∷ xs) (suc i) d l =
      append_assoc (say x ++ 10 ∷ []) (on_lines (map say (take i xs))) (say (get_or xs i d) ++ 10 ∷ [])
      ∙ ap (λ t. (say x ++ 10 ∷ []) ++ t) (lines_more xs i d (omega (arith, l)))

  -- one more line is appended, with `i + 1` for the successor of `i`
  pub lines_next : (xs : List X) (i : ℕ) (d : X) (line : List ℕ) → i < length xs → line ≡ say (get_or xs i d)
      → on_lines (map say (take i xs)) ++ (line ++ 10 ∷ []) ≡ on_lines (map say (take (i + 1) xs))
  lines_next xs i d line l e =
      rw add-one (ap (λ t. on_lines (map say (take i xs)) ++ (t ++ 10 ∷ [])) e ∙ lines_more xs i d l)

  -- after the last line, all lines are appended
  pub lines_all : (xs : List X) (i : ℕ) → length xs ≤ i → on_lines (map say (take i xs)) ≡ on_lines (map say xs)
  lines_all xs i over = ap (λ ys. on_lines (map say ys)) (take_all i xs over)

  -- the lines before a place, the line there and those after it
  lines_split : (xs : List X) (i : ℕ) (d : X) → i < length xs
      → on_lines (map say xs) ≡ on_lines (map say (take i xs)) ++ ((say (get_or xs i d) ++ 10 ∷ []) ++ on_lines (map say (drop (suc i) xs)))
  lines_split [] i d l = absurd (omega (arith, l))
  lines_split (x ∷ xs) zero d l = refl
  lines_split (x ∷ xs) (suc i) d l =
      ap (λ t. (say x ++ 10 ∷ []) ++ t) (lines_split xs i d (omega (arith, l)))
      ∙ sym (append_assoc (say x ++ 10 ∷ []) (on_lines (map say (take i xs))) ((say (get_or xs i d) ++ 10 ∷ []) ++ on_lines (map say (drop (suc i) xs))))

  -- after the lines before a place, the line there comes next
  pub next_line : {lets : LetsBytes} {s t : Stream} {going then : Bool} (xs : List X) (i : ℕ) (d : X) (line : List ℕ) → i < length xs → line ≡ say (get_or xs i d)
      → LetsNext lets s going (on_lines (map say xs)) → AddsText s t going (on_lines (map say (take i xs))) then → LetsNext lets t then (line ++ 10 ∷ [])
  next_line xs i d line l e permitted added =
      let here = say (get_or xs i d) ++ 10 ∷ [] in
      let rest = on_lines (map say (drop (suc i) xs)) in
      next_as (next_front here rest (next_rest (on_lines (map say (take i xs))) (here ++ rest) (next_as permitted (lines_split xs i d l)) added.adds))
      (ap (λ t. t ++ 10 ∷ []) (sym e))

-- two lists of lines are joined as texts
pub lines_both : (a b : List (List ℕ)) → on_lines a ++ on_lines b ≡ on_lines (a ++ b)
lines_both [] b = refl
lines_both (x ∷ a) b = append_assoc (x ++ 10 ∷ []) (on_lines a) (on_lines b) ∙ ap (λ t. (x ++ 10 ∷ []) ++ t) (lines_both a b)
