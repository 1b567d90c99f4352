-- The parts of a text between commas, and the test of asks.
use Rattle.std.proofs.Common.{◌≡◌, ◌≢◌, ◌∙◌, ℕ, suc, ◌<◌, Bool, true, false, not, List, [], ◌∷◌, length, get_or, ap, arith, refl, sym, subst, Option, Some, None, inl, inr}
use Rattle.std.proofs.lemmas.Bool.{le-leb, ne_eqb, cases_lt, cond_both, false≢true, lt-leb}
use Rattle.std.proofs.lemmas.List.{get_or_default}
use Rattle.std.proofs.lemmas.List.Splits.{slice_split_first, slice_split_none}
use Rattle.std.specs.Prelude.{◌==◌, ◌&&◌, bytes_eq, nat_le, is_some}
use Rattle.std.specs.List.{list_any, slice_split, onto_first, position_or_len, before_first, after_first}
use Rattle.audit_model.specs.declared.setting.Ask.{Ask}
use Rattle.audit_statement.specs.Words.{parts_between, starts_with_byte, ask_of, asks_of, with_ask, all_different}

-- the two forms of the part that begins with a byte agree
starts_with_byte-onto : (c : ℕ) (parts : List (List ℕ)) → starts_with_byte c parts ≡ onto_first c parts
starts_with_byte-onto c [] = refl
starts_with_byte-onto c (part ∷ parts) = refl

-- the parts are those that a split gives
pub parts_between-split : (separator : ℕ) (text : List ℕ) → parts_between separator text ≡ slice_split (λ b. b == separator) text
parts_between-split separator [] = refl
parts_between-split separator (c ∷ rest) = rw (parts_between-split separator rest, starts_with_byte-onto c (slice_split (λ b. b == separator) rest)) refl

-- a text with no comma is one part
pub parts_between-whole : (text : List ℕ) → ((i : ℕ) → i < length text → get_or text i 0 ≢ 44) → parts_between 44 text ≡ text ∷ []
parts_between-whole text none =
    parts_between-split 44 text ∙ slice_split_none (λ b. b == 44) text (λ k d inside. ne_eqb (get_or text k d) 44 (subst (λ c. c ≢ 44) (get_or_default text k 0 d inside) (none k inside)))

-- the text before the first comma is a part, and the others are those of the text after it
pub parts_between-first : (text word more : List ℕ) → (position_or_len (λ b. b == 44) text < length text) × (word ≡ before_first (λ b. b == 44) text) × (more ≡ after_first (λ b. b == 44) text)
    → parts_between 44 text ≡ word ∷ parts_between 44 more
parts_between-first text word more cut =
    parts_between-split 44 text ∙ slice_split_first (λ b. b == 44) text 0 cut.0 ∙ rw (parts_between-split 44 more, cut.1, cut.2) refl

-- there is at least one part
starts_with_byte-some : (c : ℕ) (parts : List (List ℕ)) → 0 < length (starts_with_byte c parts)
starts_with_byte-some c [] = omega arith
starts_with_byte-some c (part ∷ parts) = omega arith

-- each text has a part between commas
pub parts_between-some : (text : List ℕ) → 0 < length (parts_between 44 text)
parts_between-some [] = omega arith
parts_between-some (c ∷ rest) = cond_both (c == 44) ([] ∷ parts_between 44 rest) (starts_with_byte c (parts_between 44 rest)) (λ parts. 0 < length parts)
    (λ comma. omega arith) (λ other. starts_with_byte-some c (parts_between 44 rest))

-- the test of asks for at most this many parts
abbrev pub are_within : ℕ → List (List ℕ) → Bool
are_within room parts = is_some (asks_of parts) && nat_le (length parts) room && all_different parts

-- the test of a first part and others, by their results
abbrev within : Option Ask → Option (List Ask) → Bool → Bool → Bool → Bool
within ask asks few among different = is_some (with_ask ask asks) && few && (not among && different)

-- if the last part is an ask, the asks are within their limits
within-last : (ask : Option Ask) → within ask (Some []) true false true ≡ is_some ask
within-last None = refl
within-last (Some ask) = refl

-- a repeated part makes the asks invalid
within-twice : (ask : Option Ask) (asks : Option (List Ask)) (few different : Bool) → within ask asks few true different ≡ false
within-twice None asks few different = refl
within-twice (Some ask) None few different = refl
within-twice (Some ask) (Some asks) true different = refl
within-twice (Some ask) (Some asks) false different = refl

-- one more part is tested by itself and by those after it
within-more : (ask : Option Ask) (asks : Option (List Ask)) (few different : Bool) → is_some ask ≡ true → within ask asks few false different ≡ (is_some asks && few && different)
within-more None asks few different good = absurd (false≢true good)
within-more (Some ask) None few different good = refl
within-more (Some ask) (Some asks) few different good = refl

-- one more part fits if fewer than the limit are taken
one_more : (n less room : ℕ) → suc less ≡ room → nat_le (suc n) room ≡ nat_le n less
one_more n less room one = elim (cases_lt less n) [
  | inl many ↦ lt-leb (suc n) room (omega arith) ∙ sym (lt-leb n less many)
  | inr few ↦ le-leb (suc n) room (omega arith) ∙ sym (le-leb n less few)
]

-- a last part is valid exactly if it is an ask
pub are_within-last : (room : ℕ) (word : List ℕ) → 0 < room → are_within room (word ∷ []) ≡ is_some (ask_of word)
are_within-last room word some = ap (λ few. within (ask_of word) (Some []) few false true) (le-leb 1 room some) ∙ within-last (ask_of word)

module _ (word : List ℕ) (parts : List (List ℕ)) where
  pub are_within-bad : (room : ℕ) → ask_of word ≡ None → are_within room (word ∷ parts) ≡ false
  are_within-bad room bad = ap (λ ask. within ask (asks_of parts) (nat_le (length (word ∷ parts)) room) (list_any (λ part. bytes_eq part word) parts) (all_different parts)) bad

  pub are_within-twice : (room : ℕ) → list_any (λ part. bytes_eq part word) parts ≡ true → are_within room (word ∷ parts) ≡ false
  are_within-twice room twice =
      ap (λ among. within (ask_of word) (asks_of parts) (nat_le (length (word ∷ parts)) room) among (all_different parts)) twice
      ∙ within-twice (ask_of word) (asks_of parts) (nat_le (length (word ∷ parts)) room) (all_different parts)

  pub are_within-more : (less room : ℕ) → suc less ≡ room → is_some (ask_of word) ≡ true → list_any (λ part. bytes_eq part word) parts ≡ false → are_within room (word ∷ parts) ≡ are_within less parts
  are_within-more less room one good alone =
      ap (λ among. within (ask_of word) (asks_of parts) (nat_le (length (word ∷ parts)) room) among (all_different parts)) alone
      ∙ within-more (ask_of word) (asks_of parts) (nat_le (length (word ∷ parts)) room) (all_different parts) good
      ∙ ap (λ few. is_some (asks_of parts) && few && all_different parts) (one_more (length parts) less room one)

-- too many parts make the asks invalid
no_room : (asks : Bool) (few different : Bool) → few ≡ false → (asks && few && different) ≡ false
no_room true few different none = rw none refl
no_room false few different none = refl

-- with no part allowed, no part is valid
pub are_within-full : (text : List ℕ) → are_within 0 (parts_between 44 text) ≡ false
are_within-full text =
    no_room (is_some (asks_of (parts_between 44 text))) (nat_le (length (parts_between 44 text)) 0) (all_different (parts_between 44 text)) (lt-leb (length (parts_between 44 text)) 0 (parts_between-some text))
