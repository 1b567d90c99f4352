-- The escaped form of a text.
use Rattle.std.proofs.Common.{◌≡◌, ℕ, ◌+◌, ◌*◌, ◌<◌, ◌≤◌, ◌/◌, ◌%◌, List, [], ◌∷◌, ◌∙◌, length, get_or, refl, ap, sym, arith, length-append}
use Rattle.std.specs.Prelude.{cond, nat_lt}
use Rattle.std.specs.Char.{digit_char}
use Rattle.std.proofs.lemmas.Bool.{cond-true, cond-false, cond_both, le-ltb, lt-ltb}
use Rattle.json.specs.Print.{escape, escape_byte, escape_letter, quoted}
use Rattle.report.proofs.Widths.{length-flat_map-le}

-- the form of a byte without a short escape
abbrev pub plainly : ℕ → List ℕ
plainly x = cond (nat_lt x 32) (92 ∷ 117 ∷ 48 ∷ 48 ∷ digit_char (x / 16) ∷ digit_char (x % 16) ∷ []) (x ∷ [])

-- a byte with a short escape
pub escaped_shortly : (x letter : ℕ) → letter ≡ escape_letter x → 0 < letter → 92 ∷ letter ∷ [] ≡ escape_byte x
unfolding escape_byte
escaped_shortly x letter e some =
    ap (λ l. 92 ∷ l ∷ []) e
    ∙ sym (cond-true (nat_lt 0 (escape_letter x)) (92 ∷ escape_letter x ∷ []) (plainly x) (ap (nat_lt 0) (sym e) ∙ lt-ltb 0 letter some))

-- a byte without a short escape
not_shortly : (x letter : ℕ) → letter ≡ escape_letter x → letter ≤ 0 → plainly x ≡ escape_byte x
unfolding escape_byte
not_shortly x letter e none =
    sym (cond-false (nat_lt 0 (escape_letter x)) (92 ∷ escape_letter x ∷ []) (plainly x) (ap (nat_lt 0) (sym e) ∙ le-ltb 0 letter none))

-- a byte escaped by its number
pub escaped_by_number : (x letter high low : ℕ) → letter ≡ escape_letter x → letter ≤ 0 → x < 32 → high ≡ digit_char (x / 16) → low ≡ digit_char (x % 16)
    → 92 ∷ 117 ∷ 48 ∷ 48 ∷ high ∷ low ∷ [] ≡ escape_byte x
escaped_by_number x letter high low e none small h l =
    rw (h, l) refl
    ∙ sym (cond-true (nat_lt x 32) (92 ∷ 117 ∷ 48 ∷ 48 ∷ digit_char (x / 16) ∷ digit_char (x % 16) ∷ []) (x ∷ []) (lt-ltb x 32 small))
    ∙ not_shortly x letter e none

-- a byte written as it is
pub as_it_is : (x letter : ℕ) → letter ≡ escape_letter x → letter ≤ 0 → 32 ≤ x → x ∷ [] ≡ escape_byte x
as_it_is x letter e none large =
    sym (cond-false (nat_lt x 32) (92 ∷ 117 ∷ 48 ∷ 48 ∷ digit_char (x / 16) ∷ digit_char (x % 16) ∷ []) (x ∷ []) (le-ltb x 32 large))
    ∙ not_shortly x letter e none

-- ---- the length of the escaped form

-- a byte takes at most six bytes
pub length-escape_byte : (x : ℕ) → length (escape_byte x) ≤ 6
unfolding escape_byte
length-escape_byte x =
    cond_both {A = List ℕ} (nat_lt 0 (escape_letter x)) (92 ∷ escape_letter x ∷ []) (plainly x) (λ t. length t ≤ 6) (λ _. omega arith)
    (λ _. cond_both {A = List ℕ} (nat_lt x 32) (92 ∷ 117 ∷ 48 ∷ 48 ∷ digit_char (x / 16) ∷ digit_char (x % 16) ∷ []) (x ∷ []) (λ t. length t ≤ 6) (λ _. omega arith) (λ _. omega arith))

-- a text takes at most six for each of its bytes, and two quotes
pub length-quoted : (text : List ℕ) → length (quoted text) ≤ 2 + length text * 6
length-quoted text =
    let escaped = length-flat_map-le escape_byte 6 text (λ k d l. length-escape_byte (get_or text k d)) in
    let whole = length-append (escape text) (34 ∷ []) in
    omega (arith, escaped, whole)
