-- The greatest lengths of a word, a line and a list of lines.
use Rattle.std.proofs.Common.{◌≡◌, ℕ, zero, suc, ◌+◌, ◌-◌, ◌*◌, ◌/◌, ◌%◌, ◌^◌, ◌<◌, ◌≤◌, Bool, false, List, [], ◌∷◌, ◌++◌, length, flat_map, refl, ap, arith, length-append, replicate, decimal, ℤ, pos, negsuc}
use Rattle.std.proofs.lemmas.Bool.{cond_both}
use Rattle.std.proofs.lemmas.Fmt.{length-decimal-le}
use Rattle.std.proofs.lemmas.List.{length-replicate}
use Rattle.std.proofs.lemmas.List.Concat.{length-flat_map}
use Rattle.std.proofs.lemmas.List.Sums.{sum_by-le}
use Rattle.std.specs.Fmt.{signed_decimal, digits, digits_onto, digit_glyph}
use Rattle.std.specs.List.{All}
use Rattle.report.specs.Lines.{tail_of}
use Rattle.report.proofs.Written.{line-cons}
use Rattle.audit_statement.specs.Report.{line, nine_digits, billionths, fraction}

-- ---- numbers

-- k steps of division give at most k digits
length-digits_onto : (k base : ℕ) (upper : Bool) (n : ℕ) (acc : List ℕ) → length (digits_onto k base upper n acc) ≤ k + length acc
length-digits_onto zero base upper n acc = omega arith
length-digits_onto (suc k) base upper n acc =
    cond_both {A = List ℕ} _ (digit_glyph upper (n % base) ∷ acc) (digits_onto k base upper (n / base) (digit_glyph upper (n % base) ∷ acc))
    (λ t. length t ≤ suc k + length acc) (λ _. omega arith)
    (λ _. let rest = length-digits_onto k base upper (n / base) (digit_glyph upper (n % base) ∷ acc) in omega (arith, rest))

-- any number takes at most 64 bytes
pub length-decimal_any : (n : ℕ) → length (decimal n) ≤ 64
unfolding digits
length-decimal_any n = length-digits_onto 64 10 false n []

-- a whole number takes at most 65 bytes
pub length-signed_any : (z : ℤ) → length (signed_decimal z) ≤ 65
length-signed_any (pos n) = omega (arith, length-decimal_any n)
length-signed_any (negsuc n) = omega (arith, length-decimal_any (suc n))

-- a fraction whose denominator is below 10 ^ 15 takes at most 81 bytes
pub length-fraction : (top : ℤ) (bottom : ℕ) → bottom < 10 ^ 15 → length (fraction top bottom) ≤ 81
length-fraction top bottom small =
    let whole = length-append (signed_decimal top) (47 ∷ decimal bottom) in
    omega (arith, whole, length-signed_any top, length-decimal-le 15 bottom (omega arith) small (omega arith))

-- nine digits take nine bytes
length-nine_digits : (n : ℕ) → n < 10 ^ 9 → length (nine_digits n) ≤ 9
length-nine_digits n small =
    let short : length (decimal n) ≤ 9 = length-decimal-le 9 n (omega arith) small (omega arith) in
    let whole = length-append (replicate (9 - length (decimal n)) 48) (decimal n) in
    let zeros = length-replicate {A = ℕ} (9 - length (decimal n)) 48 in
    omega (arith, short, whole, zeros)

-- a number of billionths below 10 ^ 18 takes at most 19 bytes
pub length-billionths : (n : ℕ) → n < 10 ^ 18 → length (billionths n) ≤ 19
length-billionths n small =
    let whole = length-append (decimal (n / 10 ^ 9)) (46 ∷ nine_digits (n % 10 ^ 9)) in
    let front : length (decimal (n / 10 ^ 9)) ≤ 9 = length-decimal-le 9 (n / 10 ^ 9) (omega arith) (omega arith) (omega arith) in
    let back : length (nine_digits (n % 10 ^ 9)) ≤ 9 = length-nine_digits (n % 10 ^ 9) (omega arith) in
    omega (arith, whole, front, back)

-- ---- lines

-- the length of the words, with one more byte for each
abbrev pub width : List (List ℕ) → ℕ
width [] = 0
width (word ∷ words) = length word + 1 + width words

-- the width of two lists of words is the sum
pub width-append : (words more : List (List ℕ)) → width (words ++ more) ≡ width words + width more
width-append [] more = omega arith
width-append (word ∷ words) more = let rest = width-append words more in omega (arith, rest)

-- the words after the first take their width and one byte for the line's end
length-tail_of : (words : List (List ℕ)) → length (tail_of words) ≡ 1 + width words
length-tail_of [] = refl
length-tail_of (word ∷ words) =
    let whole = length-append word (tail_of words) in
    let rest = length-tail_of words in
    omega (arith, whole, rest)

-- the length of a line is the width of its words
pub length-line : (word : List ℕ) (words : List (List ℕ)) → length (line (word ∷ words)) ≡ width (word ∷ words)
length-line word words =
    let whole = length-append word (tail_of words) in
    let rest = length-tail_of words in
    omega (arith, ap length (line-cons word words), whole, rest)

-- joined pieces, each within a bound, are at most that bound for each
pub length-flat_map-le : {X : Type 0} (piece : X → List ℕ) (most : ℕ) (xs : List X) → All (λ x. length (piece x) ≤ most) xs
    → length (flat_map piece xs) ≤ length xs * most
length-flat_map-le piece most xs each =
    let sum = length-flat_map piece xs in
    let few = sum_by-le (λ x. length (piece x)) most xs each in
    omega (arith, sum, few)
