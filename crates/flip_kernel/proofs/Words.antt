-- Booleans as bits of words, place by place.
use mir.Val.{bool_byte}
use Rattle.std.proofs.Common.{◌≡◌, ◌≢◌, ℕ, ◌*◌, ◌/◌, ◌%◌, ◌^◌, ◌<◌, max, bit_and, bit_or, w64, Bool, true, false, cond, ◌==◌, List, length, get_or, set, refl, sym, ap, ◌∙◌, inl, inr, arith, replicate, length-set, get_or-set_same, get_or-set_other}
use Rattle.std.specs.Int.{bit_at, bit_not}
use Rattle.std.proofs.lemmas.Bool.{cases_eq}
use Rattle.std.proofs.lemmas.List.{ext_get_or, length-replicate, get_or-replicate}
use Rattle.std.proofs.lemmas.Nat.Bits.{bit_at-zero, bit_at_or, bit_at_set_same, bit_at_set_other, bit_at_clear_same, bit_at_clear_other}
use Rattle.std.proofs.Math.Nat.{max-zero, zero-mul}
use Rattle.flip_kernel.specs.Flags.{bit_of, flags_of}
use Rattle.audit_model.proofs.Below.{length-map_below, get_or-map_below}

-- each word has 64 Booleans
pub length-flags_of : (words : List ℕ) → length (flags_of words) ≡ 64 * length words
unfolding flags_of
length-flags_of words = length-map_below (64 * length words) (bit_of words)

-- the Boolean at a place is the bit there
pub flag_at : (words : List ℕ) (place : ℕ) → place < length (flags_of words) → get_or (flags_of words) place false ≡ bit_of words place
unfolding flags_of
flag_at words place l = get_or-map_below (64 * length words) (bit_of words) place false (omega (arith, l, length-map_below (64 * length words) (bit_of words)))

-- the word of a place exists
word_inside : (words : List ℕ) (place : ℕ) → place < length (flags_of words) → place / 64 < length words
word_inside words place l = omega (arith, l, length-flags_of words)

-- a Boolean, written as a bit and read again
one_or_none : (flag : Bool) → (cond {A = ℕ} flag 1 0 == 1) ≡ flag
one_or_none true = refl
one_or_none false = refl

-- writing one bit of a word writes one Boolean
pub flags_of-set : (words : List ℕ) (place word : ℕ) (flag : Bool) → place / 64 < length words → bit_at word (place % 64) ≡ cond flag 1 0
    → ((i : ℕ) → i < 64 → i ≢ place % 64 → bit_at word i ≡ bit_at (get_or words (place / 64) 0) i)
    → flags_of (set words (place / 64) word) ≡ set (flags_of words) place flag
flags_of-set words place word flag within own others =
    ext_get_or false (flags_of (set words (place / 64) word)) (set (flags_of words) place flag) width (λ k below. each k (omega (arith, below, same_length)))
  where
    same_length : length (flags_of (set words (place / 64) word)) ≡ length (flags_of words)
    same_length =
        length-flags_of (set words (place / 64) word) ∙ ap (λ (n : ℕ). 64 * n) (length-set words (place / 64) word) ∙ sym (length-flags_of words)

    width : length (flags_of (set words (place / 64) word)) ≡ length (set (flags_of words) place flag)
    width = same_length ∙ sym (length-set (flags_of words) place flag)

    l : place < length (flags_of words)
    l = omega (arith, within, length-flags_of words)

    bit_is : (k : ℕ) → (k ≡ place → ⊥) → bit_of (set words (place / 64) word) k ≡ bit_of words k
    bit_is k off = elim (cases_eq (k / 64) (place / 64)) [
      | inl same ↦
          let here : get_or (set words (place / 64) word) (k / 64) 0 ≡ word =
          ap (λ (i : ℕ). get_or (set words (place / 64) word) i 0) same ∙ get_or-set_same words (place / 64) word 0 within in
          ap (λ (n : ℕ). bit_at n (k % 64) == 1) here
          ∙ ap (λ (b : ℕ). b == 1) (others (k % 64) (omega arith) (λ e. off (omega (arith, same, e))))
          ∙ ap (λ (i : ℕ). bit_at (get_or words i 0) (k % 64) == 1) (sym same)
      | inr apart ↦ ap (λ (n : ℕ). bit_at n (k % 64) == 1) (get_or-set_other words (place / 64) (k / 64) word 0 apart)
    ]

    each : (k : ℕ) → k < length (flags_of words) → get_or (flags_of (set words (place / 64) word)) k false ≡ get_or (set (flags_of words) place flag) k false
    each k below = elim (cases_eq k place) [
      | inl at ↦
          flag_at (set words (place / 64) word) k (omega (arith, below, same_length))
          ∙ ap (bit_of (set words (place / 64) word)) at
          ∙ ap (λ (n : ℕ). bit_at n (place % 64) == 1) (get_or-set_same words (place / 64) word 0 within)
          ∙ ap (λ (b : ℕ). b == 1) own ∙ one_or_none flag
          ∙ sym (ap (λ (i : ℕ). get_or (set (flags_of words) place flag) i false) at ∙ get_or-set_same (flags_of words) place flag false l)
      | inr off ↦
          flag_at (set words (place / 64) word) k (omega (arith, below, same_length)) ∙ bit_is k off
          ∙ sym (get_or-set_other (flags_of words) place k flag false off ∙ flag_at words k below)
    ]

-- words of zeros have no bit set
pub flags_of-zeros : (words : List ℕ) (n : ℕ) → n ≡ length words → flags_of (replicate n 0) ≡ replicate (length (flags_of words)) false
flags_of-zeros words n same = ext_get_or false (flags_of (replicate n 0)) (replicate (length (flags_of words)) false) (width ∙ sym (length-replicate (length (flags_of words)) false)) each
  where
    width : length (flags_of (replicate n 0)) ≡ length (flags_of words)
    width = length-flags_of (replicate n 0) ∙ ap (λ (m : ℕ). 64 * m) (length-replicate {A = ℕ} n 0 ∙ same) ∙ sym (length-flags_of words)

    each : (k : ℕ) → k < length (flags_of (replicate n 0)) → get_or (flags_of (replicate n 0)) k false ≡ get_or (replicate (length (flags_of words)) false) k false
    each k l =
        flag_at (replicate n 0) k l
        ∙ ap (λ (w : ℕ). bit_at w (k % 64) == 1) (get_or-replicate n (k / 64) 0 0 (omega (arith, word_inside (replicate n 0) k l, length-replicate {A = ℕ} n 0)))
        ∙ ap (λ (b : ℕ). b == 1) (bit_at-zero (k % 64))
        ∙ sym (get_or-replicate (length (flags_of words)) k false false (omega (arith, l, width)))

-- ---- a word with a bit written

-- the word with the bit cleared
abbrev pub without : ℕ → ℕ → ℕ
without word bit = bit_and word (bit_not w64 (1 * 2 ^ bit % 2 ^ 64))

-- adding no bit changes no bit
nothing_put : (word bit i : ℕ) → bit_at (bit_or (without word bit) (0 * 2 ^ bit % 2 ^ 64)) i ≡ bit_at (without word bit) i
nothing_put word bit i =
    ap (λ (n : ℕ). bit_at (bit_or (without word bit) (n % 2 ^ 64)) i) (zero-mul (2 ^ bit))
    ∙ bit_at_or (without word bit) 0 i
    ∙ ap (λ (n : ℕ). max (bit_at (without word bit) i) n) (bit_at-zero i)
    ∙ max-zero (bit_at (without word bit) i)

-- the bit is the one written
pub put_own : (word bit : ℕ) (flag : Bool) → bit < 64 → bit_at (bit_or (without word bit) (bool_byte flag * 2 ^ bit % 2 ^ 64)) bit ≡ cond flag 1 0
put_own word bit true l = bit_at_set_same w64 (without word bit) bit l
put_own word bit false l = nothing_put word bit bit ∙ bit_at_clear_same w64 word bit l

-- each other bit is unchanged
pub put_other : (word bit : ℕ) (flag : Bool) → bit < 64 → (i : ℕ) → i < 64 → i ≢ bit
    → bit_at (bit_or (without word bit) (bool_byte flag * 2 ^ bit % 2 ^ 64)) i ≡ bit_at word i
put_other word bit true l i li off = bit_at_set_other w64 (without word bit) bit l i off ∙ bit_at_clear_other w64 word bit l i li off
put_other word bit false l i li off = nothing_put word bit i ∙ bit_at_clear_other w64 word bit l i li off
