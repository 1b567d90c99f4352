-- Division of draws into blocks, by multiplication with an inverse.
use Rattle.std.proofs.Common.{◌≡◌, ℕ, Option, cond, ◌+◌, ◌-◌, ◌*◌, ◌/◌, ◌%◌, ◌^◌, ◌<◌, ◌≤◌, Some, None, sym, ap, ◌∙◌, inl, inr, arith}
use Rattle.std.specs.Prelude.{nat_lt}
use Rattle.std.proofs.Math.Nat.{mul-le-mul_left, mul-le-mul_right}
use Rattle.std.proofs.lemmas.Bool.{cases_lt, cond-true, cond-false, le-ltb, lt-ltb, ltb-true, false_from_ne_true}
use Rattle.std.proofs.lemmas.Nat.{div-add-mod', div-mul-add, mod-mul-add, mod_below, div_below, le-div}
use Rattle.audit_model.proofs.Numbers.{one_more_block}
use Rattle.flip_kernel.specs.Blocks.{place_in}

-- ---- a quotient that is at most one short

-- quotient and remainder of a number given as their combination
divided_at : (blocks size rest : ℕ) → rest < size → ◌≡◌ {A = ℕ × ℕ} ((blocks * size + rest) / size, (blocks * size + rest) % size) (blocks, rest)
divided_at blocks size rest small =
    ap (λ (n : ℕ). (n, (blocks * size + rest) % size)) (div-mul-add blocks size rest small) ∙ ap (λ (n : ℕ). (blocks, n)) (mod-mul-add blocks size rest small)

-- `all` is the number of draws, `inverse` its quotient by the size, and `blocks` the high half of the product
module _ (all draw size inverse blocks : ℕ) (some : 0 < size) (l : draw < all) (enough : inverse * size < all) (most : all ≤ inverse * size + size)
    (low : blocks * all ≤ draw * inverse) (high : draw * inverse < blocks * all + all) where
  -- the product's quotient is not too large
  pub blocks_fit : blocks * size ≤ draw
  blocks_fit = elim (cases_lt draw (blocks * size)) [
    | inr fits ↦ fits
    | inl over ↦
        let one : (draw + 1) * all ≤ blocks * size * all = mul-le-mul_right all (omega (arith, over)) in
        let two : blocks * all * size ≤ draw * inverse * size = mul-le-mul_right size low in
        let three : draw * (inverse * size) ≤ draw * all = mul-le-mul_left draw (omega (arith, enough)) in
        absurd (omega (arith, one, two, three, l))
  ]

  -- the remainder is less than twice the size
  rest_small : draw < blocks * size + 2 * size
  rest_small = elim (cases_lt draw (blocks * size + 2 * size)) [
    | inl small ↦ small
    | inr over ↦
        let one : (blocks * size + 2 * size) * all ≤ draw * all = mul-le-mul_right all over in
        let two : draw * all ≤ draw * (inverse * size + size) = mul-le-mul_left draw most in
        let three : (draw * inverse + 1) * size ≤ (blocks * all + all) * size = mul-le-mul_right size (omega (arith, high)) in
        let four : draw * size ≤ all * size = mul-le-mul_right size (omega (arith, l)) in
        absurd (omega (arith, one, two, three, four, some))
  ]

  -- if the remainder is less than the size, the quotient is right
  pub divided_is : draw - blocks * size < size → ◌≡◌ {A = ℕ × ℕ} (blocks, draw - blocks * size) (draw / size, draw % size)
  divided_is small = sym (ap (λ (n : ℕ). (n / size, n % size)) split ∙ divided_at blocks size (draw - blocks * size) small)
    where
      split : draw ≡ blocks * size + (draw - blocks * size)
      split = omega (arith, blocks_fit)

  -- otherwise the next quotient is right
  pub divided_next : size ≤ draw - blocks * size → ◌≡◌ {A = ℕ × ℕ} (blocks + 1, draw - blocks * size - size) (draw / size, draw % size)
  divided_next large = sym (ap (λ (n : ℕ). (n / size, n % size)) split ∙ divided_at (blocks + 1) size (draw - blocks * size - size) (omega (arith, rest_small, large)))
    where
      split : draw ≡ (blocks + 1) * size + (draw - blocks * size - size)
      split = omega (arith, blocks_fit, large)

-- ---- a quotient that is right, of a small number

-- the quotient of a product of equal numbers
pub record IsQuotient (number inverse quotient : ℕ) : Type 0 where
  pub low : quotient * 2 ^ 64 ≤ number * inverse
  pub high : number * inverse < quotient * 2 ^ 64 + 2 ^ 64

pub quotient_of : (a b number inverse : ℕ) → a ≡ number → b ≡ inverse → IsQuotient number inverse (a * b / 2 ^ 64)
quotient_of a b number inverse ea eb =
    let same : a * b ≡ number * inverse = ap (λ (n : ℕ). n * b) ea ∙ ap (λ (n : ℕ). number * n) eb in
    let parts : a * b / 2 ^ 64 * 2 ^ 64 + a * b % 2 ^ 64 ≡ a * b = div-add-mod' (a * b) (2 ^ 64) in
    let rest : a * b % 2 ^ 64 < 2 ^ 64 = mod_below (a * b) (2 ^ 64) (omega arith) in
    record { low = omega (arith, same, parts); high = omega (arith, same, parts, rest) }

-- `blocks` is the high half of the product of the inverse and the next number
module _ (all number size inverse blocks : ℕ) (little : number * size < all) (enough : inverse * size < all) (most : all ≤ inverse * size + size)
    (low : blocks * all ≤ (number + 1) * inverse) (high : (number + 1) * inverse < blocks * all + all) where
  -- the product's quotient is not too large
  pub small_fits : blocks * size ≤ number
  small_fits = elim (cases_lt number (blocks * size)) [
    | inr fits ↦ fits
    | inl over ↦
        let one : (number + 1) * all ≤ blocks * size * all = mul-le-mul_right all (omega (arith, over)) in
        let two : blocks * all * size ≤ (number + 1) * inverse * size = mul-le-mul_right size low in
        let three : (number + 1) * (inverse * size + 1) ≤ (number + 1) * all = mul-le-mul_left (number + 1) (omega (arith, enough)) in
        absurd (omega (arith, one, two, three))
  ]

  -- and not too small
  small_rest : number < blocks * size + size
  small_rest = elim (cases_lt number (blocks * size + size)) [
    | inl below ↦ below
    | inr over ↦
        let one : (blocks * size + size) * all ≤ number * all = mul-le-mul_right all over in
        let two : (number + 1) * all ≤ (number + 1) * (inverse * size + size) = mul-le-mul_left (number + 1) most in
        let three : ((number + 1) * inverse + 1) * size ≤ (blocks * all + all) * size = mul-le-mul_right size (omega (arith, high)) in
        absurd (omega (arith, one, two, three, little))
  ]

  pub small_divided : ◌≡◌ {A = ℕ × ℕ} (blocks, number - blocks * size) (number / size, number % size)
  small_divided =
      sym (ap (λ (n : ℕ). (n / size, n % size)) split ∙ divided_at blocks size (number - blocks * size) (omega (arith, small_fits, small_rest)))
    where
      split : number ≡ blocks * size + (number - blocks * size)
      split = omega (arith, small_fits)

-- ---- blocks of draws

module _ (draw size last place : ℕ) (some : 0 < size) (whole : last + size ≡ 2 ^ 64) (is : place ≡ draw % size) where
  -- a draw whose block begins at or before `last` has a place
  counted : draw - place ≤ last → draw < 2 ^ 64 / size * size
  counted within =
      let parts : draw / size * size + draw % size ≡ draw = div-add-mod' draw size in
      let rest : draw % size < size = mod_below draw size some in
      let more : (draw / size + 1) * size ≡ draw / size * size + size = one_more_block (draw / size) size in
      let block : (draw / size + 1) * size ≤ 2 ^ 64 = omega (arith, parts, rest, more) in
      let blocks : draw / size + 1 ≤ 2 ^ 64 / size = le-div (draw / size + 1) (2 ^ 64) size some block in
      omega (arith, mul-le-mul_right size blocks, parts, rest, more)

  -- a draw with a place has a block that begins at or before `last`
  ends_below : draw < 2 ^ 64 / size * size → draw - place ≤ last
  ends_below l =
      let parts : draw / size * size + draw % size ≡ draw = div-add-mod' draw size in
      let below : draw / size + 1 ≤ 2 ^ 64 / size = omega (arith, div_below draw size (2 ^ 64 / size) some l) in
      let more : (draw / size + 1) * size ≡ draw / size * size + size = one_more_block (draw / size) size in
      omega (arith, mul-le-mul_right size below, parts, more, div-add-mod' (2 ^ 64) size)

  place_whole : draw - place ≤ last → Some place ≡ place_in size draw
  place_whole within = ap (λ (n : ℕ). Some n) is ∙ sym (cond-true _ _ _ (lt-ltb draw (2 ^ 64 / size * size) (counted within)))

  place_rejected : last < draw - place → None ≡ place_in size draw
  place_rejected beyond = sym (cond-false _ _ _ (false_from_ne_true (nat_lt draw (2 ^ 64 / size * size))
      (λ l. let below = ends_below (ltb-true draw (2 ^ 64 / size * size) l) in omega (arith, below, beyond))))

  -- the place of a draw, by the beginning of its block
  pub place_by : place_in size draw ≡ cond {A = Option ℕ} (nat_lt last (draw - place)) None (Some place)
  place_by = elim (cases_lt last (draw - place)) [
    | inl beyond ↦ sym (place_rejected beyond) ∙ sym (cond-true _ _ _ (lt-ltb last (draw - place) beyond))
    | inr within ↦ sym (place_whole within) ∙ sym (cond-false _ _ _ (le-ltb last (draw - place) within))
  ]
