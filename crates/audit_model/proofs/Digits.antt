-- The largest change of cut edges in one step.
use Rattle.std.proofs.Common.{◌≡◌, ℕ, zero, suc, ◌+◌, ◌-◌, ◌*◌, ◌^◌, ◌<◌, ◌≤◌, Bool, true, false, cond, refl, sym, ◌∙◌, subst, inl, inr, arith}
use Rattle.std.specs.Prelude.{◌↔◌, nat_le}
use Rattle.std.proofs.Math.Nat.{mul-le-mul_left, pow-le-pow_right}
use Rattle.std.proofs.lemmas.Bool.{cases_Bool, cases_eq, cond-true, cond-false, le-leb, leb-true, leb-false, both_ways, false_from_ne_true}
use Rattle.audit_model.specs.Below.{count_below}
use Rattle.audit_model.specs.Weight.{largest_change}
use Rattle.audit_model.proofs.Below.{count_below_le, count_below_same}
use Rattle.audit_model.proofs.Blocks.{count_all}

-- a test that passes no number after one that fails
module _ (test : ℕ → Bool) (falling : (k : ℕ) → test (suc k) ≡ true → test k ≡ true) where
  before : (k j : ℕ) → j ≤ k → test k ≡ true → test j ≡ true
  before zero j l h = let e : zero ≡ j = omega (arith, l) in subst (λ (i : ℕ). test i ≡ true) e h
  before (suc k) j l h = elim (cases_eq j (suc k)) [
    | inl e ↦ subst (λ (i : ℕ). test i ≡ true) (sym e) h
    | inr off ↦ before k j (omega (arith, l, off)) (falling k h)
  ]

  -- a number that passes is below the count
  below_count : (n k : ℕ) → k < n → test k ≡ true → k < count_below n test
  unfolding count_below
  below_count zero k l h = absurd (omega (arith, l))
  below_count (suc n) k l h = elim (cases_Bool (test n)) [
    | inl last ↦
        let all : count_below n test ≡ n = count_below_same n test (λ _. true) (λ j lj. before n j (omega (arith, lj)) last) ∙ count_all n in
        let one : cond {A = ℕ} (test n) 1 0 ≡ 1 = cond-true {A = ℕ} (test n) 1 0 last in
        omega (arith, l, all, one)
    | inr fails ↦
        let off : k ≡ n → ⊥ = λ e. both_ways (test n) fails (subst (λ (i : ℕ). test i ≡ true) e h) in
        omega (arith, below_count n k (omega (arith, l, off)) h)
  ]

  -- the count is at most a number that fails
  count_until : (n k : ℕ) → test k ≡ false → count_below n test ≤ k
  unfolding count_below
  count_until zero k h = omega arith
  count_until (suc n) k h = elim (cases_Bool (nat_le k n)) [
    | inr less ↦ let l : n < k = leb-false k n less in let most : count_below (suc n) test ≤ suc n = count_below_le (suc n) test in omega (arith, l, most)
    | inl more ↦
        let fails : test n ≡ false = false_from_ne_true (test n) (λ passes. both_ways (test k) h (before n k (leb-true k n more) passes)) in
        let none : cond {A = ℕ} (test n) 1 0 ≡ 0 = cond-false {A = ℕ} (test n) 1 0 fails in
        omega (arith, count_until n k h, none)
  ]

-- one more digit needs more draws
module _ (pairs : ℕ) where
  fits : ℕ → Bool
  fits m = nat_le (pairs * 64 ^ (m + 2)) (2 ^ 64)

  fits_less : (m : ℕ) → fits (suc m) ≡ true → fits m ≡ true
  unfolding fits
  fits_less m h =
      let more : pairs * 64 ^ (suc m + 2) ≤ 2 ^ 64 = leb-true (pairs * 64 ^ (suc m + 2)) (2 ^ 64) h in
      let power : 64 ^ (m + 2) ≤ 64 ^ (suc m + 2) = pow-le-pow_right (omega arith) (omega arith) in
      le-leb (pairs * 64 ^ (m + 2)) (2 ^ 64) (omega (arith, more, mul-le-mul_left pairs power))

  largest_is : largest_change pairs ≡ count_below 9 fits
  unfolding fits
  largest_is = refl

  pub greatest : (m : ℕ) → 0 < pairs → 0 < m → (m ≤ largest_change pairs) ↔ (pairs * 64 ^ (m + 1) ≤ 2 ^ 64)
  unfolding fits
  greatest m some above = (
    λ l. elim (cases_Bool (fits (m - 1))) [
      | inl yes_fits ↦ subst (λ (k : ℕ). pairs * 64 ^ k ≤ 2 ^ 64) next (leb-true (pairs * 64 ^ (m - 1 + 2)) (2 ^ 64) yes_fits)
      | inr fails ↦ absurd (omega (arith, l, above, largest_is, count_until fits fits_less 9 (m - 1) fails))
    ],
    λ l. elim (cases_Bool (nat_le 9 (m - 1))) [
      | inr less ↦
          let passes : fits (m - 1) ≡ true = le-leb (pairs * 64 ^ (m - 1 + 2)) (2 ^ 64) (subst (λ (k : ℕ). pairs * 64 ^ k ≤ 2 ^ 64) (sym next) l) in
          omega (arith, largest_is, above, below_count fits fits_less 9 (m - 1) (leb-false 9 (m - 1) less) passes)
      | inl many ↦
          let few : 9 ≤ m - 1 = leb-true 9 (m - 1) many in
          let power : 64 ^ 11 ≤ 64 ^ (m + 1) = pow-le-pow_right {n = 64} (omega arith) {i = 11} {j = m + 1} (omega (arith, few)) in
          absurd (omega (arith, l, power, mul-le-mul_left (64 ^ (m + 1)) some))
    ],
  )
    where
      next : m - 1 + 2 ≡ m + 1
      next = omega (arith, above)
