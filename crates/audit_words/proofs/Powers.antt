-- A number with one digit set is a power of two.
use Rattle.std.proofs.Common.{◌≡◌, ◌∙◌, ℕ, zero, suc, ◌*◌, ◌/◌, ◌%◌, ◌^◌, ◌<◌, Bool, refl, ap, sym, arith, inl, inr}
use Rattle.std.specs.Prelude.{◌==◌}
use Rattle.std.specs.Int.{is_power_of_two}
use Rattle.std.specs.Int.Count.{ones, ones_step}
use Rattle.std.proofs.Math.Nat.{pow-suc}
use Rattle.std.proofs.lemmas.Bool.{cases_Bool, cases_eq, eq-eqb, eqb-true}
use Rattle.std.proofs.lemmas.Nat.{zero_from_ones}
use Rattle.audit_model.specs.Power as definition
use Rattle.audit_model.proofs.Below.{any_below_some, any_below_from}

-- a power of two has a single one among its binary digits
ones_of_power : (k : ℕ) → ones (2 ^ k) ≡ 1
unfolding ones
ones_of_power zero = refl
ones_of_power (suc k) =
    let double : 2 ^ suc k ≡ 2 * 2 ^ k = omega (arith, pow-suc 2 k) in
    let last : 2 ^ suc k % 2 ≡ 0 = omega (arith, double) in
    let half : 2 ^ suc k / 2 ≡ 2 ^ k = omega (arith, double) in
    let rest : ones (2 ^ suc k / 2) ≡ 1 = ap ones half ∙ ones_of_power k in
    ones_step (2 ^ suc k) ∙ omega (arith, last, rest)

-- a number with a single one among its binary digits is a power of two
power_of_one : (m n : ℕ) → n < 2 ^ m → ones n ≡ 1 → (k : ℕ) × (k < m) × (2 ^ k ≡ n)
unfolding ones
power_of_one zero n small one =
    let none : n ≡ 0 = omega (arith, small) in
    let off : ones n ≡ 0 = ap ones none in
    absurd (omega (arith, one, off))
power_of_one (suc m) n small one =
    let step = ones_step n in
    let most : 2 ^ suc m ≡ 2 * 2 ^ m = omega (arith, pow-suc 2 m) in
    elim (cases_eq (n % 2) 0) [
      | inl even ↦
          let found = power_of_one m (n / 2) (omega (arith, small, most)) (omega (arith, step, one, even)) in
          let double : 2 ^ suc found.0 ≡ 2 * 2 ^ found.0 = omega (arith, pow-suc 2 found.0) in
          (suc found.0, omega (arith, found.1), omega (arith, double, found.2, even))
      | inr odd ↦
          let last : n % 2 ≡ 1 = omega (arith, odd) in
          let none : n / 2 ≡ 0 = zero_from_ones (n / 2) (omega (arith, step, one, last)) in
          (0, omega arith, omega (arith, none, last))
    ]

-- std's test of a power of two is the definition's search
pub powers_agree : (n : ℕ) → n < 2 ^ 64 → is_power_of_two n ≡ definition.is_power_of_two n
powers_agree n small =
    let test : ℕ → Bool = λ k. 2 ^ k == n in
    elim (cases_Bool (definition.is_power_of_two n)) [
      | inl is ↦
          let some = any_below_some 64 test is in
          let same : 2 ^ some.0 ≡ n = eqb-true (2 ^ some.0) n some.2 in
          eq-eqb (ones n) 1 (sym (ap ones same) ∙ ones_of_power some.0) ∙ sym is
      | inr isnt ↦ elim (cases_Bool (is_power_of_two n)) [
        | inl one ↦
            let found = power_of_one 64 n small (eqb-true (ones n) 1 one) in
            one ∙ sym (any_below_from 64 test found.0 found.1 (eq-eqb (2 ^ found.0) n found.2))
        | inr off ↦ off ∙ sym isnt
      ]
    ]
