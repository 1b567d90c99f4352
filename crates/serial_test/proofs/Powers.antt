-- Powers of two divide 2 ^ 64.
use Rattle.std.proofs.Common.{◌≡◌, ◌∙◌, ℕ, ◌+◌, ◌-◌, ◌*◌, ◌^◌, ◌≤◌, true, ap, sym, arith, inl, inr}
use Rattle.std.specs.Prelude.{◌==◌}
use Rattle.std.proofs.Math.Pow.{pow_mono}
use Rattle.std.proofs.lemmas.Bool.{cases_lt, eqb-true}
use Rattle.std.proofs.lemmas.Nat.{pow-add}
use Rattle.audit_model.specs.Power.{is_power_of_two}
use Rattle.audit_model.proofs.Below.{any_below_some}
use Rattle.serial_test.specs.Places.{ArePlaces, DividesDraws}

-- a power of two divides the number of draws
pub divides_draws : (of : ℕ) → ArePlaces of → DividesDraws of
divides_draws of h =
    let some = any_below_some 64 (λ k. 2 ^ k == of) h.power in
    let k = some.0 in
    let same : 2 ^ k ≡ of = eqb-true (2 ^ k) of some.2 in
    let rest : (64 - k) + k ≡ 64 = omega (arith, some.1) in
    (2 ^ (64 - k), ap (λ (n : ℕ). 2 ^ (64 - k) * n) (sym same) ∙ sym (pow-add 2 (64 - k) k) ∙ ap (λ (n : ℕ). 2 ^ n) rest)

-- a power of two that is at most the plans of a walk is at most 2 ^ 29
few_places : (k n : ℕ) → 2 ^ k ≡ n → n ≤ 1000000001 → n ≤ 536870912
few_places k n same few = elim (cases_lt k 30) [
  | inl low ↦ let most : 2 ^ k ≤ 2 ^ 29 = pow_mono {i = k} {j = 29} (omega (arith, low)) in omega (arith, same, most)
  | inr high ↦ let least : 2 ^ 30 ≤ 2 ^ k = pow_mono {i = 30} {j = k} high in absurd (omega (arith, same, few, least))
]

-- a run whose number of plans is a power of two has at most 2 ^ 29 plans
pub run_has_places : (steps : ℕ) → 1 ≤ steps → steps ≤ 1000000000 → is_power_of_two (steps + 1) ≡ true → ArePlaces (steps + 1)
run_has_places steps some few power =
    let found = any_below_some 64 (λ k. 2 ^ k == steps + 1) power in
    record {
      some = omega (arith, some);
      few = few_places found.0 (steps + 1) (eqb-true (2 ^ found.0) (steps + 1) found.2) (omega (arith, few));
      power = power;
    }
