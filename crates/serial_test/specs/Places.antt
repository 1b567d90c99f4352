-- Numbers of positions that divide the draws evenly.
use Rattle.std.specs.Prelude.{◌≡◌, ℕ, ◌*◌, ◌^◌, ◌≤◌, IsTrue}
use Rattle.audit_model.specs.Power.{is_power_of_two}

-- a power of two from 2 to 2 ^ 29
pub record ArePlaces (of : ℕ) : Type 0 where
  pub some : 2 ≤ of
  pub few : of ≤ 536870912
  pub power : IsTrue (is_power_of_two of)

-- the 2 ^ 64 draws are a multiple of the positions, so each position has equally many draws
abbrev pub DividesDraws : ℕ → Type 0
DividesDraws of = (rounds : ℕ) × (rounds * of ≡ 2 ^ 64)
