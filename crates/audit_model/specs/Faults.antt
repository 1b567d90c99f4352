-- Counts of faults, and the results that they explain.
use Rattle.std.specs.Prelude.{◌≡◌, ℕ, ◌+◌, ◌-◌, ◌^◌, ◌<◌, ◌≤◌, min, Result, OnOk, OnErr}

-- the count has risen, or has reached its maximum
abbrev pub Rose : ℕ → ℕ → Type 0
Rose before now = min (before + 1) (2 ^ 64 - 1) ≤ now

-- a count never falls, and stops at its maximum
pub record Counts (before now : ℕ) : Type 0 where
  pub later : before ≤ now
  pub within : before < 2 ^ 64 → now < 2 ^ 64

-- the call failed only if the count rose, and succeeded only if it stayed
pub record HasCause {T E : Type 0} (before now : ℕ) (result : Result T E) : Type 0 where
  pub counts : Counts before now
  pub failed : OnErr result (Rose before now)
  pub passed : OnOk result (now ≡ before)
