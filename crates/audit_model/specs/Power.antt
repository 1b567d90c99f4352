-- Powers of two.
use Rattle.std.specs.Prelude.{ℕ, ◌^◌, ◌==◌, Bool}
use Rattle.audit_model.specs.Below.{any_below}

-- a 64-bit number is a power of two
abbrev pub is_power_of_two : ℕ → Bool
is_power_of_two n = any_below 64 (λ k. 2 ^ k == n)
