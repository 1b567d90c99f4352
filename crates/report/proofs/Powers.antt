-- Powers of 64 that fit 128 bits.
use Rattle.std.proofs.Common.{ℕ, ◌*◌, ◌^◌, ◌≤◌, arith}
use Rattle.std.proofs.Math.Nat.{mul-le-mul, pow-le-pow_right}

-- a power of 64 with at most ten digits
pub power_small : (k : ℕ) → k ≤ 10 → 64 ^ k ≤ 64 ^ 10
power_small k l = pow-le-pow_right {n = 64} (omega arith) {i = k} {j = 10} l

-- its product with the number of pairs of a unit and a district
pub product_small : (pairs k : ℕ) → pairs ≤ 20000000 → k ≤ 10 → pairs * 64 ^ k ≤ 20000000 * 64 ^ 10
product_small pairs k l few = mul-le-mul l (power_small k few)
