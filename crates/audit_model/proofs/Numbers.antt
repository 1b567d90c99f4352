-- Products: rows of places, and blocks.
use Rattle.std.proofs.Common.{◌≡◌, ℕ, ◌+◌, ◌*◌, ◌<◌, subst, arith}
use Rattle.std.proofs.Math.Nat.{mul_comm, add-mul}
use Rattle.std.proofs.lemmas.Nat.{mul-add-lt}

-- a place of a row is below the number of all places
pub place_below : (row place rows width : ℕ) → row < rows → place < width → row * width + place < rows * width
place_below row place rows width r p = subst (λ m. row * width + place < m) (mul_comm width rows) (mul-add-lt row width place rows r p)

-- one more block
pub one_more_block : (blocks size : ℕ) → (blocks + 1) * size ≡ blocks * size + size
one_more_block blocks size = omega (arith, add-mul blocks 1 size)
