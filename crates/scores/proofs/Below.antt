-- Counts, sums and lists below a bound, extended by one number.
use Rattle.std.proofs.Common.{◌≡◌, ℕ, ◌+◌, Bool, true, false, [], ◌∷◌, ◌++◌, refl, add-one, arith}
use Rattle.audit_model.specs.Below.{count_below, sum_below, map_below}

-- a count grows by one if the next number passes
pub count_below_yes : (n : ℕ) (test : ℕ → Bool) → test n ≡ true → count_below (n + 1) test ≡ count_below n test + 1
unfolding count_below
count_below_yes n test h = rw (add-one n, h) refl

-- a count stays if the next number does not pass
pub count_below_no : (n : ℕ) (test : ℕ → Bool) → test n ≡ false → count_below (n + 1) test ≡ count_below n test
unfolding count_below
count_below_no n test h = rw (add-one n, h) (omega arith)

-- a sum grows by the next value
pub sum_below_more : (n : ℕ) (f : ℕ → ℕ) → sum_below (n + 1) f ≡ sum_below n f + f n
sum_below_more n f = rw add-one refl

-- a list gets the next value at its end
pub map_below_more : {A : Type 0} (n : ℕ) (f : ℕ → A) → map_below (n + 1) f ≡ map_below n f ++ f n ∷ []
map_below_more n f = rw add-one refl
