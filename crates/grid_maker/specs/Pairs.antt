-- The pairs of adjacent units of a grid, smaller unit first, in rising order.
use Rattle.std.specs.Prelude.{ℕ, zero, suc, List, [], ◌∷◌, ◌++◌, Option, None, Some}
use Rattle.grid_maker.specs.Beside.{right, below}

-- the pairs, followed by the pair of a unit and its neighbor if there is one
abbrev pub extended : List (ℕ × ℕ) → ℕ → Option ℕ → List (ℕ × ℕ)
extended pairs u None = pairs
extended pairs u (Some v) = pairs ++ (u, v) ∷ []

-- the pairs of each of the first units with the unit to its right and the unit below
abbrev pub pairs_until : ℕ → ℕ → List (ℕ × ℕ)
pairs_until side zero = []
pairs_until side (suc u) = extended (extended (pairs_until side u) u (right side u)) u (below side u)
