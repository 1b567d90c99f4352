-- The units of a district, and sums over them.
use Rattle.std.specs.Prelude.{ℕ, ◌==◌, Bool, cond, List, length, slice_index}
use Rattle.audit_model.specs.Below.{sum_below}

-- the plan gives the unit this district
abbrev pub in_district : List ℕ → ℕ → ℕ → Bool
in_district plan district unit = slice_index plan unit == district

-- the sum of a column over the units of a district
abbrev pub district_sum : List ℕ → List ℕ → ℕ → ℕ
district_sum column plan district = sum_below (length plan) (λ u. cond (in_district plan district u) (slice_index column u) 0)
