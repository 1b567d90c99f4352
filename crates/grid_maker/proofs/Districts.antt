-- The districts of the grid's units.
use Rattle.std.proofs.Common.{◌≡◌, ℕ, ◌*◌, ◌/◌, ◌<◌, ◌≤◌, sym, ap, ◌∙◌, subst, arith, add-zero}
use Rattle.std.proofs.lemmas.Nat.{div-mul-add, mul-add-lt, mul-le, div_below}
use Rattle.audit_statement.specs.Grid.{grid_side}

-- the district of a unit
abbrev pub district_of : ℕ → ℕ → ℕ
district_of size unit = unit / grid_side size / size

-- the number of units
abbrev pub units_of : ℕ → ℕ
units_of size = grid_side size * grid_side size

-- a grid has at most 90,000 units
pub few_units : (size : ℕ) → size ≤ 30 → units_of size ≤ 90000
few_units size few = mul-le (grid_side size) (grid_side size) 300 300 (omega (arith, few)) (omega (arith, few))

-- each unit's district is one of ten
pub district_below : (size unit : ℕ) → 1 ≤ size → unit < units_of size → district_of size unit < 10
district_below size unit some l =
    div_below (unit / grid_side size) size 10 (omega (arith, some)) (div_below unit (grid_side size) (grid_side size) (omega (arith, some)) l)

-- the first unit of a district
abbrev pub first_of : ℕ → ℕ → ℕ
first_of size district = district * size * grid_side size

-- dividing a multiple gives the factor
divided : (q w : ℕ) → 0 < w → q * w / w ≡ q
divided q w some = ap (λ (n : ℕ). n / w) (sym (add-zero (q * w))) ∙ div-mul-add q w 0 some

-- the first unit of a district lies in it
pub first_district : (size district : ℕ) → 1 ≤ size → district_of size (first_of size district) ≡ district
first_district size district some =
    ap (λ (n : ℕ). n / size) (divided (district * size) (grid_side size) (omega (arith, some))) ∙ divided district size (omega (arith, some))

-- a unit before the first one of a district lies in an earlier district
pub before_first : (size district unit : ℕ) → 1 ≤ size → unit < first_of size district → district_of size unit < district
before_first size district unit some l =
    div_below (unit / grid_side size) size district (omega (arith, some)) (div_below unit (grid_side size) (district * size) (omega (arith, some)) l)

-- each of the ten districts has a unit
pub first_inside : (size district : ℕ) → 1 ≤ size → district < 10 → first_of size district < units_of size
first_inside size district some l =
    let small : district * size ≤ 9 * size = mul-le district size 9 size (omega (arith, l)) (omega arith) in
    let inside : district * size < grid_side size = omega (arith, small, some) in
    let w : ℕ = grid_side size in
    subst (λ n. n < w * w) (add-zero (district * size * w)) (mul-add-lt (district * size) w 0 w inside (omega (arith, some)))
