-- Open pairs of a unit and a district. No other pair is a move.
use Rattle.std.specs.Prelude.{◌≡◌, ℕ, ◌+◌, ◌*◌, ◌<◌, ◌≤◌, ◌&&◌, Bool, false, not, List, [], length}
use Rattle.std.specs.List.{list_any, slice_index_or}
use Rattle.audit_model.specs.Graph.{Graph}
use Rattle.audit_model.specs.District.{in_district}

-- the unit is in another district and has a neighbor in this one
abbrev pub is_open : Graph → List ℕ → ℕ → ℕ → Bool
is_open g plan unit district = not (in_district plan district unit) && list_any (in_district plan district) (slice_index_or g.neighbours unit [])

-- the table's entry for a pair, at the place unit * districts + district
abbrev pub flag_of : List Bool → ℕ → ℕ → ℕ → Bool
flag_of table districts unit district = slice_index_or table (unit * districts + district) false

-- the table says of each pair if it is open
pub record MarksOpenPairs (g : Graph) (plan : List ℕ) (districts : ℕ) (table : List Bool) : Type 0 where
  pub width : g.units * districts ≤ length table
  pub each : (u d : ℕ) → u < g.units → d < districts → flag_of table districts u d ≡ is_open g plan u d

-- the table says of each pair if it is open, unless a table of neighbor counts says it
abbrev pub MarksWithoutCounts : Graph → List ℕ → ℕ → List ℕ → List Bool → Type 0
MarksWithoutCounts g plan districts counts table = length counts ≡ 0 → MarksOpenPairs g plan districts table

-- the districts of these neighbors are open to the unit, and the pairs of other units are unchanged
pub record HasOpenedPairs (plan : List ℕ) (districts unit : ℕ) (row : List ℕ) (old new : List Bool) : Type 0 where
  pub width : length new ≡ length old
  pub own : (d : ℕ) → d < districts → flag_of new districts unit d ≡ (not (in_district plan d unit) && list_any (in_district plan d) row)
  pub others : (u d : ℕ) → (u ≡ unit → ⊥) → d < districts → flag_of new districts u d ≡ flag_of old districts u d
