-- The number of each unit's neighbors in each district, with a mark at the unit's own district.
use Rattle.std.specs.Prelude.{◌≡◌, ℕ, ◌+◌, ◌*◌, ◌<◌, ◌≤◌, ◌==◌, ◌&&◌, Bool, cond, not, nat_lt, IsTrue, List, length, slice_index, count_by}
use Rattle.audit_model.specs.Graph.{Graph, has}
use Rattle.audit_model.specs.District.{in_district}
use Rattle.audit_model.specs.Length.{degree}
use Rattle.audit_model.specs.Local.{is_mate}
use Rattle.district_sums.specs.Following.{count_near}

-- a pair's entry: the number of the unit's neighbors in the district, plus 128 if the unit is in the district itself
abbrev pub entry : Graph → List ℕ → ℕ → ℕ → ℕ
entry g plan unit district = count_near g plan unit district + cond {A = ℕ} (in_district plan district unit) 128 0

-- the entry of a unit with at most 127 neighbors shows that the unit is in another district and has a neighbor in this one
abbrev pub shows_open : ℕ → Bool
shows_open n = not (n == 0) && nat_lt n 128

-- no unit has more than 127 neighbors
abbrev pub HasShortRows : Graph → Type 0
HasShortRows g = (u : ℕ) → u < g.units → degree g u ≤ 127

-- the table's number for a pair, at the place unit * districts + district
abbrev pub near_of : List ℕ → ℕ → ℕ → ℕ → ℕ
near_of table districts unit district = slice_index table (unit * districts + district)

-- the table has each pair's entry, and no unit has more than 127 neighbors
pub record AreNear (g : Graph) (plan : List ℕ) (districts : ℕ) (table : List ℕ) : Type 0 where
  pub short : HasShortRows g
  pub width : g.units * districts ≤ length table
  pub each : (u d : ℕ) → u < g.units → d < districts → near_of table districts u d ≡ entry g plan u d

-- the table is empty, or has each pair's entry
abbrev pub CountsNeighbors : Graph → List ℕ → ℕ → List ℕ → Type 0
CountsNeighbors g plan districts table = 0 < length table → AreNear g plan districts table

-- v is a neighbor of u in u's district, and has no other neighbor there
pub record IsLoneMate (g : Graph) (plan : List ℕ) (u v : ℕ) : Type 0 where
  pub mate : IsTrue (is_mate g plan u v)
  pub lone : count_near g plan v (slice_index plan u) ≡ 1

-- u has two neighbors or more in its district, and one of them has no other neighbor there
pub record HasLoneMate (g : Graph) (plan : List ℕ) (u : ℕ) : Type 0 where
  pub several : 2 ≤ count_near g plan u (slice_index plan u)
  pub some : (v : ℕ) × IsLoneMate g plan u v

-- the table has a place for each pair, and no unit has more than 127 neighbors
pub record HasPlaces (g : Graph) (districts : ℕ) (table : List ℕ) : Type 0 where
  pub short : HasShortRows g
  pub width : g.units * districts ≤ length table

-- the table is empty, or has a place for each pair
abbrev pub HasPairs : Graph → ℕ → List ℕ → Type 0
HasPairs g districts table = 0 < length table → HasPlaces g districts table

-- the unit's entries are those of these neighbors, and the entries of other units are unchanged
pub record HasCounted (plan : List ℕ) (districts unit : ℕ) (row : List ℕ) (old new : List ℕ) : Type 0 where
  pub width : length new ≡ length old
  pub own : (d : ℕ) → d < districts
      → near_of new districts unit d ≡ count_by (in_district plan d) row + cond {A = ℕ} (in_district plan d unit) 128 0
  pub others : (u d : ℕ) → (u ≡ unit → ⊥) → d < districts → near_of new districts u d ≡ near_of old districts u d

-- each unit of the row has one neighbor less in the one district, and one more in the other
pub record HasMoved (districts from to : ℕ) (row : List ℕ) (old new : List ℕ) : Type 0 where
  pub width : length new ≡ length old
  pub each : (u d : ℕ) → d < districts → near_of new districts u d + cond {A = ℕ} (has row u && (from == d)) 1 0
      ≡ near_of old districts u d + cond {A = ℕ} (has row u && (to == d)) 1 0

-- the amount is taken from the number at one place, and added to the number at another
pub record HasPassed (amount from to : ℕ) (old new : List ℕ) : Type 0 where
  pub width : length new ≡ length old
  pub each : (k : ℕ) → slice_index new k + cond {A = ℕ} (from == k) amount 0 ≡ slice_index old k + cond {A = ℕ} (to == k) amount 0
