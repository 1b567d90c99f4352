-- The neighbors of a unit in the order of the faces round it.
use Rattle.std.specs.Prelude.{◌≡◌, ℕ, zero, suc, ◌<◌, ◌-◌, ◌⊎◌, ◌&&◌, Bool, true, false, not, IsTrue, IsFalse, List, [], length, map, slice_set, count_by, All}
use Rattle.std.specs.List.{slice_index_or}
use Rattle.audit_model.specs.Below.{count_below}
use Rattle.audit_model.specs.Graph.{Graph, has}
use Rattle.contig.specs.Corners.{is_filled, corners_at, units_of}
use Rattle.contig.specs.declared.corner.Corner.{Corner}
use Rattle.contig.specs.declared.sector.Sector.{Sector}

-- no sector
abbrev pub blank : Sector
blank = record { near = 0; far = 0; faced = false }

-- the sector at a position
abbrev pub sector_at : List Sector → ℕ → Sector
sector_at sectors i = slice_index_or sectors i blank

-- the neighbor at a position
abbrev pub near_at : List Sector → ℕ → ℕ
near_at sectors i = (sector_at sectors i).near

-- the position before this one, among this many round a unit
abbrev pub before : ℕ → ℕ → ℕ
before count zero = count - 1
before count (suc i) = i

-- the face of a sector lies in the set, with the neighbors on both of its sides
abbrev pub is_joined : (ℕ → Bool) → List Sector → ℕ → Bool
is_joined inside sectors i = (sector_at sectors i).faced
    && (inside (near_at sectors i) && (inside (near_at sectors (before (length sectors) i)) && inside (sector_at sectors i).far))

-- the neighbor at a position is in the set, and no face joins it to the one before
abbrev pub is_start : (ℕ → Bool) → List Sector → ℕ → Bool
is_start inside sectors i = inside (near_at sectors i) && not (is_joined inside sectors i)

-- x and y are the neighbors on the two sides of a sector
abbrev pub IsBetween : List Sector → ℕ → ℕ → ℕ → Type 0
IsBetween sectors i x y = ((near_at sectors i ≡ x) × (near_at sectors (before (length sectors) i) ≡ y)) ⊎ ((near_at sectors i ≡ y) × (near_at sectors (before (length sectors) i) ≡ x))

-- the corner is that of the sector's face
pub record IsSeated (sectors : List Sector) (i : ℕ) (corner : ℕ × ℕ × ℕ × ℕ) : Type 0 where
  pub within : i < length sectors
  pub faced : IsTrue (sector_at sectors i).faced
  pub far : (sector_at sectors i).far ≡ corner.2
  pub further : (sector_at sectors i).far ≡ corner.3
  pub ends : IsBetween sectors i corner.0 corner.1

-- the faces of the sectors are those of the corners
pub record HasSeats (corners : List (ℕ × ℕ × ℕ × ℕ)) (sectors : List Sector) : Type 0 where
  pub placed : (k : ℕ) → k < length corners → (i : ℕ) × IsSeated sectors i (slice_index_or corners k (0, 0, 0, 0))
  pub taken : (i : ℕ) → i < length sectors → IsTrue (sector_at sectors i).faced → (k : ℕ) × (k < length corners) × IsSeated sectors i (slice_index_or corners k (0, 0, 0, 0))
  pub counted : (inside : ℕ → Bool) → count_by (is_filled inside) corners ≡ count_below (length sectors) (is_joined inside sectors)

-- each of these units is at one position, and no others are
pub record HasNear (row : List ℕ) (sectors : List Sector) : Type 0 where
  pub all : (v : ℕ) → IsTrue (has row v) → (i : ℕ) × (i < length sectors) × (near_at sectors i ≡ v)
  pub only : (i : ℕ) → i < length sectors → IsTrue (has row (near_at sectors i))
  pub once : (i j : ℕ) → i < length sectors → j < length sectors → near_at sectors i ≡ near_at sectors j → i ≡ j

-- a sector of this neighbor, without a face
abbrev pub blank_at : ℕ → Sector
blank_at v = record { near = v; far = v; faced = false }

-- a face between two neighbors is put into a sector that had none
abbrev pub IsPut : ℕ → ℕ → ℕ → List Sector → List Sector → Type 0
IsPut one other far old new = (i : ℕ) × (i < length old) × IsFalse (sector_at old i).faced × IsBetween old i one other
    × (new ≡ slice_set old i (record { near = near_at old i; far = far; faced = true }))

-- the sectors are those of the unit's neighbors and faces, in order
pub record AreSectors (g : Graph) (faces : List (List ℕ)) (u : ℕ) (sectors : List Sector) : Type 0 where
  pub near : HasNear (slice_index_or g.neighbours u []) sectors
  pub seats : HasSeats (corners_at u faces) sectors

-- the units of a sector are units of the graph
pub record IsOnGraph (g : Graph) (sector : Sector) : Type 0 where
  pub near : sector.near < g.units
  pub far : sector.far < g.units

-- the sectors are those of these neighbors, in some order and without faces
pub record AreUnfaced (g : Graph) (row : List ℕ) (sectors : List Sector) : Type 0 where
  pub near : HasNear row sectors
  pub none : (i : ℕ) → i < length sectors → IsFalse (sector_at sectors i).faced
  pub within : All (IsOnGraph g) sectors

-- these sectors are those of a unit's neighbors and of its corners, unless there are none
pub record HasOrder (g : Graph) (u : ℕ) (corners : List Corner) (sectors : List Sector) : Type 0 where
  pub within : All (IsOnGraph g) sectors
  pub near : 0 < length sectors → HasNear (slice_index_or g.neighbours u []) sectors
  pub seats : 0 < length sectors → HasSeats (map (units_of (slice_index_or g.neighbours u [])) corners) sectors

-- so are those of each unit
pub record HasSectors (g : Graph) (rows : List (List Corner)) (all : List (List Sector)) : Type 0 where
  pub width : length all ≡ g.units
  pub each : (u : ℕ) → u < g.units → HasOrder g u (slice_index_or rows u []) (slice_index_or all u [])
