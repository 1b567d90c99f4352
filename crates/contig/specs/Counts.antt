-- The counts of each district: its inner edges, its units and inner rings together, and its active spares.
use Rattle.std.specs.Prelude.{◌≡◌, ℕ, ◌+◌, ◌-◌, ◌<◌, ◌≤◌, ◌&&◌, Bool, nat_lt, List, length, slice_index}
use Rattle.audit_model.specs.Graph.{Graph}
use Rattle.audit_model.specs.District.{in_district}
use Rattle.contig.specs.Faces.{SparedFace, own_rings, chosen, count_units, count_inner_edges, count_inner_faces, count_active}

-- for each district, its inner edges, the sum of its units and inner rings, and its active spares
pub record Counted : Type 0 where
  pub edges : List ℕ
  pub filled : List ℕ
  pub spared : List ℕ

-- the sum of the units and the inner rings of a set
abbrev pub filled_by : Graph → List (List ℕ) → (ℕ → Bool) → ℕ
filled_by g faces inside = count_units g inside + count_inner_faces inside faces

-- the sum of the units and the inner faces of a set, with each active spare as an inner face
abbrev pub filled_of : Graph → List SparedFace → (ℕ → Bool) → ℕ
filled_of g faces inside = filled_by g (chosen inside faces) inside

-- the counts of active spares of these sets, one for each district
pub record AreSpareCounts (faces : List SparedFace) (insides : ℕ → ℕ → Bool) (districts : ℕ) (spared : List ℕ) : Type 0 where
  pub places : length spared ≡ districts
  pub active : (d : ℕ) → d < districts → slice_index spared d ≡ count_active (insides d) faces

-- the counts of these sets
pub record AreCountsOf (g : Graph) (faces : List SparedFace) (insides : ℕ → ℕ → Bool) (districts : ℕ) (counted : Counted) : Type 0 where
  pub edge_places : length counted.edges ≡ districts
  pub filled_places : length counted.filled ≡ districts
  pub spared_places : length counted.spared ≡ districts
  pub edges : (d : ℕ) → d < districts → slice_index counted.edges d ≡ count_inner_edges g (insides d)
  pub filled : (d : ℕ) → d < districts → slice_index counted.filled d ≡ filled_by g (own_rings faces) (insides d)
  pub spared : (d : ℕ) → d < districts → slice_index counted.spared d ≡ count_active (insides d) faces

-- the counts of a plan's districts
abbrev pub AreCounts : Graph → List SparedFace → ℕ → List ℕ → Counted → Type 0
AreCounts g faces districts plan counted = AreCountsOf g faces (in_district plan) districts counted

-- the units below an end that are in a district
abbrev pub is_before : List ℕ → ℕ → ℕ → ℕ → Bool
is_before plan end district v = in_district plan district v && nat_lt v end

-- the district has no hole: edges + 1 ≤ units + faces, with equality by Euler's formula in the plane. Each active spare
-- is one more face
abbrev pub HasNoHole : Counted → ℕ → Type 0
HasNoHole counted district = slice_index counted.edges district + 1 ≤ slice_index counted.filled district + slice_index counted.spared district

-- the number of missing faces of a set: the inner faces that it would need in addition to have no hole
abbrev pub missing_faces : Graph → List SparedFace → (ℕ → Bool) → ℕ
missing_faces g faces inside = count_inner_edges g inside + 1 - filled_of g faces inside
