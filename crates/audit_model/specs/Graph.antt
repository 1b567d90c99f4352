-- The dual graph of a districting plan: its units and their adjacencies.
use Rattle.std.specs.Prelude.{◌≡◌, ℕ, ◌+◌, ◌<◌, ◌==◌, ◌&&◌, Bool, IsTrue, IsFalse, List, [], length, slice_index}
use Rattle.std.specs.List.{list_any, slice_index_or}
use Rattle.audit_model.specs.Below.{count_below, sum_below}

-- the number of units, and the neighbors of each unit in rising order
pub record Graph : Type 0 where
  pub units : ℕ
  pub neighbours : List (List ℕ)

-- the list has the number
abbrev pub has : List ℕ → ℕ → Bool
has numbers n = list_any (λ m. m == n) numbers

-- v is a neighbor of u
abbrev pub adjacent : Graph → ℕ → ℕ → Bool
adjacent g u v = has (slice_index_or g.neighbours u []) v

-- the number of edges whose ends pass the test, each counted once, from its smaller end
abbrev pub count_edges : Graph → (ℕ → ℕ → Bool) → ℕ
count_edges g test = sum_below g.units (λ v. count_below v (λ u. adjacent g u v && test u v))

-- the unit is one of the graph's, and in the set
abbrev pub IsIn : Graph → (ℕ → Bool) → ℕ → Type 0
IsIn g inside u = (u < g.units) × IsTrue (inside u)

-- each unit has a rising list of neighbors, adjacency is symmetric, and no unit is adjacent to itself
pub record IsGraph (g : Graph) : Type 0 where
  pub width : length g.neighbours ≡ g.units
  pub below : (u v : ℕ) → IsTrue (adjacent g u v) → v < g.units
  pub rising : (u i : ℕ) → i + 1 < length (slice_index_or g.neighbours u [])
      → slice_index (slice_index_or g.neighbours u []) i < slice_index (slice_index_or g.neighbours u []) (i + 1)
  pub symmetric : (u v : ℕ) → adjacent g u v ≡ adjacent g v u
  pub loopless : (u : ℕ) → IsFalse (adjacent g u u)
