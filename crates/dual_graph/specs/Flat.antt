-- A graph in compressed rows: one list of all neighbors, and the positions where each unit's neighbors begin.
use Rattle.std.specs.Prelude.{◌≡◌, ℕ, ◌+◌, ◌<◌, ◌≤◌, true, List, length, slice_index, slice_range}
use Rattle.audit_model.specs.Below.{map_below}
use Rattle.audit_model.specs.Graph.{Graph, count_edges}
use Rattle.audit_model.specs.Limits.{most_units, most_edges}

-- the neighbors of a unit
abbrev pub row : List ℕ → List ℕ → ℕ → List ℕ
row begins near u = slice_range near (slice_index begins u) (slice_index begins (u + 1))

-- the graph of n units that the two lists represent
abbrev pub graph_of : ℕ → List ℕ → List ℕ → Graph
graph_of n begins near = record { units = n; neighbours = map_below n (row begins near) }

-- each unit's row lies within the list of neighbors
pub record HasRows (n : ℕ) (begins near : List ℕ) : Type 0 where
  pub places : length begins ≡ n + 1
  pub first : slice_index begins 0 ≡ 0
  pub few : n ≤ most_units
  pub rising : (u : ℕ) → u < n → slice_index begins u ≤ slice_index begins (u + 1)
  pub within : (u : ℕ) → u ≤ n → slice_index begins u ≤ length near
  pub below : (k : ℕ) → k < length near → slice_index near k < n

-- the graph has this number of edges
pub record HasEdges (g : Graph) (edges : ℕ) : Type 0 where
  pub counted : edges ≡ count_edges g (λ u v. true)
  pub few : edges ≤ most_edges
