-- The lengths of edges, and the total length of the edges that a plan cuts: the perimeter between districts, as
-- GerryChain's `interior_boundaries` adds it up from `shared_perim`. It is a sum over edges; the code keeps a running total.
use Rattle.std.specs.Prelude.{◌≡◌, ◌⊎◌, ℕ, ◌+◌, ◌^◌, ◌<◌, ◌==◌, ◌&&◌, Bool, cond, not, IsTrue, List, [], length, slice_index}
use Rattle.std.specs.List.{All, slice_index_or}
use Rattle.audit_model.specs.Below.{count_below, sum_below}
use Rattle.audit_model.specs.Graph.{Graph, adjacent}

-- the number of neighbors of a unit
abbrev pub degree : Graph → ℕ → ℕ
degree g u = length (slice_index_or g.neighbours u [])

-- the place of the directed edge from u to v, where directed edges are in the order of their first units, then of their
-- second ones
abbrev pub arc_at : Graph → ℕ → ℕ → ℕ
arc_at g u v = sum_below u (degree g) + count_below v (adjacent g u)

-- the length of an edge, from the list of the lengths of all directed edges, or 0 if there are no lengths
abbrev pub edge_length : Graph → List ℕ → ℕ → ℕ → ℕ
edge_length g lengths u v = slice_index_or lengths (arc_at g u v) 0

-- the sum of the lengths of the edges whose ends pass the test, each counted once, from its smaller end
abbrev pub sum_edges : Graph → List ℕ → (ℕ → ℕ → Bool) → ℕ
sum_edges g lengths test = sum_below g.units (λ v. sum_below v (λ u. cond (adjacent g u v && test u v) (edge_length g lengths u v) 0))

-- the total length of the edges whose ends are in different districts
abbrev pub cut_length : Graph → List ℕ → List ℕ → ℕ
cut_length g lengths plan = sum_edges g lengths (λ u v. not (slice_index plan u == slice_index plan v))

-- no lengths, or one below 2 ^ 32 for each directed edge, the same in both directions
pub record AreLengths (g : Graph) (lengths : List ℕ) : Type 0 where
  pub width : (lengths ≡ []) ⊎ (length lengths ≡ sum_below g.units (degree g))
  pub small : All (λ l. l < 2 ^ 32) lengths
  pub symmetric : (u v : ℕ) → IsTrue (adjacent g u v) → edge_length g lengths u v ≡ edge_length g lengths v u
