-- Invariants of the search's loops.
use Rattle.std.specs.Prelude.{◌≡◌, ℕ, ◌+◌, ◌<◌, ◌≤◌, Bool, IsTrue, List, length, slice_index}
use Rattle.audit_model.specs.Graph.{Graph, has, adjacent, IsIn}
use Rattle.audit_model.specs.Local.{is_mate}
use Rattle.dual_graph.specs.Marked.{Marked, IsMarked}
use Rattle.contig.specs.Parts.{part, IsJoined, NotOne}

-- between two turns: the units before a position have had theirs, and `ends` bounds the positions of each label
pub record IsGrowing (g : Graph) (inside : ℕ → Bool) (last : ℕ) (m : Marked) (roots ends : List ℕ) (at : ℕ) : Type 0 where
  pub units : m.units ≡ g.units
  pub marked : IsMarked m
  pub joined : IsJoined g inside m.labels roots
  pub small : (v : ℕ) → slice_index m.labels v ≤ last
  pub seeds : (l : ℕ) → 0 < l → l ≤ last → (v : ℕ) × (slice_index m.labels v ≡ l)
  pub closed : (k : ℕ) → k < at → (v : ℕ) → IsIn g inside v → IsTrue (adjacent g (slice_index m.items k) v)
      → (0 < slice_index m.labels v) × (part m.labels roots v ≡ part m.labels roots (slice_index m.items k))
  pub ended : (k : ℕ) → k < length m.items → k < slice_index ends (slice_index m.labels (slice_index m.items k))
  pub parted : NotOne roots last
  pub widths : (length roots ≡ 17) × (length ends ≡ 17)
  pub bound : at ≤ length m.items

-- the mates among the first units of a row are marked
pub record IsSeeding (g : Graph) (plan : List ℕ) (u : ℕ) (row : List ℕ) (last : ℕ) (m : Marked) : Type 0 where
  pub units : m.units ≡ g.units
  pub marked : IsMarked m
  pub small : (v : ℕ) → slice_index m.labels v ≤ last
  pub seeds : (l : ℕ) → 0 < l → l ≤ last → (v : ℕ) × (slice_index m.labels v ≡ l)
  pub single : (v w : ℕ) → 0 < slice_index m.labels v → slice_index m.labels v ≡ slice_index m.labels w → v ≡ w
  pub mates : (v : ℕ) → 0 < slice_index m.labels v → IsIn g (is_mate g plan u) v × IsTrue (has row v)
  pub complete : (v : ℕ) → IsIn g (is_mate g plan u) v → IsTrue (has row v) → 0 < slice_index m.labels v
  pub amount : length m.items ≡ last
  pub order : (k : ℕ) → k < length m.items → slice_index m.labels (slice_index m.items k) ≡ k + 1

-- the first mates in the list, but for the very first, are joined with the adjacent mates
pub record IsLinking (g : Graph) (plan : List ℕ) (u : ℕ) (m : Marked) (roots : List ℕ) (place : ℕ) : Type 0 where
  pub joined : IsJoined g (is_mate g plan u) m.labels roots
  pub closed : (k : ℕ) → 0 < k → k < place → (v : ℕ) → IsIn g (is_mate g plan u) v → IsTrue (adjacent g (slice_index m.items k) v)
      → part m.labels roots v ≡ part m.labels roots (slice_index m.items k)
  pub width : length roots ≡ 17
