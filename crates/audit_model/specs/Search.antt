-- The units that a search from one unit has found so far.
use Rattle.std.specs.Prelude.{◌≡◌, ℕ, ◌<◌, ◌≤◌, ◌⊎◌, Bool, IsTrue, List, length, slice_index}
use Rattle.audit_model.specs.Graph.{Graph, has, adjacent, IsIn}
use Rattle.audit_model.specs.Path.{HasPath}

-- the new list has, besides the old units, the units of the row that are in the set
pub record AddsFrom (g : Graph) (inside : ℕ → Bool) (row old new : List ℕ) : Type 0 where
  pub longer : length old ≤ length new
  pub front : (k : ℕ) → k < length old → slice_index new k ≡ slice_index old k
  pub kept : (v : ℕ) → IsTrue (has old v) → IsTrue (has new v)
  pub added : (v : ℕ) → IsTrue (has new v) → IsTrue (has old v) ⊎ (IsIn g inside v × IsTrue (has row v))
  pub each : (v : ℕ) → IsIn g inside v → IsTrue (has row v) → IsTrue (has new v)

-- the neighbors of the first units are found, and each unit found has a path
pub record IsSearch (g : Graph) (inside : ℕ → Bool) (start next : ℕ) (found : List ℕ) : Type 0 where
  pub start_in : IsTrue (has found start)
  pub paths : (v : ℕ) → IsTrue (has found v) → HasPath g inside start v
  pub closed : (k : ℕ) → k < next → (v : ℕ) → IsIn g inside v → IsTrue (adjacent g (slice_index found k) v) → IsTrue (has found v)
