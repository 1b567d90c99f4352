-- Marks on units: the units in the order of marking, and a label for each.
use Rattle.std.specs.Prelude.{◌≡◌, ℕ, ◌<◌, IsTrue, List, length, slice_index}
use Rattle.audit_model.specs.Apart.{AllApart}
use Rattle.audit_model.specs.Graph.{has}

-- the number of units, the marked units in order, and a label for each unit: 0 if it is not marked
pub record Marked : Type 0 where
  pub units : ℕ
  pub items : List ℕ
  pub labels : List ℕ

-- the marked units are distinct and below the bound, and they alone have a label
pub record IsMarked (m : Marked) : Type 0 where
  pub width : length m.labels ≡ m.units
  pub apart : AllApart m.items
  pub below : (v : ℕ) → IsTrue (has m.items v) → v < m.units
  pub labelled : (v : ℕ) → IsTrue (has m.items v) → 0 < slice_index m.labels v
  pub listed : (v : ℕ) → 0 < slice_index m.labels v → IsTrue (has m.items v)
