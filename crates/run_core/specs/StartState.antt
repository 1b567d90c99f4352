-- States in which a run may start.
use Rattle.std.specs.Prelude.{◌≡◌, ℕ, ◌<◌, IsTrue, length, replicate, None}
use Rattle.audit_model.specs.Apart.{AllApart}
use Rattle.audit_model.specs.Graph.{has}
use Rattle.audit_model.specs.Machine.{Machine}

-- the ids finished at the start, which are distinct and below the total, are the saved and the finished ones; no id is
-- open or claimed
pub record IsStart (m : Machine) : Type 0 where
  pub saved : m.saved ≡ m.start
  pub done : m.done ≡ m.start
  pub apart : AllApart m.start
  pub below : (id : ℕ) → IsTrue (has m.start id) → id < m.total
  pub open_ids : m.open_ids ≡ replicate (length m.open_ids) None
  pub next : m.next ≡ 0
