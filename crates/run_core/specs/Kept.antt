-- The machine that the fields of `Core` represent.
use Rattle.std.specs.Prelude.{◌≡◌, ℕ, ◌<◌, ◌≤◌, Bool, false, List, length, take, Option}
use Rattle.std.specs.List.{slice_index_or}
use Rattle.audit_model.specs.Graph.{has}
use Rattle.audit_model.specs.Machine.{Machine, IsRun, todo}
use Rattle.audit_model.specs.Limits.{most_trajectories, most_workers}

-- the machine of one part with these ids; the ids finished at the start and the saved ids are prefixes of the finished
-- ones
abbrev pub machine : ℕ → ℕ → ℕ → List ℕ → ℕ → List (Option ℕ) → Machine
machine total started saved done next open_ids =
    record { total = total; parts = 1; part = 0; budget = total; start = take started done; saved = take saved done; done = done; next = next; open_ids = open_ids }

-- a machine of 32 workers, with its pending ids listed and the ids finished at the start marked
pub record IsKept (m : Machine) (started saved : ℕ) (listed : List ℕ) (marked : List Bool) : Type 0 where
  pub run : IsRun m
  pub small : m.total ≤ most_trajectories
  pub workers : length m.open_ids ≡ most_workers
  pub start_saved : started ≤ saved
  pub saved_done : saved ≤ length m.done
  pub ids : listed ≡ todo m
  pub width : length marked ≡ m.total
  pub marks : (id : ℕ) → id < m.total → slice_index_or marked id false ≡ has m.start id

-- both lists have capacity for all ids
pub record HasRoom (total done_room ids_room : ℕ) : Type 0 where
  pub done : total ≤ done_room
  pub ids : total ≤ ids_room
