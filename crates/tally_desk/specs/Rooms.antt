-- Capacity for the saves of a run.
use Rattle.std.specs.Prelude.{ℕ, ◌+◌, ◌*◌, ◌≤◌, length}
use Rattle.audit_model.specs.Room.{RoomyBytes, RoomyOutcomes}

-- capacity for `outcomes` outcomes by rising id, and for their checkpoint
pub record HasSaveRoom (outcomes : ℕ) (sorted : RoomyOutcomes) (room : RoomyBytes) : Type 0 where
  pub sorted_room : outcomes ≤ length sorted.items + sorted.spare
  pub save_room : 84 + 80 * outcomes ≤ length room.items + room.spare
