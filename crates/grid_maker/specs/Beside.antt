-- The adjacent units of a unit in a square grid with this many columns.
use Rattle.std.specs.Prelude.{ℕ, ◌+◌, ◌-◌, ◌*◌, ◌%◌, nat_lt, nat_le, if◌then◌else◌, Option, Some, None}

abbrev pub above : ℕ → ℕ → Option ℕ
above side unit = if nat_le side unit then Some (unit - side) else None

abbrev pub left : ℕ → ℕ → Option ℕ
left side unit = if nat_lt 0 (unit % side) then Some (unit - 1) else None

abbrev pub right : ℕ → ℕ → Option ℕ
right side unit = if nat_lt (unit % side + 1) side then Some (unit + 1) else None

abbrev pub below : ℕ → ℕ → Option ℕ
below side unit = if nat_lt (unit + side) (side * side) then Some (unit + side) else None
