-- The bytes of a checkpoint, part by part.
use Rattle.std.specs.Prelude.{◌≡◌, ℕ, ◌+◌, Bool, cond, List, ◌++◌, length, codes, flat_map}
use Rattle.std.specs.Int.{w32, w64, to_be_bytes, cast_unsigned}
use Rattle.audit_model.specs.Room.{RoomyBytes}
use Rattle.audit_model.specs.declared.outcome.Outcome.{Outcome}
use Rattle.audit_statement.specs.Checkpoint.{bin_bytes}

-- the bytes were appended within the capacity
pub record AppendsBytes (old new : RoomyBytes) (bytes : List ℕ) : Type 0 where
  pub items : new.items ≡ old.items ++ bytes
  pub spare : new.spare + length bytes ≡ old.spare

-- the head, which stands before the outcomes
abbrev pub head_bytes : ℕ → List ℕ → ℕ → ℕ → List ℕ
head_bytes version digest generation count =
    codes "DISTCKPT" ++ to_be_bytes w32 version ++ digest ++ to_be_bytes w32 generation ++ to_be_bytes w32 count

-- the bytes of an outcome, and their number, with or without its histogram
abbrev pub bytes_by : Bool → Outcome → List ℕ
bytes_by with_histogram o =
    to_be_bytes w32 o.id ++ to_be_bytes w64 o.moved ++ flat_map (λ v. to_be_bytes w64 (cast_unsigned w64 v)) o.values ++ bin_bytes with_histogram o.bins

abbrev pub size_by : Bool → ℕ
size_by with_histogram = cond with_histogram 80 44
