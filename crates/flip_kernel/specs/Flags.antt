-- Booleans as bits of words.
use Rattle.std.specs.Int.{bit_at}
use Rattle.std.specs.Prelude.{ℕ, ◌*◌, ◌/◌, ◌%◌, ◌==◌, Bool, List, length, slice_index}
use Rattle.audit_model.specs.Below.{map_below}

-- the bit at a place of 64-bit words
abbrev pub bit_of : List ℕ → ℕ → Bool
bit_of words place = bit_at (slice_index words (place / 64)) (place % 64) == 1

-- the bits of all words, lowest first
unfoldable pub flags_of : List ℕ → List Bool
flags_of words = map_below (64 * length words) (bit_of words)
