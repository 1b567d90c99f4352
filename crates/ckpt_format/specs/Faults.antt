-- The faults of bytes that are no checkpoint, one definition each.
use Rattle.std.specs.Prelude.{ℕ, ◌+◌, ◌-◌, ◌*◌, ◌==◌, ◌&&◌, ◌||◌, Bool, not, cond, nat_lt, nat_le, List, [], ◌∷◌, length, take, drop, codes, bytes_eq, Option, Some, None, option_map}
use Rattle.std.specs.Int.{w32}
use Rattle.sha2.specs.Sha256.{sha256}
use Rattle.audit_model.specs.declared.fault.CkptFault.{CkptFault}
use Rattle.audit_model.specs.declared.fault.CkptFault.TheVariants.{TooShort, BadMagic, BadVersion, BadGeneration, BadCount, BadOrder, BadDigest}
use Rattle.audit_model.specs.First.{first_some, first_below}
use Rattle.audit_statement.specs.Checkpoint.{number_at, outcome_size, stated_count, stated_id, stated_version, empty_length, version_place, generation_place}
use Rattle.audit_model.specs.Limits.{most_trajectories}

abbrev pub length_fault : List ℕ → Option CkptFault
length_fault bytes = cond (nat_lt (length bytes) empty_length) (Some (TooShort (length bytes))) None

abbrev pub magic_fault : List ℕ → Option CkptFault
magic_fault bytes = cond (bytes_eq (take version_place bytes) (codes "DISTCKPT")) None (Some BadMagic)

abbrev pub version_fault : ℕ → Option CkptFault
version_fault version = cond ((version == 1) || (version == 2)) None (Some (BadVersion version))

abbrev pub generation_fault : ℕ → Option CkptFault
generation_fault generation = cond (nat_lt 2 generation) (Some (BadGeneration generation)) None

abbrev pub outcome_count_fault : ℕ → ℕ → ℕ → Option CkptFault
outcome_count_fault version count size = cond (nat_lt most_trajectories count || not (size == empty_length + outcome_size version * count)) (Some (BadCount count size)) None

-- the id of the outcome at a place is not above the one before it
abbrev pub is_unordered : List ℕ → ℕ → Bool
is_unordered bytes place = nat_lt 0 place && nat_le (stated_id bytes place) (stated_id bytes (place - 1))

abbrev pub order_fault : List ℕ → ℕ → Option CkptFault
order_fault bytes count = option_map BadOrder (first_below count (is_unordered bytes))

abbrev pub mismatch : List ℕ → List ℕ → Option CkptFault
mismatch found computed = cond (bytes_eq found computed) None (Some (BadDigest found computed))

abbrev pub digest_fault : List ℕ → Option CkptFault
digest_fault bytes = mismatch (drop (length bytes - 32) bytes) (sha256 (take (length bytes - 32) bytes))

-- the first fault of the head, which stands before the outcomes
abbrev pub head_fault : List ℕ → Option CkptFault
head_fault bytes = first_some (
    magic_fault bytes
    ∷ version_fault (stated_version bytes)
    ∷ generation_fault (number_at w32 generation_place bytes)
    ∷ outcome_count_fault (stated_version bytes) (stated_count bytes) (length bytes)
    ∷ [])
