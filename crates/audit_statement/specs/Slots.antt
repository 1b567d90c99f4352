-- The contents of a keeper's two slots, the newest one, and the place of the next checkpoint. This project's. The kind
-- of a slot follows from its bytes alone; the code looks at both slots once.
use Rattle.std.specs.Prelude.{◌≡◌, ℕ, zero, suc, ◌+◌, ◌-◌, ◌*◌, ◌%◌, ◌==◌, Bool, true, false, not, cond, nat_lt, List, [], ◌∷◌, length, bytes_eq, slice_range, Option, Some, None, option_map}
use Rattle.std.specs.Int.{w32, w64, cast_signed}
use Rattle.audit_model.specs.declared.fault.CkptFault.{CkptFault}
use Rattle.audit_model.specs.declared.fault.CkptFault.TheVariants.{TooLong, Unfit}
use Rattle.audit_model.specs.declared.outcome.Outcome.{Outcome}
use Rattle.audit_model.specs.declared.setting.Setting.{Setting}
use Rattle.audit_model.specs.Below.{map_below}
use Rattle.audit_model.specs.First.{first_below}
use Rattle.audit_model.specs.Job.{Job}
use Rattle.audit_model.specs.Run.{IsConsistent, fits, taken_up}
use Rattle.audit_model.specs.Trajectory.{Draws, empty_histogram}
use Rattle.audit_statement.specs.Checkpoint.{number_at, has_histogram, outcome_start, stated_version, stated_count, checkpoint_fault, generation_place, digest_place}
use Rattle.audit_model.specs.Limits.{most_saved_bytes}
use Rattle.audit_model.specs.Pair.{Pair}

-- the maximum number of bytes of a checkpoint
abbrev pub checkpoint_limit : ℕ
checkpoint_limit = most_saved_bytes

-- the contents of a slot
pub data Slot : Type 0 where
  absent : Slot
  broken : CkptFault → Slot
  other : List ℕ → ℕ → Slot
  ours : ℕ → List Outcome → Slot

-- the histogram at an offset, if the version has one
abbrev pub histogram_at : Bool → List ℕ → ℕ → List ℕ
histogram_at true bytes at = map_below 9 (λ k. number_at w32 (at + 4 * k) bytes)
histogram_at false bytes at = empty_histogram

-- the outcome at an offset
abbrev pub outcome_at : List ℕ → ℕ → Outcome
outcome_at bytes at = record {
  id = number_at w32 at bytes;
  moved = number_at w64 (at + 4) bytes;
  values =
      cast_signed w64 (number_at w64 (at + 12) bytes) ∷ cast_signed w64 (number_at w64 (at + 20) bytes)
      ∷ cast_signed w64 (number_at w64 (at + 28) bytes) ∷ cast_signed w64 (number_at w64 (at + 36) bytes) ∷ [];
  bins = histogram_at (has_histogram (stated_version bytes)) bytes (at + 44);
}

-- the outcome at a place of a checkpoint, from 0
abbrev pub outcome_in : List ℕ → ℕ → Outcome
outcome_in bytes place = outcome_at bytes (outcome_start bytes place)

-- the outcomes of a checkpoint
abbrev pub outcomes_in : List ℕ → List Outcome
outcomes_in bytes = map_below (stated_count bytes) (outcome_in bytes)

-- the slot of a checkpoint with the job's digest, by its first implausible outcome
abbrev pub slot_of_ours : List ℕ → Option ℕ → Slot
slot_of_ours bytes None = ours (number_at w32 generation_place bytes) (outcomes_in bytes)
slot_of_ours bytes (Some place) = broken (Unfit place)

-- the slot of a checkpoint, by its digest
abbrev pub slot_of_digest : Job → List ℕ → Bool → Slot
slot_of_digest job bytes false = other (slice_range bytes digest_place generation_place) (number_at w32 generation_place bytes)
slot_of_digest job bytes true =
    slot_of_ours bytes (first_below (stated_count bytes) (λ place. not (fits job (outcome_in bytes place))))

-- the slot of bytes, by the first reason why they are no checkpoint
abbrev pub slot_of_checkpoint : Job → List ℕ → List ℕ → Option CkptFault → Slot
slot_of_checkpoint job digest bytes (Some f) = broken f
slot_of_checkpoint job digest bytes None = slot_of_digest job bytes (bytes_eq (slice_range bytes digest_place generation_place) digest)

-- the slot of bytes, by their number
abbrev pub slot_of_bytes : Job → List ℕ → List ℕ → Bool → Slot
slot_of_bytes job digest bytes true = broken (TooLong checkpoint_limit)
slot_of_bytes job digest bytes false = slot_of_checkpoint job digest bytes (checkpoint_fault bytes)

-- a stored slot as it is for a job
abbrev pub slot_of : Job → List ℕ → Option (List ℕ) → Slot
slot_of job digest None = absent
slot_of job digest (Some bytes) = slot_of_bytes job digest bytes (nat_lt checkpoint_limit (length bytes))

-- the generation of a valid slot
abbrev pub generation_of : Slot → Option ℕ
generation_of absent = None
generation_of (broken f) = None
generation_of (other digest generation) = Some generation
generation_of (ours generation outcomes) = Some generation

-- the newest slot by the generations of the valid slots
abbrev pub newest_of : Option ℕ → Option ℕ → Option ℕ
newest_of None None = None
newest_of None (Some g) = Some 1
newest_of (Some g) None = Some 0
newest_of (Some g) (Some h) = cond (h == (g + 1) % 3) (Some 1) (Some 0)

-- the number of the newest slot: of two valid ones the second if its generation follows the first's
abbrev pub newest : Slot → Slot → Option ℕ
newest first second = newest_of (generation_of first) (generation_of second)

-- the slot with a number
abbrev pub slot_at : Slot → Slot → ℕ → Slot
slot_at first second zero = first
slot_at first second (suc n) = second

-- the next of three generations; the first is 0
abbrev pub generation_after : Option ℕ → ℕ
generation_after None = 0
generation_after (Some g) = (g + 1) % 3

-- the other slot, and the generation after this one's
abbrev pub place_beside : Slot → Slot → Option ℕ → ℕ × ℕ
place_beside first second None = (0, 0)
place_beside first second (Some n) = (1 - n, generation_after (generation_of (slot_at first second n)))

-- the place of the next checkpoint: the slot that is not the newest, and the generation after the newest's
abbrev pub save_place : Slot → Slot → ℕ × ℕ
save_place first second = place_beside first second (newest first second)

-- the outcomes that a slot gives the job, if any
abbrev pub outcomes_of_slot : Slot → Option (List Outcome)
outcomes_of_slot absent = Some []
outcomes_of_slot (broken f) = None
outcomes_of_slot (other digest generation) = None
outcomes_of_slot (ours generation outcomes) = Some outcomes

-- the outcomes of the slot with this number; without one, none if both slots are absent
abbrev pub outcomes_of_newest : Slot → Slot → Option ℕ → Option (List Outcome)
outcomes_of_newest first second (Some n) = outcomes_of_slot (slot_at first second n)
outcomes_of_newest absent absent None = Some []
outcomes_of_newest absent second None = None
outcomes_of_newest first second None = None

-- the initial outcomes of a run, if it may start
abbrev pub initial_outcomes : Bool → Setting → Slot → Slot → Option (List Outcome)
initial_outcomes false setting first second = Some []
initial_outcomes true setting first second = option_map (taken_up setting.shift setting.walks) (outcomes_of_newest first second (newest first second))

-- the outcomes of the job in the slot were found by its trajectories, with histograms or without
abbrev pub IsConsistentSlot : Job → Draws → Slot → Type 0
IsConsistentSlot job draws absent = Unit {0}
IsConsistentSlot job draws (broken f) = Unit {0}
IsConsistentSlot job draws (other digest generation) = Unit {0}
IsConsistentSlot job draws (ours generation outcomes) = IsConsistent job draws outcomes

-- after a stop within a save, the other slot is unchanged
abbrev pub IsAfterStop : ℕ → Option (List ℕ) → Option (List ℕ) → Option (List ℕ) → Option (List ℕ) → Type 0
IsAfterStop zero first second first_after second_after = second_after ≡ second
IsAfterStop (suc n) first second first_after second_after = first_after ≡ first

-- the number of the slot that is the newest for a job
abbrev pub newest_for : Job → List ℕ → Pair → Option ℕ
newest_for job digest p = newest (slot_of job digest p.zero_slot) (slot_of job digest p.one_slot)

-- the place of the next checkpoint of a job
abbrev pub place_for : Job → List ℕ → Pair → ℕ × ℕ
place_for job digest p = save_place (slot_of job digest p.zero_slot) (slot_of job digest p.one_slot)

-- the slot holds no checkpoint of the job
abbrev pub IsNotOurs : Slot → Type 0
IsNotOurs absent = Unit {0}
IsNotOurs (broken fault) = Unit {0}
IsNotOurs (other digest generation) = Unit {0}
IsNotOurs (ours generation outcomes) = ⊥

-- both stored slots are consistent for the job
pub record AreConsistent (job : Job) (draws : Draws) (digest : List ℕ) (p : Pair) : Type 0 where
  pub zero_slot : IsConsistentSlot job draws (slot_of job digest p.zero_slot)
  pub one_slot : IsConsistentSlot job draws (slot_of job digest p.one_slot)
