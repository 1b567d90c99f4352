-- The slots that were looked at, in the terms of the definitions, and the checkpoint taken from them.
use Rattle.std.specs.Prelude.{ℕ, zero, suc, Bool, true, false, ◌&&◌, cond, List, [], Option, Some, None, Result, Ok, Err}
use Rattle.audit_model.specs.declared.outcome.Outcome.{Outcome}
use Rattle.ckpt_format.specs.declared.decode.Checkpoint.{Checkpoint}
use Rattle.ckpt_store.specs.declared.slots.Slot.{Slot}
use Rattle.ckpt_store.specs.declared.slots.Slot.TheVariants as slot
use Rattle.ckpt_store.specs.declared.slots.Slots.{Slots}
use Rattle.ckpt_store.specs.declared.slots.StoreFault.{StoreFault}
use Rattle.ckpt_store.specs.declared.slots.StoreFault.TheVariants.{Damaged, OtherJob}
use Rattle.audit_statement.specs.Slots as definition

-- the contents of a slot
abbrev pub slot_view : Slot → definition.Slot
slot_view slot.Absent = definition.absent
slot_view (slot.Broken fault) = definition.broken fault
slot_view (slot.Other found generation) = definition.other found generation
slot_view (slot.Ours checkpoint) = definition.ours checkpoint.generation checkpoint.outcomes.items

abbrev pub newest_seen : Slots → Option ℕ
newest_seen slots = definition.newest (slot_view slots.zero) (slot_view slots.one)

abbrev pub place_seen : Slots → ℕ × ℕ
place_seen slots = definition.save_place (slot_view slots.zero) (slot_view slots.one)

-- the outcomes of the newest slot if they may be taken, and none if both slots are empty
abbrev pub newest_outcomes_seen : Slots → Option (List Outcome)
newest_outcomes_seen slots = definition.outcomes_of_newest (slot_view slots.zero) (slot_view slots.one) (newest_seen slots)

abbrev pub outcomes_if_any : Option Checkpoint → List Outcome
outcomes_if_any None = []
outcomes_if_any (Some checkpoint) = checkpoint.outcomes.items

abbrev pub is_absent : Slot → Bool
is_absent slot.Absent = true
is_absent (slot.Broken fault) = false
is_absent (slot.Other found generation) = false
is_absent (slot.Ours checkpoint) = false

-- the checkpoint taken from the newest slot
abbrev pub opened : Slot → List ℕ → Result (Option Checkpoint) StoreFault
opened slot.Absent wanted = Ok None
opened (slot.Broken fault) wanted = Ok None
opened (slot.Other found generation) wanted = Err (OtherJob found wanted)
opened (slot.Ours checkpoint) wanted = Ok (Some checkpoint)

-- the answer for slots of which none is valid
abbrev pub without_valid : Slots → Result (Option Checkpoint) StoreFault
without_valid slots = cond (is_absent slots.zero && is_absent slots.one) (Ok None) (Err (Damaged slots))

abbrev pub numbered : Slots → ℕ → Slot
numbered slots zero = slots.zero
numbered slots (suc n) = slots.one

abbrev pub answer_at : Slots → List ℕ → Option ℕ → Result (Option Checkpoint) StoreFault
answer_at slots wanted (Some n) = opened (numbered slots n) wanted
answer_at slots wanted None = without_valid slots

-- the answer of the slots: the checkpoint of the newest, nothing if both are empty, or damaged if none is valid
abbrev pub newest_answer : Slots → List ℕ → Result (Option Checkpoint) StoreFault
newest_answer slots wanted = answer_at slots wanted (newest_seen slots)
