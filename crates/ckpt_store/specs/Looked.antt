-- The result of looking at the slots.
use Rattle.std.specs.Prelude.{◌≡◌, ℕ, List, Option, Result, Ok, Err}
use Rattle.audit_model.specs.Faults.{Counts, Rose}
use Rattle.audit_model.specs.State.{LoadFaults}
use Rattle.audit_model.specs.Observed.{IfObserved}
use Rattle.audit_model.specs.Pair.{Pair, Stored, stored}
use Rattle.audit_io.specs.declared.keeper.LoadError.{LoadError}
use Rattle.audit_io.specs.declared.keeper.LoadError.TheVariants as load
use Rattle.audit_model.specs.declared.fault.CkptFault.TheVariants.{Memory, TooLong}
use Rattle.audit_model.specs.Job.{Job}
use Rattle.audit_statement.specs.Slots.{slot_of}
use Rattle.ckpt_store.specs.declared.look.LookFault.{LookFault}
use Rattle.ckpt_store.specs.declared.look.LookFault.TheVariants as look
use Rattle.ckpt_store.specs.declared.slots.Slot.{Slot}
use Rattle.ckpt_store.specs.declared.slots.Slot.TheVariants as slot
use Rattle.ckpt_store.specs.declared.slots.Slots.{Slots}
use Rattle.ckpt_store.specs.View.{slot_view}

-- each slot state is that of the stored bytes for the job
pub record AreSlots (job : Job) (digest : List ℕ) (p : Pair) (slots : Slots) : Type 0 where
  pub zero : slot_view slots.zero ≡ slot_of job digest p.zero_slot
  pub one : slot_view slots.one ≡ slot_of job digest p.one_slot

-- a slot as it was seen: its stored bytes, which are the known ones if the keeper is observable, and their state for
-- the job
pub record SawSlot (job : Job) (digest : List ℕ) (observed : Option Pair) (number : ℕ) (slot : Slot) : Type 0 where
  pub bytes : Stored
  pub same : IfObserved observed (λ p. bytes ≡ stored p number)
  pub is : slot_view slot ≡ slot_of job digest bytes

-- both slots as they were seen: the stored pair, which is the known one if the keeper is observable, and its states for
-- the job
pub record SawSlots (job : Job) (digest : List ℕ) (observed : Option Pair) (slots : Slots) : Type 0 where
  pub pair : Pair
  pub same : IfObserved observed (λ p. pair ≡ p)
  pub are : AreSlots job digest pair slots

-- a slot is broken because of its bytes, never because memory ran out
abbrev pub IsByBytes : Slot → Type 0
IsByBytes slot.Absent = Unit {0}
IsByBytes (slot.Broken fault) = fault ≡ Memory → ⊥
IsByBytes (slot.Other found generation) = Unit {0}
IsByBytes (slot.Ours checkpoint) = Unit {0}

-- the effect of a fault on the counts of failed loads
abbrev pub FaultCause : LoadFaults → LoadFaults → LookFault → Type 0
FaultCause before now look.Failed = Rose before.all now.all × (now.taken ≡ before.taken)
FaultCause before now look.Taken = Rose before.all now.all × Rose before.taken now.taken
FaultCause before now look.Memory = now ≡ before

abbrev pub LookCause : {T : Type 0} → LoadFaults → LoadFaults → Result T LookFault → Type 0
LookCause before now (Ok slots) = now ≡ before
LookCause before now (Err fault) = FaultCause before now fault

-- the look failed only if the count rose, and because of a lock exactly if the keeper reported one. Any other answer
-- leaves both counts unchanged.
pub record HasLookCause {T : Type 0} (before now : LoadFaults) (result : Result T LookFault) : Type 0 where
  pub counts : Counts before.all now.all
  pub taken_count : Counts before.taken now.taken
  pub cause : LookCause before now result

-- the state of a slot after a failed load, or the error
abbrev pub unloaded : LoadError → Result Slot LookFault
unloaded load.Failed = Err look.Failed
unloaded load.Taken = Err look.Taken
unloaded (load.Long limit) = Ok (slot.Broken (TooLong limit))
unloaded load.Memory = Err look.Memory
