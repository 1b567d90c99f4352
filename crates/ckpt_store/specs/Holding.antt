-- The contents of a slot's file for any job, and the newest slot.
-- Source: this project. A job's digest is not looked at: a checkpoint of any job is whole.
use Rattle.std.specs.Prelude.{◌≡◌, ◌⊎◌, ℕ, ◌<◌, ◌≤◌, List, length, Option, Some, None}
use Rattle.audit_model.specs.Pair.{Pair, stored}
use Rattle.audit_model.specs.Observed.{IfObserved}
use Rattle.audit_model.specs.declared.fault.CkptFault.TheVariants.{TooLong}
use Rattle.audit_statement.specs.Checkpoint.{IsCheckpoint, checkpoint_fault}
use Rattle.audit_statement.specs.Slots.{checkpoint_limit, newest_of}
use Rattle.audit_model.specs.declared.fault.CkptFault.{CkptFault}
use Rattle.ckpt_store.specs.declared.slot_content.SlotContent.{SlotContent}
use Rattle.ckpt_store.specs.declared.slot_content.SlotContent.TheVariants as content
use Rattle.ckpt_store.specs.declared.slot_content.Loaded.{Loaded}
use Rattle.ckpt_store.specs.declared.slot_content.Loaded.TheVariants as loaded

-- the bytes are no checkpoint for this reason: they are too many, or this is their first fault
abbrev pub IsFault : List ℕ → CkptFault → Type 0
IsFault bytes fault = ((checkpoint_limit < length bytes) × (fault ≡ TooLong checkpoint_limit)) ⊎ ((length bytes ≤ checkpoint_limit) × (checkpoint_fault bytes ≡ Some fault))

-- the contents of a slot with these bytes
abbrev pub Holds : List ℕ → SlotContent → Type 0
Holds bytes content.Absent = ⊥
Holds bytes (content.Broken fault) = IsFault bytes fault
Holds bytes (content.Whole c) = (length bytes ≤ checkpoint_limit) × IsCheckpoint bytes c.version c.digest c.generation c.outcomes.items

-- the contents of a slot, whose file may not exist
abbrev pub HoldsStored : Option (List ℕ) → SlotContent → Type 0
HoldsStored None h = h ≡ content.Absent
HoldsStored (Some bytes) h = Holds bytes h

-- the result of loading a slot with these contents. Of too many bytes only their excess is known.
abbrev pub IsLoadedFrom : Loaded → Option (List ℕ) → Type 0
IsLoadedFrom loaded.Absent slot = slot ≡ None
IsLoadedFrom loaded.Long slot = (bytes : List ℕ) × (slot ≡ Some bytes) × (checkpoint_limit < length bytes)
IsLoadedFrom (loaded.Bytes bytes) slot = (slot ≡ Some bytes.items) × (length bytes.items ≤ checkpoint_limit)

-- the slot had some contents, the known ones if the keeper is observable, and this was loaded from them
pub record HasLoaded (observed : Option Pair) (number : ℕ) (what : Loaded) : Type 0 where
  pub slot : Option (List ℕ)
  pub same : IfObserved observed (λ p. slot ≡ stored p number)
  pub is : IsLoadedFrom what slot

-- the generation of the slot's checkpoint, if there is one
abbrev pub generation_in : SlotContent → Option ℕ
generation_in content.Absent = None
generation_in (content.Broken fault) = None
generation_in (content.Whole c) = Some c.generation

-- the number of the newest of both slots
abbrev pub newest_in : SlotContent → SlotContent → Option ℕ
newest_in first second = newest_of (generation_in first) (generation_in second)
