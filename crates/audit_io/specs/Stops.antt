-- The effect of a keeper that stops within a save.
use Rattle.std.specs.Prelude.{◌≡◌, ℕ, zero, suc, ◌+◌, ◌-◌, ◌^◌, ◌/◌, ◌↔◌, min, Bool, true, false, List, [], ◌∷◌, ◌++◌, length, take, Some, Result, OnOk, OnErr, IsErr, is_ok}
use Rattle.std.specs.List.{Contains}
use Rattle.audit_model.specs.Faults.{HasCause}
use Rattle.audit_io.specs.Mem.{MemorySlots}
use Rattle.audit_model.specs.Pair.{HoldsBytes, KeepsOther, Pair, stored}
use Rattle.audit_model.specs.Attempts.{try_of}

-- the slots with these bytes in the slot with this number
abbrev pub with_bytes : Pair → ℕ → List ℕ → Pair
with_bytes p zero bytes = record p { zero_slot = Some bytes }
with_bytes p (suc n) bytes = record p { one_slot = Some bytes }

-- the save was attempted and failed
abbrev pub with_try : MemorySlots → ℕ → List ℕ → MemorySlots
with_try k slot bytes = record k { attempted = k.attempted ++ try_of slot bytes false ∷ [] }

-- the save was attempted and failed, and left its first bytes
abbrev pub with_part : MemorySlots → ℕ → List ℕ → ℕ → MemorySlots
with_part k slot bytes kept = record k { slots = with_bytes k.slots slot (take kept bytes); attempted = k.attempted ++ try_of slot bytes false ∷ [] }

-- the effect of a save on a keeper in memory
pub record HasSaved {E : Type 0} (before now : MemorySlots) (slot : ℕ) (bytes : List ℕ) (result : Result (Unit {0}) E) : Type 0 where
  pub saved : OnOk result (HoldsBytes (Some now.slots) slot bytes)
  pub half : OnErr result (stored now.slots slot ≡ Some (take (length bytes / 2) bytes))
  pub other : KeepsOther (Some before.slots) (Some now.slots) slot
  pub cause : HasCause before.save_faults now.save_faults result
  pub fails : IsErr result ↔ Contains before.save_fails now.saves
  pub calls : now.saves ≡ min (before.saves + 1) (2 ^ 64 - 1)
  pub attempted : now.attempted ≡ before.attempted ++ try_of slot bytes (is_ok result) ∷ []
  pub loads : now.loads ≡ before.loads
  pub load_faults : now.load_faults ≡ before.load_faults
  pub load_fails : now.load_fails ≡ before.load_fails
  pub save_fails : now.save_fails ≡ before.save_fails

-- the wrapped keeper, the number of saves still passed on, the stop, the number of bytes that the stop leaves, and the
-- number of failed saves
pub record Stopping : Type 0 where
  pub inner : MemorySlots
  pub passes : ℕ
  pub stopped : Bool
  pub kept : ℕ
  pub faults : ℕ

-- one more fault
abbrev pub one_more : ℕ → ℕ
one_more faults = min (faults + 1) (2 ^ 64 - 1)

-- the stop leaves the first bytes, and later saves leave nothing
abbrev pub stopped_inner : Bool → Stopping → ℕ → List ℕ → MemorySlots
stopped_inner false k slot bytes = with_part k.inner slot bytes k.kept
stopped_inner true k slot bytes = with_try k.inner slot bytes

-- the effect of a save that is not passed on
abbrev pub after_refused : Stopping → ℕ → List ℕ → Stopping
after_refused k slot bytes = record k { inner = stopped_inner k.stopped k slot bytes; stopped = true; faults = one_more k.faults }

-- the effect of a save that is passed on
pub record HasPassed {E : Type 0} (before now : Stopping) (slot : ℕ) (bytes : List ℕ) (result : Result (Unit {0}) E) : Type 0 where
  pub inner : HasSaved before.inner now.inner slot bytes result
  pub passes : now.passes + 1 ≡ before.passes
  pub stopped : now.stopped ≡ before.stopped
  pub kept : now.kept ≡ before.kept
  pub faults : now.faults ≡ before.faults
