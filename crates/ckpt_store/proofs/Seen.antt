-- The slots that were seen, known or not.
use Rattle.std.proofs.Common.{◌≡◌, ℕ, ◌+◌, ◌<◌, Bool, true, false, List, length, Option, Some, None, sym, ap, ◌∙◌, subst, arith}
use Rattle.std.specs.Prelude.{Result, Ok, Err, IfErr, IfOk, replicate}
use Rattle.std.proofs.lemmas.Bool.{lt-ltb}
use Rattle.std.proofs.lemmas.List.{length-replicate}
use Rattle.audit_model.specs.Observed.{IfObserved}
use Rattle.audit_model.specs.State.{LoadFaults}
use Rattle.audit_io.specs.Loads.{LoadCause, Loads, LoadsWithin}
use Rattle.audit_model.specs.Pair.{Pair, Stored, stored, stored_if}
use Rattle.audit_io.specs.declared.keeper.LoadError.{LoadError}
use Rattle.audit_io.specs.declared.keeper.LoadError.TheVariants as load
use Rattle.audit_model.specs.declared.fault.CkptFault.TheVariants.{TooLong}
use Rattle.audit_model.specs.Job.{Job}
use Rattle.audit_statement.specs.Slots.{broken, checkpoint_limit, slot_of, slot_of_bytes}
use Rattle.ckpt_store.specs.Fitting.{HasFitOutcomes}
use Rattle.ckpt_store.specs.Looked.{FaultCause, IsByBytes, LookCause, SawSlot, SawSlots, unloaded}
use Rattle.ckpt_store.specs.View.{slot_view}
use Rattle.ckpt_store.specs.declared.look.LookFault.{LookFault}
use Rattle.ckpt_store.specs.declared.look.LookFault.TheVariants as look
use Rattle.ckpt_store.specs.declared.slots.Slot.{Slot}

-- for each limit there is a longer list of bytes
longer : (n : ℕ) → (bytes : List ℕ) × (n < length bytes)
longer n = (replicate (n + 1) 0, omega (arith, length-replicate {A = ℕ} (n + 1) 0))

-- a slot with too many bytes is broken for that reason
too_long : (job : Job) (digest bytes : List ℕ) (n : ℕ) → n ≡ checkpoint_limit → n < length bytes → broken (TooLong n) ≡ slot_of job digest (Some bytes)
too_long job digest bytes n is long =
    ap (λ m. broken (TooLong m)) is ∙ sym (ap (slot_of_bytes job digest bytes) (lt-ltb checkpoint_limit (length bytes) (omega (arith, is, long))))

-- a slot that was too long to load is seen as broken for that reason
pub unloaded_seen : (job : Job) (digest : List ℕ) (observed : Option Pair) (number : ℕ) (room : List ℕ) (e : LoadError)
    → IfObserved observed (λ p. Loads (stored p number) checkpoint_limit room (Err e)) → LoadsWithin checkpoint_limit room (Err e)
    → IfOk (unloaded e) (SawSlot job digest observed number)
unloaded_seen job digest observed number room load.Failed h within = tt
unloaded_seen job digest observed number room load.Taken h within = tt
unloaded_seen job digest observed number room load.Memory h within = tt
unloaded_seen job digest None number room (load.Long n) h within =
    let some_bytes = longer n in record { bytes = Some some_bytes.0; same = tt; is = too_long job digest some_bytes.0 n within.0 some_bytes.1 }
unloaded_seen job digest (Some p) number room (load.Long n) h within =
    record { bytes = Some h.0; same = sym h.1; is = too_long job digest h.0 n within.0 (omega (arith, h.2, within.0)) }

-- both slots, one after the other
pub both_seen : (job : Job) (digest : List ℕ) (observed later : Option Pair) (zero one : Slot) → later ≡ observed
    → SawSlot job digest observed 0 zero → SawSlot job digest later 1 one → SawSlots job digest observed (record { zero = zero; one = one })
both_seen job digest observed later zero one is first second = by observed first (subst (λ t. SawSlot job digest t 1 one) is second)
  where
    by : (observed : Option Pair) → SawSlot job digest observed 0 zero → SawSlot job digest observed 1 one → SawSlots job digest observed (record { zero = zero; one = one })
    by None a b = record { pair = record { zero_slot = a.bytes; one_slot = b.bytes }; same = tt; are = record { zero = a.is; one = b.is } }
    by (Some p) a b = record {
      pair = record { zero_slot = a.bytes; one_slot = b.bytes };
      same = ap (λ t. record { zero_slot = t; one_slot = b.bytes }) a.same ∙ ap (λ t. record { zero_slot = p.zero_slot; one_slot = t }) b.same;
      are = record { zero = a.is; one = b.is };
    }

-- the bytes that a load found are those of the slot
found_stored : (found : Bool) (slot : Stored) (limit : ℕ) (room : List ℕ) → Loads slot limit room (Ok found) → stored_if found room ≡ slot
found_stored true slot limit room h = sym h
found_stored false slot limit room h = sym h

if_found_stored : (observed : Option Pair) (number limit : ℕ) (room : List ℕ) (found : Bool) → IfObserved observed (λ p. Loads (stored p number) limit room (Ok found))
    → IfObserved observed (λ p. stored_if found room ≡ stored p number)
if_found_stored None number limit room found h = tt
if_found_stored (Some p) number limit room found h = found_stored found (stored p number) limit room h

-- a slot that was loaded is seen with its bytes
pub loaded_seen : (job : Job) (digest : List ℕ) (observed : Option Pair) (number limit : ℕ) (room bytes : List ℕ) (found : Bool) (r : Result Slot LookFault) → bytes ≡ room
    → IfObserved observed (λ p. Loads (stored p number) limit room (Ok found)) → IfOk r (λ s. slot_view s ≡ slot_of job digest (stored_if found bytes)) → IfOk r (SawSlot job digest observed number)
loaded_seen job digest observed number limit room bytes found (Ok s) same h is = record {
  bytes = stored_if found room;
  same = if_found_stored observed number limit room found h;
  is = is ∙ ap (λ (b : List ℕ). slot_of job digest (stored_if found b)) same;
}
loaded_seen job digest observed number limit room bytes found (Err e) same h is = is

-- the counts stay the same after a load that succeeded, since only memory can run out
pub loaded_cause : (before now : LoadFaults) (r : Result Slot LookFault) → now ≡ before → IfErr r (λ e. e ≡ look.Memory) → LookCause before now r
loaded_cause before now (Ok s) same memory = same
loaded_cause before now (Err e) same memory = subst (FaultCause before now) (sym memory) same

-- the counts after a load that failed
pub unloaded_cause : (before now : LoadFaults) (e : LoadError) → LoadCause before now (Err e) → LookCause before now (unloaded e)
unloaded_cause before now load.Failed cause = cause
unloaded_cause before now load.Taken cause = cause
unloaded_cause before now (load.Long n) cause = cause
unloaded_cause before now load.Memory cause = cause

-- a slot that was not loaded has no outcomes
pub unloaded_fit : (job : Job) (e : LoadError) → IfOk (unloaded e) (HasFitOutcomes job)
unloaded_fit job load.Failed = tt
unloaded_fit job load.Taken = tt
unloaded_fit job (load.Long n) = tt
unloaded_fit job load.Memory = tt

-- a slot that was not loaded is broken by its bytes
pub unloaded_by_bytes : (e : LoadError) → IfOk (unloaded e) IsByBytes
unloaded_by_bytes load.Failed = tt
unloaded_by_bytes load.Taken = tt
unloaded_by_bytes (load.Long n) = λ memory. cc memory
unloaded_by_bytes load.Memory = tt
