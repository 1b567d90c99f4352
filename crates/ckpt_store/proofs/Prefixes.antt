-- A proper prefix of a checkpoint is no checkpoint.
use Rattle.std.proofs.Common.{◌≡◌, ℕ, ◌+◌, ◌*◌, ◌<◌, ◌≤◌, Bool, true, false, List, length, take, drop, Option, Some, None, refl, sym, ap, ap₂, ◌∙◌, arith}
use Rattle.std.specs.Int.{w32, from_be_bytes}
use Rattle.std.specs.Prelude.{nat_lt, slice_range}
use Rattle.std.proofs.lemmas.List.{length-take-le, take-append-drop}
use Rattle.audit_model.specs.declared.fault.CkptFault.{CkptFault}
use Rattle.audit_model.specs.declared.outcome.Outcome.{Outcome}
use Rattle.audit_model.specs.Job.{Job}
use Rattle.audit_model.proofs.ListFacts.{part-front}
use Rattle.audit_statement.specs.Checkpoint.{IsCheckpoint, checkpoint_fault, outcome_size, stated_count, stated_version}
use Rattle.audit_statement.specs.Slots.{broken, checkpoint_limit, slot_of, slot_of_bytes, slot_of_checkpoint}
use Rattle.ckpt_format.proofs.Faulting.{IsFaultless-from_none}
use Rattle.ckpt_format.proofs.Made.{none-from_checkpoint}

-- a slice within a prefix is the slice of the whole
same_part : (n a b : ℕ) (bytes : List ℕ) → a ≤ b → b ≤ n → n ≤ length bytes → slice_range (take n bytes) a b ≡ slice_range bytes a b
same_part n a b bytes l m short =
    sym (part-front (take n bytes) (drop n bytes) a b l (omega (arith, length-take-le n bytes short)))
    ∙ ap (λ xs. slice_range xs a b) (take-append-drop n bytes)

-- a prefix states the version of the whole
same_version : (n : ℕ) (bytes : List ℕ) → 52 ≤ n → n ≤ length bytes → stated_version (take n bytes) ≡ stated_version bytes
same_version n bytes l m = ap (from_be_bytes w32) (same_part n 8 12 bytes (omega arith) (omega arith) m)

-- a prefix states the number of outcomes of the whole
same_count : (n : ℕ) (bytes : List ℕ) → 52 ≤ n → n ≤ length bytes → stated_count (take n bytes) ≡ stated_count bytes
same_count n bytes l m = ap (from_be_bytes w32) (same_part n 48 52 bytes (omega arith) (omega arith) m)

-- a checkpoint that was cut short has a fault
pub cut_has_a_fault : (bytes : List ℕ) (version : ℕ) (digest : List ℕ) (generation : ℕ) (outcomes : List Outcome) (n : ℕ)
    → IsCheckpoint bytes version digest generation outcomes → n < length bytes → checkpoint_fault (take n bytes) ≡ None → ⊥
cut_has_a_fault bytes version digest generation outcomes n is short none =
    let whole = (IsFaultless-from_none bytes (none-from_checkpoint bytes version digest generation outcomes is)).head.size in
    let part = (IsFaultless-from_none (take n bytes) none).head.size in
    let size : length (take n bytes) ≡ n = length-take-le n bytes (omega arith) in
    let long : 52 ≤ n = omega (arith, part, size) in
    let stated : length (take n bytes) ≡ 84 + outcome_size (stated_version bytes) * stated_count bytes =
    part ∙ ap₂ (λ (v c : ℕ). 84 + outcome_size v * c) (same_version n bytes long (omega arith)) (same_count n bytes long (omega arith)) in
    let same : n ≡ length bytes = sym size ∙ stated ∙ sym whole in
    absurd (omega (arith, same, short))

-- bytes with a fault are a broken slot
broken_by_fault : (job : Job) (digest bytes : List ℕ) (f : Option CkptFault) → (f ≡ None → ⊥) → (g : CkptFault) × (slot_of_checkpoint job digest bytes f ≡ broken g)
broken_by_fault job digest bytes None some = absurd (some refl)
broken_by_fault job digest bytes (Some g) some = (g, refl)

-- bytes with a fault are a broken slot, of any length
broken_by_length : (job : Job) (digest bytes : List ℕ) (long : Bool) → (checkpoint_fault bytes ≡ None → ⊥) → (g : CkptFault) × (slot_of_bytes job digest bytes long ≡ broken g)
broken_by_length job digest bytes true some = (_, refl)
broken_by_length job digest bytes false some = broken_by_fault job digest bytes (checkpoint_fault bytes) some

-- a checkpoint that was cut short is a broken slot
pub cut_is_broken : (job : Job) (bytes : List ℕ) (version : ℕ) (digest : List ℕ) (generation : ℕ) (outcomes : List Outcome) (n : ℕ)
    → IsCheckpoint bytes version digest generation outcomes → n < length bytes → (g : CkptFault) × (slot_of job digest (Some (take n bytes)) ≡ broken g)
cut_is_broken job bytes version digest generation outcomes n is short =
    broken_by_length job digest (take n bytes) (nat_lt checkpoint_limit (length (take n bytes))) (cut_has_a_fault bytes version digest generation outcomes n is short)
