-- The state computed from a checkpoint is the state of its bytes.
use Rattle.std.proofs.Common.{◌≡◌, ℕ, ◌≤◌, Bool, true, false, not, List, length, Option, Some, None, refl, sym, ap, ◌∙◌, subst, inl, inr, arith}
use Rattle.std.specs.Prelude.{◌⊎◌, Result, Ok, Err, IfOk, OnOk, bytes_eq}
use Rattle.std.specs.Int.{w32}
use Rattle.std.proofs.lemmas.Bool.{le-ltb}
use Rattle.audit_model.specs.declared.fault.CkptFault.{CkptFault}
use Rattle.audit_model.specs.declared.fault.CkptFault.TheVariants as variant
use Rattle.audit_model.specs.declared.memory.Memory.{Memory}
use Rattle.audit_model.specs.declared.outcome.Outcome.{Outcome}
use Rattle.audit_model.specs.First.{first_below}
use Rattle.audit_model.specs.Job.{Job}
use Rattle.audit_model.specs.Run.{fits}
use Rattle.audit_model.proofs.Below.{length-map_below, get_or-map_below}
use Rattle.audit_model.proofs.First.{first_below_same}
use Rattle.audit_statement.specs.Checkpoint.{checkpoint_fault, number_at, stated_count}
use Rattle.audit_statement.specs.Slots.{ours, other, checkpoint_limit, outcome_in, outcomes_in, slot_of, slot_of_bytes, slot_of_checkpoint, slot_of_digest, slot_of_ours}
use Rattle.ckpt_format.specs.declared.decode.Checkpoint.{Checkpoint}
use Rattle.ckpt_format.specs.Laws.{StandsIn}
use Rattle.ckpt_store.specs.Fitting.{HasFitOutcomes, is_unfit, slot_judged, slot_judged_digest, slot_judged_ours}
use Rattle.ckpt_store.specs.View.{slot_view}
use Rattle.ckpt_store.specs.declared.slots.Slot as program
use Rattle.ckpt_store.specs.declared.slots.Slot.TheVariants as slot
use Rattle.ckpt_store.proofs.Fits.{is_unfit_at}

-- the least place of an outcome that is not plausible, by the bytes and by the list
first_same : (job : Job) (bytes : List ℕ)
    → first_below (stated_count bytes) (λ k. not (fits job (outcome_in bytes k))) ≡ first_below (length (outcomes_in bytes)) (is_unfit job (outcomes_in bytes))
first_same job bytes =
    let count = stated_count bytes in
    let outcome = outcome_in bytes in
    let many : length (outcomes_in bytes) ≡ count = length-map_below count outcome in
    first_below_same count (λ k. not (fits job (outcome k))) (is_unfit job (outcomes_in bytes))
    (λ k l. sym (is_unfit_at job (outcomes_in bytes) k (outcome 0) (omega (arith, many)) ∙ ap (λ (o : Outcome). not (fits job o)) (get_or-map_below count outcome k (outcome 0) l)))
    ∙ ap (λ n. first_below n (is_unfit job (outcomes_in bytes))) (sym many)

-- a checkpoint of the job's digest, by its first outcome that is not plausible
by_first : (bytes : List ℕ) (c : Checkpoint) → StandsIn bytes c.version c.digest c.generation c.outcomes.items → (o : Option ℕ) → slot_of_ours bytes o ≡ slot_judged_ours c o
by_first bytes c stands None =
    ap (λ g. ours g (outcomes_in bytes)) stands.generation_at ∙ ap (λ (os : List Outcome). ours c.generation os) stands.outcomes_at
by_first bytes c stands (Some place) = refl

-- a checkpoint, by whether it has the job's digest
by_digest : (job : Job) (bytes : List ℕ) (c : Checkpoint) → StandsIn bytes c.version c.digest c.generation c.outcomes.items → (b : Bool) → slot_of_digest job bytes b ≡ slot_judged_digest job c b
by_digest job bytes c stands false =
    ap (λ (d : List ℕ). other d (number_at w32 44 bytes)) stands.digest_at ∙ ap (λ g. other c.digest g) stands.generation_at
by_digest job bytes c stands true =
    ap (slot_of_ours bytes) (first_same job bytes ∙ ap (λ (os : List Outcome). first_below (length os) (is_unfit job os)) stands.outcomes_at)
    ∙ by_first bytes c stands (first_below (length c.outcomes.items) (is_unfit job c.outcomes.items))

-- the state of bytes with this fault, or with none
pub slot_of_fault : (job : Job) (digest bytes : List ℕ) (o : Option CkptFault) → length bytes ≤ checkpoint_limit → checkpoint_fault bytes ≡ o
    → slot_of job digest (Some bytes) ≡ slot_of_checkpoint job digest bytes o
slot_of_fault job digest bytes o l e =
    ap (slot_of_bytes job digest bytes) (le-ltb checkpoint_limit (length bytes) l) ∙ ap (slot_of_checkpoint job digest bytes) e

-- the state of a slot with a checkpoint
pub slot_of_read : (job : Job) (digest bytes : List ℕ) (c : Checkpoint) → length bytes ≤ checkpoint_limit → checkpoint_fault bytes ≡ None
    → StandsIn bytes c.version c.digest c.generation c.outcomes.items → slot_judged job digest c ≡ slot_of job digest (Some bytes)
slot_of_read job digest bytes c l e stands =
    sym (slot_of_fault job digest bytes None l e
    ∙ ap (λ (d : List ℕ). slot_of_digest job bytes (bytes_eq d digest)) stands.digest_at
    ∙ by_digest job bytes c stands (bytes_eq c.digest digest))

-- the state of a slot with a fault other than out of memory
pub slot_of_broken : (job : Job) (digest bytes : List ℕ) (fault : CkptFault) (r : Result program.Slot Memory) → length bytes ≤ checkpoint_limit
    → (fault ≡ variant.Memory) ⊎ (checkpoint_fault bytes ≡ Some fault) → IfOk r (λ s. s ≡ slot.Broken fault) → OnOk r (fault ≡ variant.Memory → ⊥)
    → IfOk r (λ s. slot_view s ≡ slot_of job digest (Some bytes))
slot_of_broken job digest bytes fault (Err e) l why is known = tt
slot_of_broken job digest bytes fault (Ok s) l (inl short) is known = absurd (known short)
slot_of_broken job digest bytes fault (Ok s) l (inr e) is known = ap slot_view is ∙ sym (slot_of_fault job digest bytes (Some fault) l e)

-- a broken slot has no outcomes, so all are plausible
pub broken_is_fit : (job : Job) (fault : CkptFault) (r : Result program.Slot Memory) → IfOk r (λ s. s ≡ slot.Broken fault) → IfOk r (λ s. HasFitOutcomes job s)
broken_is_fit job fault (Err e) is = tt
broken_is_fit job fault (Ok s) is = subst (HasFitOutcomes job) (sym is) tt
