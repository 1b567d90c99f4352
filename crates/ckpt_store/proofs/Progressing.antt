-- The progress computed from the loaded slots is the job's progress.
use Rattle.std.proofs.Common.{◌≡◌, ℕ, zero, suc, ◌&&◌, cond, List, Option, Some, None, Result, Ok, Err, refl, ap, ◌∙◌}
use Rattle.audit_model.specs.Job.{Job}
use Rattle.audit_statement.specs.Checkpoint.{job_digest}
use Rattle.audit_statement.specs.Slots.{slot_of}
use Rattle.ckpt_format.specs.declared.decode.Checkpoint.{Checkpoint}
use Rattle.ckpt_store.specs.declared.slots.Slot.{Slot}
use Rattle.ckpt_store.specs.declared.slots.Slot.TheVariants as slot
use Rattle.ckpt_store.specs.declared.slots.Slots.{Slots}
use Rattle.ckpt_store.specs.declared.slots.StoreFault.{StoreFault}
use Rattle.ckpt_store.specs.declared.slots.StoreFault.TheVariants.{Damaged}
use Rattle.ckpt_store.specs.View.{answer_at, is_absent, newest_answer, newest_seen, opened, slot_view}
use Rattle.ckpt_store.specs.declared.progress.Progress.{Progress}
use Rattle.ckpt_store.specs.Progress.{progress, progress_at, progress_by, progress_in, progress_of, progress_without}

opened_observed : (s : Slot) (wanted : List ℕ) → progress_by (opened s wanted) ≡ progress_in (slot_view s)
opened_observed slot.Absent wanted = refl
opened_observed (slot.Broken f) wanted = refl
opened_observed (slot.Other d g) wanted = refl
opened_observed (slot.Ours c) wanted = refl

without_observed : (z o : Slot) (slots : Slots)
    → progress_by (cond (is_absent z && is_absent o) (Ok None) (Err (Damaged slots))) ≡ progress_without (slot_view z) (slot_view o)
without_observed slot.Absent slot.Absent slots = refl
without_observed slot.Absent (slot.Broken f') slots = refl
without_observed slot.Absent (slot.Other d' g') slots = refl
without_observed slot.Absent (slot.Ours c') slots = refl
without_observed (slot.Broken f) slot.Absent slots = refl
without_observed (slot.Broken f) (slot.Broken f') slots = refl
without_observed (slot.Broken f) (slot.Other d' g') slots = refl
without_observed (slot.Broken f) (slot.Ours c') slots = refl
without_observed (slot.Other d g) slot.Absent slots = refl
without_observed (slot.Other d g) (slot.Broken f') slots = refl
without_observed (slot.Other d g) (slot.Other d' g') slots = refl
without_observed (slot.Other d g) (slot.Ours c') slots = refl
without_observed (slot.Ours c) slot.Absent slots = refl
without_observed (slot.Ours c) (slot.Broken f') slots = refl
without_observed (slot.Ours c) (slot.Other d' g') slots = refl
without_observed (slot.Ours c) (slot.Ours c') slots = refl

answer_observed : (slots : Slots) (wanted : List ℕ) (n : Option ℕ)
    → progress_by (answer_at slots wanted n) ≡ progress_at (slot_view slots.zero) (slot_view slots.one) n
answer_observed slots wanted None = without_observed slots.zero slots.one slots
answer_observed slots wanted (Some zero) = opened_observed slots.zero wanted
answer_observed slots wanted (Some (suc n)) = opened_observed slots.one wanted

newest_observed : (slots : Slots) (wanted : List ℕ) → progress_by (newest_answer slots wanted) ≡ progress_of (slot_view slots.zero) (slot_view slots.one)
unfolding progress_of
newest_observed slots wanted = answer_observed slots wanted (newest_seen slots)

-- the answer of two slots, as progress, is the job's progress
pub progress_observed : (job : Job) (digest : List ℕ) (slots : Slots) (first second : Option (List ℕ)) (answer : Result (Option Checkpoint) StoreFault) (p : Progress)
    → digest ≡ job_digest job → slot_view slots.zero ≡ slot_of job digest first → slot_view slots.one ≡ slot_of job digest second
    → answer ≡ newest_answer slots digest → p ≡ progress_by answer → p ≡ progress job first second
progress_observed job digest slots first second answer p d e0 e1 a q =
    q ∙ (ap progress_by a ∙ (newest_observed slots digest ∙ (ap (λ s. progress_of s (slot_view slots.one)) e0
    ∙ (ap (λ s. progress_of (slot_of job digest first) s) e1 ∙ ap (λ h. progress_of (slot_of job h first) (slot_of job h second)) d))))
