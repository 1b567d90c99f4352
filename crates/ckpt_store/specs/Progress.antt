-- The progress of a job, by the contents of its two slots.
-- Source: this project. Progress is the number of the newest slot's outcomes, and does not depend on their values.
use Rattle.std.specs.Prelude.{ℕ, List, length, Option, Some, None, Result, Ok, Err}
use Rattle.audit_model.specs.Job.{Job}
use Rattle.audit_statement.specs.Checkpoint.{job_digest}
use Rattle.audit_statement.specs.Slots as slots
use Rattle.ckpt_format.specs.declared.decode.Checkpoint.{Checkpoint}
use Rattle.ckpt_store.specs.declared.slots.StoreFault.{StoreFault}
use Rattle.ckpt_store.specs.declared.slots.StoreFault.TheVariants.{Damaged, OtherJob}
use Rattle.ckpt_store.specs.declared.progress.Progress.{Progress}
use Rattle.ckpt_store.specs.declared.progress.Progress.TheVariants as observed

-- the progress from the newest slot
abbrev pub progress_by : Result (Option Checkpoint) StoreFault → Progress
progress_by (Ok None) = observed.Done 0
progress_by (Ok (Some c)) = observed.Done (length c.outcomes.items)
progress_by (Err (Damaged s)) = observed.Damaged
progress_by (Err (OtherJob found wanted)) = observed.OtherJob

-- the progress from the slot that is the newest
abbrev pub progress_in : slots.Slot → Progress
progress_in slots.absent = observed.Done 0
progress_in (slots.broken fault) = observed.Done 0
progress_in (slots.other digest generation) = observed.OtherJob
progress_in (slots.ours generation outcomes) = observed.Done (length outcomes)

-- the progress if no slot is valid
abbrev pub progress_without : slots.Slot → slots.Slot → Progress
progress_without slots.absent slots.absent = observed.Done 0
progress_without slots.absent second = observed.Damaged
progress_without first second = observed.Damaged

abbrev pub progress_at : slots.Slot → slots.Slot → Option ℕ → Progress
progress_at first second (Some n) = progress_in (slots.slot_at first second n)
progress_at first second None = progress_without first second

-- the number of outcomes in the newest slot as the job sees both slots, or 0 if both are empty
unfoldable pub progress_of : slots.Slot → slots.Slot → Progress
progress_of first second = progress_at first second (slots.newest first second)

abbrev pub progress : Job → Option (List ℕ) → Option (List ℕ) → Progress
progress job first second = progress_of (slots.slot_of job (job_digest job) first) (slots.slot_of job (job_digest job) second)
