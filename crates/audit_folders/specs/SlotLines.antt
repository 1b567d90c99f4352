-- The lines about slots, and the end of a call that reports them.
-- Source: this project's formats. A line is a list of texts, put together.
use Rattle.std.specs.Prelude.{◌≡◌, ◌⊎◌, ℕ, List, [], ◌∷◌, ◌++◌, codes, decimal, length, Option, Some, None, option_map}
use Rattle.audit_model.specs.Faults.{Rose}
use Rattle.audit_model.specs.Job.{Job}
use Rattle.audit_model.specs.Pair.{Pair}
use Rattle.audit_model.specs.Run.{total}
use Rattle.audit_model.specs.State.{KeeperState}
use Rattle.audit_model.specs.Observed.{IfObserved}
use Rattle.audit_statement.specs.Accepted.{no_columns}
use Rattle.audit_statement.specs.Note.{as_line, fault_name, folder_taken, load_fault, no_memory, note}
use Rattle.hex.specs.Hex.{encode_lower}
use Rattle.ckpt_store.specs.Holding.{HoldsStored, newest_in}
use Rattle.ckpt_store.specs.Progress as definition
use Rattle.ckpt_store.specs.declared.slot_content.SlotContent.{SlotContent}
use Rattle.ckpt_store.specs.declared.slot_content.SlotContent.TheVariants as content
use Rattle.ckpt_store.specs.declared.progress.Progress.{Progress}
use Rattle.ckpt_store.specs.declared.progress.Progress.TheVariants as progress
use Rattle.audit_folders.specs.Gatherings.{IsCutOff, IsNoted, IsWhole, Outputs}

-- the text after the number of a slot
abbrev pub content_texts : SlotContent → List (List ℕ)
content_texts content.Absent = codes ": absent" ∷ []
content_texts (content.Broken fault) = codes ": " ∷ fault_name fault ∷ []
content_texts (content.Whole c) =
    codes ": version " ∷ decimal c.version ∷ codes " generation " ∷ decimal c.generation ∷ codes " outcomes " ∷ decimal (length c.outcomes.items) ∷ codes " digest "
    ∷ encode_lower c.digest ∷ []

abbrev pub slot_line : ℕ → SlotContent → List ℕ
slot_line slot what = as_line (codes "slot " ∷ decimal slot ∷ content_texts what)

abbrev pub newest_texts : Option ℕ → List (List ℕ)
newest_texts None = codes "newest: none" ∷ []
newest_texts (Some slot) = codes "newest: slot " ∷ decimal slot ∷ []

abbrev pub progress_texts : Progress → ℕ → List (List ℕ)
progress_texts (progress.Done done) total = codes "done: " ∷ decimal done ∷ codes " of " ∷ decimal total ∷ []
progress_texts progress.OtherJob total = codes "done: the newest is another job's" ∷ []
progress_texts progress.Damaged total = codes "done: no slot is intact" ∷ []

-- the contents of both slots, and the newest of them
abbrev pub both_text : SlotContent → SlotContent → List ℕ
both_text first second = (slot_line 0 first ++ slot_line 1 second) ++ as_line (newest_texts (newest_in first second))

-- the progress of the job, if there is one
abbrev pub job_text : Option Progress → ℕ → List ℕ
job_text None total = []
job_text (Some done) total = as_line (progress_texts done total)

abbrev pub total_of : Option Job → ℕ
total_of None = 0
total_of (Some job) = total job

-- the whole report on two slots
abbrev pub slots_text : Option Job → Pair → SlotContent → SlotContent → List ℕ
slots_text job p first second = both_text first second ++ job_text (option_map (λ j. definition.progress j p.zero_slot p.one_slot) job) (total_of job)

-- Both slots were loaded, the known ones if the keeper is observable, and the report was written, or a front of it.
pub record HasShown (job : Option Job) (observed : Option Pair) (before after : Outputs) (status : ℕ) : Type 0 where
  pub pair : Pair
  pub same : IfObserved observed (λ p. pair ≡ p)
  pub first : SlotContent
  pub second : SlotContent
  pub zero : HoldsStored pair.zero_slot first
  pub one : HoldsStored pair.one_slot second
  pub written : IsWhole before after (slots_text job pair first second) status ⊎ IsCutOff before after (slots_text job pair first second) status

-- Only the reason for a failure was written: memory ran out, a load failed, or another process has locked the slots.
abbrev pub HasFailedToShow : KeeperState → KeeperState → Outputs → Outputs → ℕ → Type 0
HasFailedToShow before after outputs outputs_now status =
    ((status ≡ 3) × IsNoted outputs outputs_now (note no_columns no_memory))
    ⊎ (((status ≡ 6) × Rose before.load_faults.all after.load_faults.all × IsNoted outputs outputs_now (note no_columns load_fault))
    ⊎ ((status ≡ 6) × Rose before.load_faults.taken after.load_faults.taken × IsNoted outputs outputs_now (note no_columns folder_taken)))

-- the end of a call that reports two slots, which saves nothing
pub record EndsShowing (job : Option Job) (before after : KeeperState) (outputs outputs_now : Outputs) (status : ℕ) : Type 0 where
  pub slots : after.slots ≡ before.slots
  pub attempted : after.attempted ≡ before.attempted
  pub shown : HasShown job before.slots outputs outputs_now status ⊎ HasFailedToShow before after outputs outputs_now status
