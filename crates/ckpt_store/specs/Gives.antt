-- The outcomes of a job that a folder's two slots hold.
-- Source: this project. They depend on the slots alone, as the start of a run does.
use Rattle.std.specs.Prelude.{ℕ, Bool, true, false, ◌||◌, List, Option, Some, None}
use Rattle.audit_model.specs.Pair.{Pair}
use Rattle.audit_model.specs.declared.outcome.Outcome.{Outcome}
use Rattle.audit_model.specs.Job.{Job}
use Rattle.audit_statement.specs.Slots.{Slot, absent, broken, other, ours, newest, slot_at, slot_of}
use Rattle.ckpt_store.specs.declared.folder_content.FolderContent.{FolderContent}
use Rattle.ckpt_store.specs.declared.folder_content.FolderContent.TheVariants as given

-- The outcomes of the newest slot, which belongs to the job, or the reason why there are none. Either both slots are
-- empty, or the newest is another job's, or no slot is valid and one is not empty.
pub data Gives : Type 0 where
  outcomes : List Outcome → Gives
  nothing : Gives
  other_job : Gives
  damaged : Gives

-- the outcomes of the newest slot, which is neither empty nor broken
abbrev pub slot_gives : Slot → Gives
slot_gives absent = nothing
slot_gives (broken fault) = nothing
slot_gives (other digest generation) = other_job
slot_gives (ours generation found) = outcomes found

-- the outcomes of two slots, by the number of the newest
abbrev pub slots_give : Slot → Slot → Option ℕ → Gives
slots_give first second (Some n) = slot_gives (slot_at first second n)
slots_give absent absent None = nothing
slots_give absent second None = damaged
slots_give first second None = damaged

-- the outcomes of stored slots for the job with this digest
abbrev pub gives : Job → List ℕ → Pair → Gives
gives job digest p = slots_give (slot_of job digest p.zero_slot) (slot_of job digest p.one_slot) (newest (slot_of job digest p.zero_slot) (slot_of job digest p.one_slot))

-- the slot is not empty, and holds no checkpoint that can be taken
abbrev pub is_broken : Slot → Bool
is_broken absent = false
is_broken (broken fault) = true
is_broken (other digest generation) = false
is_broken (ours generation found) = false

-- one of two stored slots is broken
abbrev pub has_broken : Job → List ℕ → Pair → Bool
has_broken job digest p = is_broken (slot_of job digest p.zero_slot) || is_broken (slot_of job digest p.one_slot)

abbrev pub given_view : FolderContent → Gives
given_view (given.Outcomes list) = outcomes list.items
given_view given.Nothing = nothing
given_view given.OtherJob = other_job
given_view given.Damaged = damaged
