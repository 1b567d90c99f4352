-- Outcomes that are not plausible for a job, and the state of a slot with a checkpoint.
use Rattle.std.specs.Prelude.{ℕ, ◌≤◌, Bool, true, false, IsTrue, not, List, length, map, bytes_eq, Option, Some, None}
use Rattle.std.specs.List.{All, slice_get}
use Rattle.audit_model.specs.declared.fault.CkptFault.TheVariants.{Unfit}
use Rattle.audit_model.specs.declared.outcome.Outcome.{Outcome}
use Rattle.audit_model.specs.First.{first_below}
use Rattle.audit_model.specs.Job.{Job}
use Rattle.audit_model.specs.Run.{fits}
use Rattle.audit_statement.specs.Checkpoint.{AreRising}
use Rattle.audit_statement.specs.Slots as definition
use Rattle.ckpt_format.specs.declared.decode.Checkpoint.{Checkpoint}
use Rattle.ckpt_store.specs.declared.slots.Slot.{Slot}
use Rattle.ckpt_store.specs.declared.slots.Slot.TheVariants as slot
use Rattle.audit_model.specs.Limits.{most_trajectories}

-- there is an outcome, and it is not plausible
abbrev pub is_unfit_one : Job → Option Outcome → Bool
is_unfit_one job None = false
is_unfit_one job (Some o) = not (fits job o)

-- the outcome at a place is not plausible
abbrev pub is_unfit : Job → List Outcome → ℕ → Bool
is_unfit job outcomes place = is_unfit_one job (slice_get outcomes place)

-- the state of a slot with a checkpoint of the job's digest, by the least place of an outcome that is not plausible
abbrev pub slot_judged_ours : Checkpoint → Option ℕ → definition.Slot
slot_judged_ours checkpoint None = definition.ours checkpoint.generation checkpoint.outcomes.items
slot_judged_ours checkpoint (Some place) = definition.broken (Unfit place)

abbrev pub slot_judged_digest : Job → Checkpoint → Bool → definition.Slot
slot_judged_digest job checkpoint false = definition.other checkpoint.digest checkpoint.generation
slot_judged_digest job checkpoint true =
    slot_judged_ours checkpoint (first_below (length checkpoint.outcomes.items) (is_unfit job checkpoint.outcomes.items))

-- the state of a slot with this checkpoint, for a job
abbrev pub slot_judged : Job → List ℕ → Checkpoint → definition.Slot
slot_judged job digest checkpoint = slot_judged_digest job checkpoint (bytes_eq checkpoint.digest digest)

-- the ids rise, and each outcome is plausible for the job
pub record AreFit (job : Job) (outcomes : List Outcome) : Type 0 where
  pub few : length outcomes ≤ most_trajectories
  pub rising : AreRising (map (λ o. o.id) outcomes)
  pub fit : All (λ o. IsTrue (fits job o)) outcomes

-- the outcomes of a slot of the job are plausible
abbrev pub HasFitOutcomes : Job → Slot → Type 0
HasFitOutcomes job slot.Absent = Unit {0}
HasFitOutcomes job (slot.Broken fault) = Unit {0}
HasFitOutcomes job (slot.Other found generation) = Unit {0}
HasFitOutcomes job (slot.Ours checkpoint) = AreFit job checkpoint.outcomes.items
