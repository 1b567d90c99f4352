-- Slots into which the outcomes of several folders are gathered.
-- Source: this project. Gathered outcomes may have histograms for some ids and none for others, as those of consistent
-- slots.
use Rattle.std.specs.Prelude.{◌≡◌, ℕ, IsTrue, List, Some}
use Rattle.std.specs.List.{list_all}
use Rattle.audit_model.specs.Pair.{Pair, stored}
use Rattle.audit_model.specs.declared.outcome.Outcome.{Outcome}
use Rattle.audit_model.specs.Job.{Job}
use Rattle.audit_model.specs.Run.{IsConsistent, fits}
use Rattle.audit_model.specs.Trajectory.{Draws}
use Rattle.audit_statement.specs.Checkpoint.{IsCheckpoint, checkpoint}
use Rattle.audit_statement.specs.Slots.{IsAfterStop, IsConsistentSlot, Slot, newest, outcomes_of_newest, AreConsistent}
use Rattle.outcome_book.specs.Union.{IsUnion}

-- if both slots are consistent, the outcomes that the newest holds of the job are
abbrev pub ConsistentSlotsGiveConsistentOutcomes : Type 0
ConsistentSlotsGiveConsistentOutcomes = (job : Job) (draws : Draws) (first second : Slot) (outcomes : List Outcome)
    → IsConsistentSlot job draws first → IsConsistentSlot job draws second → outcomes_of_newest first second (newest first second) ≡ Some outcomes
    → IsConsistent job draws outcomes

-- one slot was written: the checkpoint of the union of the gathered outcomes and those of a folder, all plausible for
-- the job
pub record IsGathered (job : Job) (digest : List ℕ) (gathered content both : List Outcome) (before after : Pair) (number generation : ℕ) : Type 0 where
  pub union : IsUnion gathered content both
  pub fit : IsTrue (list_all (fits job) both)
  pub sound : IsCheckpoint (checkpoint 2 digest generation both) 2 digest generation both
  pub bytes : stored after number ≡ Some (checkpoint 2 digest generation both)
  pub beside : IsAfterStop number before.zero_slot before.one_slot after.zero_slot after.one_slot

-- saving consistent outcomes over consistent slots leaves consistent slots
abbrev pub GatheredSlotsAreConsistent : Type 0
GatheredSlotsAreConsistent = (job : Job) (draws : Draws) (digest : List ℕ) (gathered content both : List Outcome) (before after : Pair) (number generation : ℕ)
    → IsConsistent job draws gathered → IsConsistent job draws content → IsGathered job digest gathered content both before after number generation
    → AreConsistent job draws digest before → AreConsistent job draws digest after
