-- Laws of a keeper's slots, whoever wrote them.
use Rattle.std.specs.Prelude.{◌≡◌, ◌≢◌, ℕ, zero, suc, ◌+◌, ◌-◌, ◌%◌, ◌<◌, ◌⊎◌, true, IsTrue, List, Option, Some, None}
use Rattle.std.specs.List.{All, list_all}
use Rattle.audit_model.specs.Pair.{Pair, other_stored, stored}
use Rattle.audit_model.specs.declared.outcome.Outcome.{Outcome}
use Rattle.audit_model.specs.Job.{Job}
use Rattle.audit_model.specs.Run.{IsConsistent, IsRight, fits}
use Rattle.audit_model.specs.Trajectory.{Draws}
use Rattle.audit_statement.specs.Checkpoint.{IsCheckpoint, checkpoint}
use Rattle.audit_statement.specs.Slots.{IsAfterStop, IsConsistentSlot, Slot, absent, broken, generation_of, newest, initial_outcomes, other, ours, save_place, slot_of, AreConsistent, IsNotOurs, newest_for, place_for}
use Rattle.audit_statement.specs.Histories.{AreCarriedOut, AreInTurn, IsNotValid, IsRightSave, KeepsNewest, stopped_in}
use Rattle.audit_model.specs.Attempts.{Try}

-- ---- the newest slot

-- both slots, with this one in place of the one with this number
abbrev pub replaced : ℕ → Slot → Slot → Slot → Slot × Slot
replaced zero new first second = (new, second)
replaced (suc n) new first second = (first, new)

-- the number of the newest of both slots
abbrev pub newest_of_both : Slot × Slot → Option ℕ
newest_of_both (first, second) = newest first second

-- a checkpoint of outcomes that are all plausible for a job belongs to the job, if it has the job's digest
abbrev pub CheckpointsAreOurs : Type 0
CheckpointsAreOurs = (job : Job) (bytes : List ℕ) (version : ℕ) (digest : List ℕ) (generation : ℕ) (outcomes : List Outcome)
    → IsCheckpoint bytes version digest generation outcomes → IsTrue (list_all (fits job) outcomes)
    → slot_of job digest (Some bytes) ≡ ours generation outcomes

-- The facts that a slot's state implies about its bytes. A slot of the job is a checkpoint of the job's digest, with
-- this generation and these plausible outcomes. A slot of another job is a checkpoint of another digest. A broken one
-- is no checkpoint of the job's digest with plausible outcomes.
abbrev pub IsReadFrom : Job → List ℕ → List ℕ → Slot → Type 0
IsReadFrom job digest bytes absent = ⊥
IsReadFrom job digest bytes (broken fault) = (version generation : ℕ) (outcomes : List Outcome)
    → IsCheckpoint bytes version digest generation outcomes → IsTrue (list_all (fits job) outcomes) → ⊥
IsReadFrom job digest bytes (other found generation) = (found ≢ digest) × ((version : ℕ) × ((outcomes : List Outcome) × IsCheckpoint bytes version found generation outcomes))
IsReadFrom job digest bytes (ours generation outcomes) = ((version : ℕ) × IsCheckpoint bytes version digest generation outcomes) × IsTrue (list_all (fits job) outcomes)

-- the law that the state of a slot matches its bytes
abbrev pub SlotsAreWhatTheyAre : Type 0
SlotsAreWhatTheyAre = (job : Job) (digest bytes : List ℕ) → All (λ b. b < 256) bytes → IsReadFrom job digest bytes (slot_of job digest (Some bytes))

-- a valid slot with the place's generation in the place's slot is the newest, whatever both slots are
abbrev pub WrittenSlotsAreNewest : Type 0
WrittenSlotsAreNewest = (first second new : Slot) (number generation : ℕ)
    → save_place first second ≡ (number, generation) → generation_of new ≡ Some generation
    → newest_of_both (replaced number new first second) ≡ Some number

-- the slot that was written belongs to the job, holds these outcomes, and is the newest
pub record IsSavedAs (job : Job) (version : ℕ) (digest : List ℕ) (number generation : ℕ) (outcomes : List Outcome) (after : Pair) : Type 0 where
  pub bytes : stored after number ≡ Some (checkpoint version digest generation outcomes)
  pub slot : slot_of job digest (stored after number) ≡ ours generation outcomes
  pub newest : newest_for job digest after ≡ Some number

-- a checkpoint that is written to the place of a job's slots, and to no other slot, is in the newest slot
abbrev pub SavedSlotsAreNewest : Type 0
SavedSlotsAreNewest = (job : Job) (version : ℕ) (digest : List ℕ) (before after : Pair) (number generation : ℕ) (outcomes : List Outcome)
    → place_for job digest before ≡ (number, generation)
    → IsCheckpoint (checkpoint version digest generation outcomes) version digest generation outcomes → IsTrue (list_all (fits job) outcomes)
    → stored after number ≡ Some (checkpoint version digest generation outcomes) → stored after (1 - number) ≡ stored before (1 - number)
    → IsSavedAs job version digest number generation outcomes after

-- the slot with this number is the newest for the job if the other one is not valid, or has the generation before this
-- one
pub record IsNewestWhere (job : Job) (digest : List ℕ) (number generation : ℕ) (other_slot : Slot) (after : Pair) : Type 0 where
  pub alone : generation_of other_slot ≡ None → newest_for job digest after ≡ Some number
  pub later : (before : ℕ) → generation_of other_slot ≡ Some before → generation ≡ (before + 1) % 3 → newest_for job digest after ≡ Some number

-- the slot is the newest for every job for which the outcomes are plausible
abbrev pub IsNewestForFitJobs : List ℕ → ℕ → ℕ → List Outcome → Pair → Type 0
IsNewestForFitJobs digest number generation outcomes after = (job : Job) → IsTrue (list_all (fits job) outcomes)
    → IsNewestWhere job digest number generation (slot_of job digest (other_stored after number)) after

-- ---- consistent slots

-- the outcomes of the job's trajectories are consistent
abbrev pub RightIsConsistent : Type 0
RightIsConsistent = (job : Job) (draws : Draws) (outcomes : List Outcome) → IsRight job draws outcomes → IsConsistent job draws outcomes

-- outcomes from consistent slots with which a run may start are those of the job's trajectories
abbrev pub ConsistentSlotsOpenRight : Type 0
ConsistentSlotsOpenRight = (job : Job) (draws : Draws) (first second : Slot) (outcomes : List Outcome)
    → IsConsistentSlot job draws first → IsConsistentSlot job draws second → initial_outcomes true job.setting first second ≡ Some outcomes
    → IsRight job draws outcomes

-- a stop within a save leaves consistent slots if its slot is unchanged, does not belong to the job, or is consistent
abbrev pub StopsLeaveConsistentSlots : Type 0
StopsLeaveConsistentSlots = (job : Job) (draws : Draws) (digest : List ℕ) (before after : Pair) (number : ℕ)
    → IsAfterStop number before.zero_slot before.one_slot after.zero_slot after.one_slot
    → (stored after number ≡ stored before number) ⊎ IsNotOurs (slot_of job digest (stored after number))
    ⊎ IsConsistentSlot job draws (slot_of job digest (stored after number))
    → AreConsistent job draws digest before → AreConsistent job draws digest after

-- correct saves leave consistent slots consistent, wherever each failed and wherever the run was stopped
abbrev pub SavesLeaveConsistentSlots : Type 0
SavesLeaveConsistentSlots = (job : Job) (draws : Draws) (digest : List ℕ) (before after : Pair) (attempts : List Try) (n : ℕ)
    → All (λ t. IsRightSave job draws digest t.bytes) attempts → AreCarriedOut IsNotOurs job digest before (stopped_in n attempts) after
    → AreConsistent job draws digest before → AreConsistent job draws digest after

-- saves in turn keep the newest slot from before or make a newer one, wherever each failed and wherever the run was
-- stopped
abbrev pub SavesKeepTheNewest : Type 0
SavesKeepTheNewest = (job : Job) (digest : List ℕ) (before after : Pair) (number generation : ℕ) (attempts : List Try) (n : ℕ)
    → place_for job digest before ≡ (number, generation) → AreInTurn job digest number generation attempts
    → AreCarriedOut IsNotValid job digest before (stopped_in n attempts) after → KeepsNewest job digest before (stopped_in n attempts) after
