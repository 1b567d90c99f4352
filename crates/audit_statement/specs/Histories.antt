-- The slots after some save attempts, however each ended, and wherever a run was stopped.
use Rattle.std.specs.Prelude.{◌≡◌, ℕ, ◌+◌, ◌-◌, ◌%◌, ◌<◌, ◌⊎◌, zero, suc, Bool, true, false, cond, IsTrue, List, [], ◌∷◌, ◌++◌, take, ⊤, Option, Some, None}
use Rattle.std.specs.List.{All, list_all}
use Rattle.audit_model.specs.Pair.{Pair, Stored, stored}
use Rattle.audit_model.specs.Attempts.{Try}
use Rattle.audit_model.specs.declared.outcome.Outcome.{Outcome}
use Rattle.audit_model.specs.Job.{Job}
use Rattle.audit_model.specs.Run.{IsRight, fits}
use Rattle.audit_model.specs.Trajectory.{Draws}
use Rattle.audit_statement.specs.Checkpoint.{IsCheckpoint, checkpoint}
use Rattle.audit_statement.specs.Slots.{IsAfterStop, Slot, generation_of, slot_of, newest_for}

-- a failed or interrupted save leaves in its slot what was there, a prefix of its bytes, or something that satisfies
-- `Other`
abbrev pub IsLeft : (Slot → Type 0) → Job → List ℕ → Stored → List ℕ → Stored → Type 0
IsLeft Other job digest before bytes after = (after ≡ before) ⊎ ((n : ℕ) × (after ≡ Some (take n bytes))) ⊎ Other (slot_of job digest after)

-- a save that succeeded leaves its bytes
abbrev pub IsEnded : (Slot → Type 0) → Job → List ℕ → Bool → Stored → List ℕ → Stored → Type 0
IsEnded Other job digest true before bytes after = after ≡ Some bytes
IsEnded Other job digest false before bytes after = IsLeft Other job digest before bytes after

-- a save was carried out over the first slots and left the second ones
pub record IsCarriedOut (Other : Slot → Type 0) (job : Job) (digest : List ℕ) (p q : Pair) (c : Try) : Type 0 where
  pub slot : c.slot < 2
  pub beside : IsAfterStop c.slot p.zero_slot p.one_slot q.zero_slot q.one_slot
  pub ended : IsEnded Other job digest c.succeeded (stored p c.slot) c.bytes (stored q c.slot)

-- saves were carried out, one after another
abbrev pub AreCarriedOut : (Slot → Type 0) → Job → List ℕ → Pair → List Try → Pair → Type 0
AreCarriedOut Other job digest p [] q = q ≡ p
AreCarriedOut Other job digest p (c ∷ rest) q = (m : Pair) × IsCarriedOut Other job digest p m c × AreCarriedOut Other job digest m rest q

-- the first n attempts as they ended, and the next one interrupted: the attempts of a stopped run
abbrev pub stopped_in : ℕ → List Try → List Try
stopped_in n [] = []
stopped_in zero (t ∷ attempts) = record t { succeeded = false } ∷ []
stopped_in (suc n) (t ∷ attempts) = t ∷ stopped_in n attempts

-- ---- consistent slots

-- the bytes are a checkpoint of the job's digest, of either version, with plausible outcomes of its trajectories
pub record IsRightSave (job : Job) (draws : Draws) (digest bytes : List ℕ) : Type 0 where
  pub version : ℕ
  pub generation : ℕ
  pub outcomes : List Outcome
  pub sound : IsCheckpoint bytes version digest generation outcomes
  pub fit : IsTrue (list_all (fits job) outcomes)
  pub right : IsRight job draws outcomes

-- ---- the newest slot

-- the slot is not valid
abbrev pub IsNotValid : Slot → Type 0
IsNotValid slot = generation_of slot ≡ None

-- the bytes of the newest slot
abbrev pub bytes_at : Pair → Option ℕ → Stored
bytes_at p None = None
bytes_at p (Some n) = stored p n

-- the bytes of the slot that is the newest for a job
abbrev pub newest_bytes : Job → List ℕ → Pair → Stored
newest_bytes job digest p = bytes_at p (newest_for job digest p)

-- the save went to this slot, with a checkpoint of either version, of this generation and of plausible outcomes
pub record IsSaveAt (job : Job) (digest : List ℕ) (number generation : ℕ) (c : Try) : Type 0 where
  pub slot : c.slot ≡ number
  pub version : ℕ
  pub outcomes : List Outcome
  pub bytes : c.bytes ≡ checkpoint version digest generation outcomes
  pub sound : IsCheckpoint (checkpoint version digest generation outcomes) version digest generation outcomes
  pub fit : IsTrue (list_all (fits job) outcomes)

-- each save went to the current place, which moves to the other slot and the next generation after each success
abbrev pub AreInTurn : Job → List ℕ → ℕ → ℕ → List Try → Type 0
AreInTurn job digest number generation [] = ⊤
AreInTurn job digest number generation (c ∷ rest) =
    IsSaveAt job digest number generation c
    × AreInTurn job digest (cond c.succeeded (1 - number) number) (cond c.succeeded ((generation + 1) % 3) generation) rest

-- the save failed
abbrev pub HasFailed : Try → Type 0
HasFailed c = c.succeeded ≡ false

-- the bytes are those of a save after which none succeeded
pub record IsLatest (carried : List Try) (bytes : List ℕ) : Type 0 where
  pub earlier : List Try
  pub save : Try
  pub later : List Try
  pub split : carried ≡ earlier ++ save ∷ later
  pub failed : All HasFailed later
  pub same : save.bytes ≡ bytes

-- no save succeeded and the newest slot is unchanged, or it is a save after which none succeeded: the last success, or
-- a failed save that left all its bytes
abbrev pub KeepsNewest : Job → List ℕ → Pair → List Try → Pair → Type 0
KeepsNewest job digest before carried after =
    (All HasFailed carried × (newest_bytes job digest after ≡ newest_bytes job digest before))
    ⊎ ((bytes : List ℕ) × IsLatest carried bytes × (newest_bytes job digest after ≡ Some bytes))
