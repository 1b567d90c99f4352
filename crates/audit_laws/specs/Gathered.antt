-- One job in parts, on many machines: each folder is left by runs, and some by gatherings of others.
-- Source: this project. A folder stands for its two slots. A folder may receive others that received others themselves.
use Rattle.std.specs.Prelude.{◌≡◌, ℕ, Bool, false, List, Option, Some}
use Rattle.std.specs.List.{All}
use Rattle.audit_model.specs.Pair.{Pair}
use Rattle.audit_model.specs.State.{KeeperState}
use Rattle.audit_model.specs.Attempts.{Try, try_of}
use Rattle.audit_model.specs.declared.outcome.Outcome.{Outcome}
use Rattle.audit_model.specs.Job.{Job}
use Rattle.audit_statement.specs.Checkpoint.{IsCheckpoint, checkpoint, job_digest}
use Rattle.audit_statement.specs.Slots.{newest, outcomes_of_newest, slot_of, IsNotOurs}
use Rattle.audit_statement.specs.Histories.{IsCarriedOut}
use Rattle.audit_statement.specs.Chain.{AreConsistentOf}
use Rattle.audit_statement.specs.Rerun.{AllHaveWritten, Event, IsChain, IsEvent, slots_after}
use Rattle.ckpt_store.specs.declared.gather_result.GatherResult.{GatherResult}
use Rattle.ckpt_store.specs.Whole.{IsGathering, MayBeSaved}
use Rattle.outcome_book.specs.Union.{IsUnion}

-- the newest of these slots holds these outcomes of the job, and none if both are empty
abbrev pub Hold : Job → Pair → List Outcome → Type 0
Hold job p outcomes =
    outcomes_of_newest (slot_of job (job_digest job) p.zero_slot) (slot_of job (job_digest job) p.one_slot)
    (newest (slot_of job (job_digest job) p.zero_slot) (slot_of job (job_digest job) p.one_slot)) ≡ Some outcomes

-- One save of these outcomes over the first slots, to either of them, left the second ones. If it succeeded, it left
-- its bytes. If it failed or was cut off, it left the former contents, its first bytes or all of them, or no checkpoint
-- of the job.
pub record IsSavedOver (job : Job) (outcomes : List Outcome) (p q : Pair) : Type 0 where
  pub save : Try
  pub generation : ℕ
  pub sound : IsCheckpoint save.bytes 2 (job_digest job) generation outcomes
  pub carried : IsCarriedOut IsNotOurs job (job_digest job) p q save

mutual
  -- slots reached from empty or consistent ones by runs of any part of the job, ended or stopped anywhere, and by
  -- gatherings, ended or stopped anywhere
  pub data AreReached (job : Job) : Pair → Type 0 where
    begun : (p : Pair) → AreConsistentOf job p → AreReached job p
    after_run : (p : Pair) (e : Event) → AreReached job p → IsEvent job p e → AreReached job (slots_after e)
    after_gathering : (p q : Pair) (outcomes : List Outcome) → AreReached job p → AreGathered job outcomes → IsSavedOver job outcomes p q → AreReached job q

  -- outcomes held by reached slots, or unions of such outcomes
  pub data AreGathered (job : Job) : List Outcome → Type 0 where
    kept_outcomes : (p : Pair) (outcomes : List Outcome) → AreReached job p → Hold job p outcomes → AreGathered job outcomes
    united : (some others both : List Outcome) → AreGathered job some → AreGathered job others → IsUnion some others both → AreGathered job both

-- Over any number of machines, folders, halts, kills and gatherings, reached slots are consistent. Each run of any
-- chain from them that ended with status 0, or with status 9 and nothing pending, has written one thread's report.
abbrev pub GatheredRunsWriteOneReport : Type 0
GatheredRunsWriteOneReport = (job : Job) (p : Pair) → AreReached job p
    → AreConsistentOf job p × ((events : List Event) → IsChain job p events → AllHaveWritten job events)

-- the slots of each folder are known, and were reached
abbrev pub AreAllReached : Job → List KeeperState → Type 0
AreAllReached job folders = All (λ (k : KeeperState). (p : Pair) × (k.slots ≡ Some p) × AreReached job p) folders

-- The slots after one gathering of reached folders into reached slots are reached, whatever its findings.
abbrev pub GatheringsReach : Type 0
GatheringsReach = (job : Job) (saves : Bool) (before after : KeeperState) (folders folders_now : List KeeperState) (observed : GatherResult) (p q : Pair)
    → IsGathering job (job_digest job) saves before after folders folders_now observed → before.slots ≡ Some p → after.slots ≡ Some q
    → AreReached job p → AreAllReached job folders → AreReached job q

-- The slots after a gathering whose save failed or was cut off are reached. The only save that a gathering may attempt
-- is that of the union at its place.
abbrev pub CutGatheringsReach : Type 0
CutGatheringsReach = (job : Job) (observed : Option Pair) (folders folders_now : List KeeperState) (place : ℕ × ℕ) (all : List Outcome) (p q : Pair)
    → MayBeSaved job (job_digest job) observed folders folders_now place all → IsCheckpoint (checkpoint 2 (job_digest job) place.1 all) 2 (job_digest job) place.1 all → observed ≡ Some p
    → IsCarriedOut IsNotOurs job (job_digest job) p q (try_of place.0 (checkpoint 2 (job_digest job) place.1 all) false) → AreReached job p → AreAllReached job folders → AreReached job q
