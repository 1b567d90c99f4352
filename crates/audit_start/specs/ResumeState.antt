-- The start of a run: its initial outcomes and the place of its first save.
use Rattle.std.specs.Prelude.{◌≡◌, ℕ, ◌<◌, Bool, true, false, List, ⊤, Option, Some, None, Result, Ok, Err}
use Rattle.audit_model.specs.Pair.{Pair}
use Rattle.audit_model.specs.Job.{Job}
use Rattle.audit_statement.specs.Checkpoint.{job_digest}
use Rattle.audit_statement.specs.Slots.{other, slot_at}
use Rattle.ckpt_store.specs.declared.slots.Slots.{Slots}
use Rattle.ckpt_store.specs.declared.slots.StoreFault.{StoreFault}
use Rattle.ckpt_store.specs.declared.slots.StoreFault.TheVariants as fault
use Rattle.ckpt_store.specs.Fitting.{AreFit}
use Rattle.ckpt_store.specs.View.{newest_seen, slot_view}
use Rattle.report.specs.declared.ended.Ended.{Ended}
use Rattle.report.specs.declared.ended.Ended.TheVariants as ended
use Rattle.audit_start.specs.declared.resume_state.ResumeState.{ResumeState}
use Rattle.audit_start.specs.declared.resume_state.SaveTarget.{SaveTarget}
use Rattle.audit_statement.specs.Endings.{AreInitialOutcomes, place_of, saves}
use Rattle.audit_laws.specs.Calls.{Finishes}
use Rattle.audit_laws.specs.Runs.{IsRunJob}
use Rattle.audit_model.specs.State.{KeeperState, Stream}
use Rattle.audit_model.specs.Observed.{IfObserved}

-- the place of the job's first save, by the known slots
pub record IsTargetFor (job : Job) (slots : Option Pair) (t : SaveTarget) : Type 0 where
  pub digest_is : t.digest ≡ job_digest job
  pub slot_below : t.place.slot < 2
  pub generation_below : t.place.generation < 3
  pub observed : IfObserved slots (λ p. (t.place.slot, t.place.generation) ≡ place_of job p)

-- there is a place exactly if the run saves
abbrev pub IsTarget : Bool → Job → Option Pair → Option SaveTarget → Type 0
IsTarget false job slots None = ⊤
IsTarget false job slots (Some t) = ⊥
IsTarget true job slots None = ⊥
IsTarget true job slots (Some t) = IsTargetFor job slots t

-- the initial outcomes of a run, each plausible for the job, and the place of its first save
pub record IsOpened (job : Job) (slots : Option Pair) (o : ResumeState) : Type 0 where
  pub run : IsRunJob job
  pub opened : AreInitialOutcomes job slots o.outcomes.items
  pub fit : AreFit job o.outcomes.items
  pub target : IsTarget (saves job.setting) job slots o.target

-- the reason why a run does not resume
abbrev pub refused_by : StoreFault → Ended
refused_by (fault.Damaged slots) = ended.Damaged slots
refused_by (fault.OtherJob found wanted) = ended.OtherJob found wanted

-- the newest of the slots that were looked at belongs to another job, with this digest
pub record IsOtherSeen (slots : Slots) (digest : List ℕ) : Type 0 where
  pub generation : ℕ
  pub number : ℕ
  pub newest_is : newest_seen slots ≡ Some number
  pub other_is : slot_at (slot_view slots.zero) (slot_view slots.one) number ≡ other digest generation

-- the reason why a run does not resume from the slots that were looked at
abbrev pub RefusesSlots : Slots → List ℕ → Ended → Type 0
RefusesSlots slots wanted (ended.Damaged seen) = (seen ≡ slots) × (newest_seen slots ≡ None)
RefusesSlots slots wanted (ended.OtherJob found digest) = (digest ≡ wanted) × IsOtherSeen slots found
RefusesSlots slots wanted why = ⊥

-- the keeper is unchanged, and the run may start
pub record OpensWith (job : Job) (before after : KeeperState) (o : ResumeState) : Type 0 where
  pub same : after ≡ before
  pub opened : IsOpened job before.slots o

-- the run may start, or it ends
abbrev pub Opens : Job → KeeperState → KeeperState → Result ResumeState Ended → Type 0
Opens job before after (Ok o) = OpensWith job before after o
Opens job before after (Err why) = (out : Stream) → Finishes job out out before after why
