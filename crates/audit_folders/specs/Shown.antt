-- The report on two slots, before it is written.
use Rattle.std.specs.Prelude.{◌≡◌, ℕ, List, ◌++◌, Option, option_map}
use Rattle.audit_model.specs.Job.{Job}
use Rattle.audit_model.specs.Pair.{Pair}
use Rattle.audit_model.specs.Observed.{IfObserved}
use Rattle.ckpt_store.specs.Holding.{HoldsStored, IsLoadedFrom}
use Rattle.ckpt_store.specs.Progress.{progress}
use Rattle.ckpt_store.specs.declared.slot_content.Loaded.{Loaded}
use Rattle.audit_folders.specs.declared.slots.SlotsReport.{SlotsReport}
use Rattle.audit_folders.specs.SlotLines.{both_text, job_text, total_of}

-- there are two slots, the known ones if the keeper is observable, and both were loaded
pub record HasLoadedBoth (observed : Option Pair) (zero one : Loaded) : Type 0 where
  pub pair : Pair
  pub same : IfObserved observed (λ p. pair ≡ p)
  pub first : IsLoadedFrom zero pair.zero_slot
  pub second : IsLoadedFrom one pair.one_slot

-- the report on these slots
pub record IsShownOf (job : Option Job) (p : Pair) (shown : SlotsReport) : Type 0 where
  pub zero : HoldsStored p.zero_slot shown.first
  pub one : HoldsStored p.one_slot shown.second
  pub progress_is : shown.progress ≡ option_map (λ j. progress j p.zero_slot p.one_slot) job
  pub total_is : shown.total ≡ total_of job

abbrev pub shown_text : SlotsReport → List ℕ
shown_text shown = both_text shown.first shown.second ++ job_text shown.progress shown.total
