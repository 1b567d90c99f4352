-- The findings in folders, one after the other, and the outcomes gathered from them.
-- Source: this project. A folder whose outcomes are not added leaves the collection unchanged.
use Rattle.std.specs.Prelude.{◌≡◌, ℕ, Bool, true, false, not, ◌&&◌, List, [], ◌∷◌, ◌++◌, length, count_by, Option}
use Rattle.std.specs.List.{list_all}
use Rattle.audit_model.specs.Faults.{Rose}
use Rattle.audit_model.specs.Pair.{Pair}
use Rattle.audit_model.specs.State.{KeeperState}
use Rattle.audit_model.specs.Observed.{IfObserved}
use Rattle.audit_model.specs.declared.outcome.Outcome.{Outcome}
use Rattle.audit_model.specs.Job.{Job}
use Rattle.audit_model.specs.Run.{has_id}
use Rattle.outcome_book.specs.Union.{AreAgreed, IsFirstDifference, IsUnion}
use Rattle.ckpt_store.specs.Collected.{Collected, IsFirstOther, passed_over}
use Rattle.ckpt_store.specs.declared.finding.Finding.{Finding}
use Rattle.ckpt_store.specs.declared.finding.Finding.TheVariants as finding
use Rattle.ckpt_store.specs.Gives.{Gives, outcomes, nothing, other_job, damaged, gives, has_broken}

-- outcomes that agree with the collection were added: their number, and the number with new ids
pub record IsAdded (before : Collected) (found : List Outcome) (count new : ℕ) (after : Collected) : Type 0 where
  pub agreed : AreAgreed before.outcomes found
  pub union : IsUnion before.outcomes found after.outcomes
  pub list : after.lists ≡ before.lists ++ found ∷ []
  pub count_is : count ≡ length found
  pub new_is : new ≡ count_by (λ o. not (has_id before.outcomes o.id)) found

-- the least id whose outcome differs, and the first earlier folder that has another outcome for it: nothing was added
pub record IsLeftOut (before : Collected) (found : List Outcome) (id other : ℕ) (after : Collected) : Type 0 where
  pub first : IsFirstDifference before.outcomes found id
  pub named : IsFirstOther before.lists first.other other
  pub same : after ≡ passed_over before

-- the finding for the outcomes of a folder, with the state of its other slot, and the collection before and after
abbrev pub Finds : Collected → Gives → Bool → Finding → Collected → Type 0
Finds before (outcomes found) bad (finding.Added count new beside) after = IsAdded before found count new after × (beside ≡ bad)
Finds before (outcomes found) bad (finding.Differs id other) after = IsLeftOut before found id other after
Finds before nothing bad finding.Nothing after = after ≡ passed_over before
Finds before other_job bad finding.OtherJob after = after ≡ passed_over before
Finds before damaged bad finding.Damaged after = after ≡ passed_over before
Finds before given bad what after = ⊥

-- two slots were seen, the known ones if the keeper is observable, and this is the finding in them
pub record HasLoadedSlots (job : Job) (digest : List ℕ) (observed : Option Pair) (before : Collected) (what : Finding) (after : Collected) : Type 0 where
  pub pair : Pair
  pub same : IfObserved observed (λ p. pair ≡ p)
  pub finds : Finds before (gives job digest pair) (has_broken job digest pair) what after

-- A folder is unread only if a load of its keeper failed, whose count rose. It is taken exactly if the keeper reports a
-- lock. Otherwise its slots were seen.
abbrev pub IsFound : Job → List ℕ → KeeperState → KeeperState → Collected → Finding → Collected → Type 0
IsFound job digest folder folder_now before finding.Unread after =
    (after ≡ passed_over before) × Rose folder.load_faults.all folder_now.load_faults.all × (folder_now.load_faults.taken ≡ folder.load_faults.taken)
IsFound job digest folder folder_now before finding.Taken after =
    (after ≡ passed_over before) × Rose folder.load_faults.all folder_now.load_faults.all × Rose folder.load_faults.taken folder_now.load_faults.taken
IsFound job digest folder folder_now before what after = HasLoadedSlots job digest folder.slots before what after

-- the findings in several folders, one after the other, by the states of their keepers before and after
abbrev pub AreFound : Job → List ℕ → List KeeperState → List KeeperState → Collected → List Finding → Collected → Type 0
AreFound job digest [] [] before [] after = after ≡ before
AreFound job digest (folder ∷ folders) (folder_now ∷ folders_now) before (what ∷ findings) after =
    (between : Collected) × IsFound job digest folder folder_now before what between × AreFound job digest folders folders_now between findings after
AreFound job digest folders folders_now before findings after = ⊥

abbrev pub is_added : Finding → Bool
is_added (finding.Added count new beside) = true
is_added what = false

-- the working folder may have no checkpoint
abbrev pub is_start : Finding → Bool
is_start finding.Nothing = true
is_start what = is_added what

-- the findings of the working folder and of the other folders allow the union to be saved
abbrev pub may_save : Finding → List Finding → Bool
may_save own findings = is_start own && list_all is_added findings
