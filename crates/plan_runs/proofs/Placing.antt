-- The place of a run's saves.
use Rattle.std.proofs.Common.{◌≡◌, ℕ, zero, suc, ◌≤◌, Bool, true, false, Option, Some, None, refl, sym, arith}
use Rattle.audit_model.specs.Observed.{IfObserved}
use Rattle.audit_model.specs.Pair.{Pair}
use Rattle.audit_model.specs.Job.{Job}
use Rattle.audit_start.specs.declared.resume_state.SaveTarget.{SaveTarget}
use Rattle.audit_statement.specs.Endings.{first_place, place_of, saves}
use Rattle.audit_statement.specs.Due.{IsFirstPlace}
use Rattle.audit_start.specs.ResumeState.{IsTargetFor}
use Rattle.audit_laws.specs.Runs.{IsRunJob}
use Rattle.audit_laws.proofs.Starting.{saves_not}

-- a run that saves has a save interval of at least 1
pub saves_every : (job : Job) → saves job.setting ≡ true → 1 ≤ job.setting.save_every
saves_every job is = by job.setting.save_every refl
  where
    by : (n : ℕ) → job.setting.save_every ≡ n → 1 ≤ n
    by zero none = absurd (both (saves job.setting) (saves_not job none) is)
      where
        both : (b : Bool) → b ≡ false → b ≡ true → ⊥
        both true e f = cc
        both false e f = cc
    by (suc n) e = omega arith

-- the place of the first save, if the slots are known
pub place_observed_for : (job : Job) (slots : Option Pair) (t : SaveTarget) → IsTargetFor job slots t → IfObserved slots (λ p. place_of job p ≡ (t.place.slot, t.place.generation))
place_observed_for job None t placed = tt
place_observed_for job (Some p) t placed = sym placed.observed

-- the first save of the run goes to the target's place
pub first_place_for : (job : Job) (slots : Option Pair) (t : SaveTarget) → IsTargetFor job slots t → IsFirstPlace job slots t.place
first_place_for job slots t placed = record { slot = placed.slot_below; generation = placed.generation_below; observed = by slots placed.observed }
  where
    by : (slots : Option Pair) → IfObserved slots (λ p. (t.place.slot, t.place.generation) ≡ place_of job p) → IfObserved slots (λ p. t.place ≡ first_place job p)
    by None observed = tt
    by (Some p) observed = λ i. record { slot = (observed i).0; generation = (observed i).1 }

-- the place matches the known slots
pub placed_known : (job : Job) (slots : Option Pair) (t : SaveTarget) → IsTargetFor job slots t → IfObserved slots (λ p. (t.place.slot, t.place.generation) ≡ place_of job p)
placed_known job slots t placed = placed.observed

-- in a run that saves, no test stops early
pub saved_plain : (job : Job) → IsRunJob job → saves job.setting ≡ true → job.setting.stop ≡ 0
saved_plain job run is = by job.setting.stop refl
  where
    by : (n : ℕ) → job.setting.stop ≡ n → job.setting.stop ≡ 0
    by zero none = none
    by (suc n) e = absurd (omega (arith, saves_every job is, (run.alone (omega (arith, e))).no_saves))
