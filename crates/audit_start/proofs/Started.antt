-- The start of a run.
use Rattle.std.proofs.Common.{◌≡◌, ℕ, zero, suc, ◌<◌, ◌&&◌, not, Bool, true, false, cond, List, [], ◌∷◌, map, get_or, Option, Some, None, Result, Ok, Err, refl, sym, subst, ap, ◌∙◌, arith}
use Rattle.std.specs.Prelude.{IsTrue, filter, nat_lt, option_map}
use Rattle.std.specs.List.{All}
use Rattle.std.proofs.lemmas.List.{length-map}
use Rattle.std.proofs.lemmas.List.Elements.{All-cons, All-filter, All-head, All-map, All-tail}
use Rattle.std.proofs.lemmas.List.Sums.{count_by-le-length, length-filter}
use Rattle.audit_model.specs.State.{KeeperState}
use Rattle.audit_model.specs.Observed.{IfObserved}
use Rattle.audit_model.specs.Pair.{Pair}
use Rattle.audit_model.specs.declared.outcome.Outcome.{Outcome}
use Rattle.audit_model.specs.declared.setting.Setting.{Setting}
use Rattle.audit_model.specs.Job.{Job}
use Rattle.audit_model.specs.Run.{fits, has_no_histogram, taken_up}
use Rattle.audit_model.specs.Trajectory.{without_histogram}
use Rattle.audit_model.proofs.Histogram.{fits_without_histogram}
use Rattle.audit_statement.specs.Checkpoint.{AreRising, job_digest}
use Rattle.audit_statement.specs.Slots.{Slot, newest, initial_outcomes, other, slot_at, slot_of}
use Rattle.ckpt_store.specs.declared.slots.Slot.{Slot as Looked}
use Rattle.ckpt_store.specs.declared.slots.Slot.TheVariants as looked
use Rattle.ckpt_store.specs.declared.slots.Slots.{Slots}
use Rattle.ckpt_store.specs.declared.slots.StoreFault.{StoreFault}
use Rattle.ckpt_store.specs.declared.slots.StoreFault.TheVariants.{Damaged, OtherJob}
use Rattle.ckpt_store.specs.Fitting.{AreFit}
use Rattle.ckpt_store.specs.Looked.{AreSlots, SawSlots}
use Rattle.ckpt_format.specs.declared.decode.Checkpoint.{Checkpoint}
use Rattle.ckpt_store.specs.View.{answer_at, newest_outcomes_seen, newest_answer, newest_seen, opened, slot_view}
use Rattle.report.specs.declared.ended.Ended.{Ended}
use Rattle.report.specs.declared.ended.Ended.TheVariants as ended
use Rattle.audit_start.specs.declared.resume_state.ResumeState.{ResumeState}
use Rattle.audit_start.specs.declared.resume_state.SaveTarget.{SaveTarget}
use Rattle.audit_statement.specs.Endings.{AreInitialOutcomes, Saw, initial_outcomes_from, saves}
use Rattle.audit_start.specs.ResumeState.{IsOtherSeen, IsTarget, Opens, OpensWith, RefusesSlots, refused_by}
use Rattle.audit_laws.specs.Runs.{IsRunJob}
use Rattle.audit_laws.proofs.Starting.{saves_not}
use Rattle.audit_laws.proofs.Running.{fit_list, rising_above, rising_once, rising_rest}

-- ---- the slots that were looked at, in terms of the known slots

-- the initial outcomes of a run that resumes, if it may start
abbrev pub initial_outcomes_seen : Setting → Slots → Option (List Outcome)
initial_outcomes_seen setting slots = initial_outcomes true setting (slot_view slots.zero) (slot_view slots.one)

module _ (job : Job) (digest : List ℕ) (p : Pair) (slots : Slots) (is : digest ≡ job_digest job) (seen : AreSlots job digest p slots) where
  pub zero_observed : slot_view slots.zero ≡ slot_of job (job_digest job) p.zero_slot
  zero_observed = seen.zero ∙ ap (λ d. slot_of job d p.zero_slot) is

  pub one_observed : slot_view slots.one ≡ slot_of job (job_digest job) p.one_slot
  one_observed = seen.one ∙ ap (λ d. slot_of job d p.one_slot) is

  both_observed : {A : Type 0} (f : Slot → Slot → A) → f (slot_view slots.zero) (slot_view slots.one) ≡ f (slot_of job (job_digest job) p.zero_slot) (slot_of job (job_digest job) p.one_slot)
  both_observed f = ap (λ s. f s (slot_view slots.one)) zero_observed ∙ ap (λ s. f (slot_of job (job_digest job) p.zero_slot) s) one_observed

  pub initial_outcomes_observed : initial_outcomes_seen job.setting slots ≡ initial_outcomes true job.setting (slot_of job (job_digest job) p.zero_slot) (slot_of job (job_digest job) p.one_slot)
  initial_outcomes_observed = both_observed (initial_outcomes true job.setting)

  pub newest_observed : newest_seen slots ≡ newest (slot_of job (job_digest job) p.zero_slot) (slot_of job (job_digest job) p.one_slot)
  newest_observed = both_observed newest

  pub slot_observed : (n : ℕ) → slot_at (slot_view slots.zero) (slot_view slots.one) n ≡ slot_at (slot_of job (job_digest job) p.zero_slot) (slot_of job (job_digest job) p.one_slot) n
  slot_observed n = both_observed (λ a b. slot_at a b n)

-- a property of the pair that was seen, which is the known one or one that was there
pub saw_pair : (job : Job) (digest : List ℕ) (observed : Option Pair) (slots : Slots) (P : Pair → Type 0) (saw : SawSlots job digest observed slots) → P saw.pair → Saw observed P
saw_pair job digest observed slots P saw holds = record { pair = saw.pair; same = saw.same; holds = holds }

-- the slots that were seen are the known ones
pub saw_observed : (job : Job) (digest : List ℕ) (observed : Option Pair) (slots : Slots) → SawSlots job digest observed slots → IfObserved observed (λ p. AreSlots job digest p slots)
saw_observed job digest None slots saw = tt
saw_observed job digest (Some p) slots saw = subst (λ q. AreSlots job digest q slots) saw.same saw.are

-- ---- the place of the first save

-- a run that saves nothing has no place to save
pub no_target : (job : Job) (slots : Option Pair) → job.setting.save_every ≡ 0 → IsTarget (saves job.setting) job slots None
no_target job slots none = subst (λ b. IsTarget b job slots None) (sym (saves_not job none)) tt

-- ---- the initial outcomes

-- a run that resumes starts with the outcomes of the newest slot that was seen
pub resumed_initial_outcomes : (job : Job) (digest : List ℕ) (observed : Option Pair) (slots : Slots) (outcomes : List Outcome) → digest ≡ job_digest job → job.setting.resume ≡ true
    → SawSlots job digest observed slots → initial_outcomes_seen job.setting slots ≡ Some outcomes → AreFit job outcomes → AreInitialOutcomes job observed outcomes
resumed_initial_outcomes job digest observed slots outcomes is resumes saw found fit = record {
  seen = saw_pair job digest observed slots (λ p. initial_outcomes_from job.setting.resume job p ≡ Some outcomes) saw
      (subst (λ (b : Bool). initial_outcomes_from b job saw.pair ≡ Some outcomes) (sym resumes) (sym (initial_outcomes_observed job digest saw.pair slots is saw.are) ∙ found));
  apart = rising_once (map (λ o. o.id) outcomes) fit.rising;
  fitting = fit_list job outcomes fit.fit;
}

-- the outcomes that it resumes from, given those of the newest slot
pub taken_some : (job : Job) (slots : Slots) (saved_outcomes : List Outcome) → newest_outcomes_seen slots ≡ Some saved_outcomes
    → initial_outcomes_seen job.setting slots ≡ Some (taken_up job.setting.shift job.setting.walks saved_outcomes)
taken_some job slots saved_outcomes e = ap (λ (o : Option (List Outcome)). option_map (taken_up job.setting.shift job.setting.walks) o) e

-- if nothing can be taken from the slots, there are no initial outcomes
pub taken_none : (job : Job) (slots : Slots) → newest_outcomes_seen slots ≡ None → initial_outcomes_seen job.setting slots ≡ None
taken_none job slots e = ap (λ (o : Option (List Outcome)). option_map (taken_up job.setting.shift job.setting.walks) o) e

-- an outcome without its histogram has the same id
same_ids : (outcomes : List Outcome) → map (λ o. o.id) (map without_histogram outcomes) ≡ map (λ o. o.id) outcomes
same_ids [] = refl
same_ids (x ∷ xs) = ap (λ (ids : List ℕ). x.id ∷ ids) (same_ids xs)

-- outcomes without their histograms are still plausible
fit_without_histogram : (job : Job) (outcomes : List Outcome) → AreFit job outcomes → AreFit job (map without_histogram outcomes)
fit_without_histogram job outcomes fit = record {
  few = omega (arith, fit.few, length-map outcomes without_histogram);
  rising = subst AreRising (sym (same_ids outcomes)) fit.rising;
  fit = All-map (λ (o : Outcome). IsTrue (fits job o)) without_histogram outcomes (λ k d inside. fits_without_histogram job (get_or outcomes k d) (fit.fit k d inside));
}

-- an id below all others may stand before them
rising_cons : (x : ℕ) (ids : List ℕ) → All (λ y. x < y) ids → AreRising ids → AreRising (x ∷ ids)
rising_cons x [] above rising = tt
rising_cons x (y ∷ ids) above rising = (above 0 y (omega arith), rising)

-- a lower bound of a list's ids is one of each kept part
above_kept : (x : ℕ) (test : Outcome → Bool) (os : List Outcome) → All (λ y. x < y) (map (λ o. o.id) os) → All (λ y. x < y) (map (λ o. o.id) (filter test os))
above_kept x test [] above = above
above_kept x test (o ∷ os) above = by (test o) (above_kept x test os (All-tail (λ (y : ℕ). x < y) o.id (map (λ o. o.id) os) above))
  where
    by : (b : Bool) → All (λ y. x < y) (map (λ o. o.id) (filter test os)) → All (λ y. x < y) (map (λ o. o.id) (cond b (o ∷ filter test os) (filter test os)))
    by true rest = All-cons (λ (y : ℕ). x < y) o.id (map (λ o. o.id) (filter test os)) (All-head (λ (y : ℕ). x < y) o.id (map (λ o. o.id) os) above) rest
    by false rest = rest

-- a kept part of rising ids rises
rising_kept : (test : Outcome → Bool) (os : List Outcome) → AreRising (map (λ o. o.id) os) → AreRising (map (λ o. o.id) (filter test os))
rising_kept test [] rising = tt
rising_kept test (o ∷ os) rising =
    by (test o) (rising_kept test os (rising_rest o.id (map (λ o. o.id) os) rising))
    (above_kept o.id test os (rising_above o.id (map (λ o. o.id) os) rising))
  where
    by : (b : Bool) → AreRising (map (λ o. o.id) (filter test os)) → All (λ y. o.id < y) (map (λ o. o.id) (filter test os))
        → AreRising (map (λ o. o.id) (cond b (o ∷ filter test os) (filter test os)))
    by true rest above = rising_cons o.id (map (λ o. o.id) (filter test os)) above rest
    by false rest above = rest

-- a kept part of plausible outcomes is plausible
kept_fit : (job : Job) (test : Outcome → Bool) (outcomes : List Outcome) → AreFit job outcomes → AreFit job (filter test outcomes)
kept_fit job test outcomes fit = record {
  few = omega (arith, fit.few, length-filter test outcomes, count_by-le-length test outcomes);
  rising = rising_kept test outcomes fit.rising;
  fit = All-filter test (λ o. IsTrue (fits job o)) outcomes fit.fit;
}

-- the outcomes that a run resumes from are plausible
pub taken_fit : (job : Job) (outcomes : List Outcome) → AreFit job outcomes → AreFit job (taken_up job.setting.shift job.setting.walks outcomes)
taken_fit job outcomes fit = by job.setting.shift
  where
    by : (shift : Bool) → AreFit job (taken_up shift job.setting.walks outcomes)
    by true = kept_fit job (λ o. not (nat_lt o.id job.setting.walks && has_no_histogram o)) outcomes fit
    by false = fit_without_histogram job outcomes fit

-- the run starts with the part of the newest slot's outcomes that it resumes from
pub opens_taken : (job : Job) → IsRunJob job → (digest : List ℕ) (k : KeeperState) (slots : Slots) (saved_outcomes outcomes : List Outcome) (target : Option SaveTarget)
    → digest ≡ job_digest job → job.setting.resume ≡ true → SawSlots job digest k.slots slots → newest_outcomes_seen slots ≡ Some saved_outcomes → AreFit job saved_outcomes
    → outcomes ≡ taken_up job.setting.shift job.setting.walks saved_outcomes → (o : ResumeState) → o.outcomes.items ≡ outcomes → o.target ≡ target
    → IsTarget (saves job.setting) job k.slots target → OpensWith job k k o
opens_taken job run digest k slots saved_outcomes outcomes target is resumes observed seen fit taken o items at placed = record {
  same = refl;
  opened = record {
    run = run;
    opened = subst (λ (os : List Outcome). AreInitialOutcomes job k.slots os) (sym here)
        (resumed_initial_outcomes job digest k.slots slots (taken_up job.setting.shift job.setting.walks saved_outcomes) is resumes observed (taken_some job slots saved_outcomes seen) (taken_fit job saved_outcomes fit));
    fit = subst (λ (os : List Outcome). AreFit job os) (sym here) (taken_fit job saved_outcomes fit);
    target = subst (λ (t : Option SaveTarget). IsTarget (saves job.setting) job k.slots t) (sym at) placed;
  };
}
  where
    here : o.outcomes.items ≡ taken_up job.setting.shift job.setting.walks saved_outcomes
    here = items ∙ taken

-- ---- the reason why it does not start

-- a single slot is never reported as damaged
opened_damaged : (wanted : List ℕ) (s : Looked) (seen : Slots) → opened s wanted ≡ Err (Damaged seen) → ⊥
opened_damaged wanted looked.Absent seen e = cc
opened_damaged wanted (looked.Broken fault) seen e = cc
opened_damaged wanted (looked.Other found generation) seen e = cc
opened_damaged wanted (looked.Ours checkpoint) seen e = cc

-- slots reported as damaged are those that were seen, and none is the newest
damaged_seen : (slots : Slots) (wanted : List ℕ) (seen : Slots) → newest_answer slots wanted ≡ Err (Damaged seen) → RefusesSlots slots wanted (ended.Damaged seen)
damaged_seen slots wanted seen e = by (newest_seen slots) refl e
  where
    without : (b : Bool) → cond {A = Result (Option Checkpoint) StoreFault} b (Ok None) (Err (Damaged slots)) ≡ Err (Damaged seen) → seen ≡ slots
    without true h = cc
    without false h = cc

    by : (n : Option ℕ) → newest_seen slots ≡ n → answer_at slots wanted n ≡ Err (Damaged seen) → (seen ≡ slots) × (newest_seen slots ≡ None)
    by None is h = (without _ h, is)
    by (Some zero) is h = absurd (opened_damaged wanted slots.zero seen h)
    by (Some (suc n)) is h = absurd (opened_damaged wanted slots.one seen h)

-- the slot belongs to another job
record IsOtherSlot (s : Looked) (found : List ℕ) : Type 0 where
  pub generation : ℕ
  pub is : slot_view s ≡ other found generation

-- a slot of another job has its digest
opened_other : (wanted : List ℕ) (s : Looked) (found digest : List ℕ) → opened s wanted ≡ Err (OtherJob found digest) → (digest ≡ wanted) × IsOtherSlot s found
opened_other wanted looked.Absent found digest e = cc
opened_other wanted (looked.Broken fault) found digest e = cc
opened_other wanted (looked.Other had generation) found digest e =
    let same : wanted ≡ digest = cc in
    let have : had ≡ found = cc in
    (sym same, record { generation = generation; is = ap (λ d. other d generation) have })
opened_other wanted (looked.Ours checkpoint) found digest e = cc

-- a newest slot of another job was seen as such
other_seen : (slots : Slots) (wanted found digest : List ℕ) → newest_answer slots wanted ≡ Err (OtherJob found digest) → RefusesSlots slots wanted (ended.OtherJob found digest)
other_seen slots wanted found digest e = by (newest_seen slots) refl e
  where
    without : (b : Bool) → cond {A = Result (Option Checkpoint) StoreFault} b (Ok None) (Err (Damaged slots)) ≡ Err (OtherJob found digest) → ⊥
    without true h = cc
    without false h = cc

    by : (n : Option ℕ) → newest_seen slots ≡ n → answer_at slots wanted n ≡ Err (OtherJob found digest) → (digest ≡ wanted) × IsOtherSeen slots found
    by None is h = absurd (without _ h)
    by (Some zero) is h =
        let o = opened_other wanted slots.zero found digest h in
        (o.0, record { generation = o.1.generation; number = 0; newest_is = is; other_is = o.1.is })
    by (Some (suc n)) is h =
        let o = opened_other wanted slots.one found digest h in
        (o.0, record { generation = o.1.generation; number = suc n; newest_is = is; other_is = o.1.is })

-- the reason why a run does not resume, by the slots that were looked at
pub refused_seen : (slots : Slots) (wanted : List ℕ) (f : StoreFault) → newest_answer slots wanted ≡ Err f → RefusesSlots slots wanted (refused_by f)
refused_seen slots wanted (Damaged seen) e = damaged_seen slots wanted seen e
refused_seen slots wanted (OtherJob found digest) e = other_seen slots wanted found digest e

-- ---- the keeper is unchanged

-- after a look that changed nothing, the run starts or ends as from the keeper before
pub opens_later : (job : Job) (k l : KeeperState) (result : Result ResumeState Ended) → l ≡ k → Opens job k k result → Opens job k l result
opens_later job k l result same o = subst (λ (x : KeeperState). Opens job k x result) (sym same) o
