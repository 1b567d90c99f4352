-- A run that was stopped, or that never ended, leaves consistent slots.
use Rattle.std.proofs.Common.{◌≡◌, ◌⊎◌, inl, inr, ◌∙◌, ℕ, suc, ◌*◌, Bool, true, false, List, [], ◌∷◌, ◌++◌, length, map, take, Option, Some, None, refl, sym, ap, subst, All, arith}
use Rattle.std.proofs.lemmas.Bool.{cases_lt}
use Rattle.std.proofs.lemmas.List.{take_all}
use Rattle.std.proofs.lemmas.List.Elements.{All-append, All-map}
use Rattle.std.proofs.lemmas.List.Sorted.{All-permutation}
use Rattle.std.proofs.lemmas.Option.{same_Some}
use Rattle.std.proofs.lemmas.Slice.Eq.{bytes_eq-Decides}
use Rattle.audit_model.specs.Pair.{Pair, Stored, stored}
use Rattle.audit_model.specs.Attempts.{Try}
use Rattle.audit_model.specs.declared.outcome.Outcome.{Outcome}
use Rattle.audit_model.specs.declared.place.Place.{Place}
use Rattle.audit_model.specs.First.{first_below}
use Rattle.audit_model.specs.Job.{Job}
use Rattle.audit_model.specs.Run.{IsConsistent, IsRight, total}
use Rattle.audit_model.specs.Trajectory.{Draws, outcome}
use Rattle.audit_model.proofs.Fitting.{outcome_id}
use Rattle.audit_statement.specs.Checkpoint.{IsCheckpoint, job_digest}
use Rattle.audit_statement.specs.Chain.{AreConsistentOf}
use Rattle.audit_statement.specs.Draw.{draw}
use Rattle.audit_statement.specs.Endings.{initial_outcomes_from}
use Rattle.audit_statement.specs.Histories.{AreCarriedOut, IsEnded}
use Rattle.audit_statement.specs.InOrder.{AreSavesFrom, IsSaveOfIds, place_after, taken_in}
use Rattle.audit_statement.specs.Rerun.{AreAttemptsSoFar}
use Rattle.audit_statement.specs.Slots.{IsConsistentSlot, IsNotOurs, slot_of}
use Rattle.ckpt_format.specs.declared.decode.Checkpoint.{Checkpoint}
use Rattle.ckpt_format.proofs.Made.{none-from_checkpoint}
use Rattle.ckpt_format.proofs.Stated.{checkpoints_are_read, checkpoints_have_length}
use Rattle.ckpt_store.specs.Fitting.{is_unfit, slot_judged_digest, slot_judged_ours}
use Rattle.ckpt_store.specs.Laws.{ConsistentSlotsOpenRight, RightIsConsistent, StopsLeaveConsistentSlots}
use Rattle.ckpt_store.proofs.Judged.{slot_of_read}
use Rattle.ckpt_store.proofs.Prefixes.{cut_is_broken}
use Rattle.outcome_book.proofs.ById.{by_id-below, by_id-rising}
use Rattle.audit_laws.proofs.Starting.{none_right}

-- ---- a save of consistent outcomes

module _ (job : Job) (draws : Draws) (digest : List ℕ) (generation : ℕ) (outcomes : List Outcome) (consistent : IsConsistent job draws outcomes) where
  abbrev IsConsistentHere : Stored → Type 0
  IsConsistentHere s = IsConsistentSlot job draws (slot_of job digest s)

  abbrev kept : Checkpoint
  kept = record { version = 2; digest = digest; generation = generation; outcomes = record { items = outcomes; spare = 0 } }

  judged_consistent : (unfit : Option ℕ) → IsConsistentSlot job draws (slot_judged_ours kept unfit)
  judged_consistent None = consistent
  judged_consistent (Some place) = tt

  whole_is_consistent : (bytes : List ℕ) → IsCheckpoint bytes 2 digest generation outcomes → IsConsistentHere (Some bytes)
  whole_is_consistent bytes is =
      let size = (checkpoints_have_length bytes 2 digest generation outcomes is).1 in
      let read = slot_of_read job digest bytes kept size (none-from_checkpoint bytes 2 digest generation outcomes is) (checkpoints_are_read bytes 2 digest generation outcomes is) in
      subst (IsConsistentSlot job draws) (sym (ap (slot_judged_digest job kept) ((bytes_eq-Decides digest digest).1 refl)) ∙ read)
      (judged_consistent (first_below (length outcomes) (is_unfit job outcomes)))

  -- the contents that a save of these outcomes may leave in its slot
  abbrev Leaves : Stored → Stored → Type 0
  Leaves before after = (after ≡ before) ⊎ IsNotOurs (slot_of job digest after) ⊎ IsConsistentHere after

  first_leave : (bytes : List ℕ) (before after : Stored) (n : ℕ) → IsCheckpoint bytes 2 digest generation outcomes → after ≡ Some (take n bytes) → Leaves before after
  first_leave bytes before after n sound is = elim (cases_lt n (length bytes)) [
    | inl short ↦
        let cut = cut_is_broken job bytes 2 digest generation outcomes n sound short in
        inr (inl (subst IsNotOurs (sym (ap (slot_of job digest) is ∙ cut.1)) tt))
    | inr long ↦ inr (inr (subst IsConsistentHere (sym (is ∙ ap (λ (xs : List ℕ). Some xs) (take_all n bytes long))) (whole_is_consistent bytes sound)))
  ]

  pub ended_leave : (succeeded : Bool) (bytes : List ℕ) (before after : Stored) → IsCheckpoint bytes 2 digest generation outcomes
      → IsEnded IsNotOurs job digest succeeded before bytes after → Leaves before after
  ended_leave true bytes before after sound is = inr (inr (subst IsConsistentHere (sym is) (whole_is_consistent bytes sound)))
  ended_leave false bytes before after sound (inl same) = inl same
  ended_leave false bytes before after sound (inr (inl first)) = first_leave bytes before after first.0 sound first.1
  ended_leave false bytes before after sound (inr (inr none)) = inr (inl none)

-- ---- a run with correct initial outcomes

module _ (job : Job) (initial_outcomes : List Outcome) (right : IsRight job (draw job.setting.key) initial_outcomes) where
  abbrev draws : Draws
  draws = draw job.setting.key

  abbrev Found : Outcome → Type 0
  Found o = o ≡ outcome job draws o.id

  -- the outcomes of a save, initial or found by trajectories, are correct
  saved_right : (place : Place) (ids : List ℕ) (t : Try) → IsSaveOfIds job initial_outcomes place ids t → IsRight job draws (taken_in job initial_outcomes ids)
  saved_right place ids t s =
      let os = initial_outcomes ++ map (outcome job draws) ids in
      let found : All Found os = All-append Found initial_outcomes (map (outcome job draws) ids) right.found
      (All-map Found (outcome job draws) ids (λ k d inside. ap (outcome job draws) (sym (outcome_id job draws _)))) in
      record {
        apart = λ i j d before inside same. let less = by_id-rising (total job) os i j d before inside in absurd (omega (arith, less, same));
        below = by_id-below (total job) os;
        found = All-permutation Found os (taken_in job initial_outcomes ids) s.all found;
      }

  -- the saves so far leave consistent slots, wherever each failed or was cut off
  saves_stay : RightIsConsistent → StopsLeaveConsistentSlots → (every : ℕ) (walked : List ℕ) (n : ℕ) (place : Place) (attempts : List Try) (p q : Pair)
      → AreSavesFrom job initial_outcomes every walked n place attempts → AreCarriedOut IsNotOurs job (job_digest job) p attempts q → AreConsistentOf job p → AreConsistentOf job q
  saves_stay consistent_law law every walked n place [] p q saves out consistent = subst (AreConsistentOf job) (sym out) consistent
  saves_stay consistent_law law every walked n place (t ∷ rest) p q saves out consistent =
      let taken = taken_in job initial_outcomes (take (n * every) walked) in
      let kept_outcomes = consistent_law job draws taken (saved_right place (take (n * every) walked) t saves.0) in
      let left = ended_leave job draws (job_digest job) place.generation taken kept_outcomes t.succeeded t.bytes (stored p t.slot) (stored out.0 t.slot) saves.0.sound out.1.ended in
      saves_stay consistent_law law every walked (suc n) (place_after place t) rest out.0 q saves.1 out.2
      (law job draws (job_digest job) p out.0 t.slot out.1.beside left consistent)

-- the initial outcomes from consistent slots are correct
initial_outcomes_right : ConsistentSlotsOpenRight → (resumes : Bool) (job : Job) (p : Pair) (outcomes : List Outcome) → initial_outcomes_from resumes job p ≡ Some outcomes → AreConsistentOf job p
    → IsRight job (draw job.setting.key) outcomes
initial_outcomes_right law false job p outcomes e consistent = subst (IsRight job (draw job.setting.key)) (same_Some [] outcomes e) (none_right job (draw job.setting.key))
initial_outcomes_right law true job p outcomes e consistent =
    law job (draw job.setting.key) (slot_of job (job_digest job) p.zero_slot) (slot_of job (job_digest job) p.one_slot) outcomes consistent.zero_slot consistent.one_slot e

-- the attempts up to a stop leave consistent slots
pub stop_stays : ConsistentSlotsOpenRight → RightIsConsistent → StopsLeaveConsistentSlots → (job : Job) (p q : Pair) (attempts : List Try) → AreAttemptsSoFar job p attempts
    → AreCarriedOut IsNotOurs job (job_digest job) p attempts q → AreConsistentOf job p → AreConsistentOf job q
stop_stays opens consistent_law law job p q attempts (inl none) out consistent =
    subst (AreConsistentOf job) (sym (subst (λ (ts : List Try). AreCarriedOut IsNotOurs job (job_digest job) p ts q) none out)) consistent
stop_stays opens consistent_law law job p q attempts (inr run) out consistent =
    saves_stay job run.0 (initial_outcomes_right opens job.setting.resume job p run.0 run.1 consistent) consistent_law law job.setting.save_every run.2.walked 1 _ attempts p q run.2.first.each out consistent
