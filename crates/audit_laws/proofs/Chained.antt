-- From consistent slots to the report of one thread, and to consistent slots again.
use Rattle.std.proofs.Common.{◌≡◌, ◌⊎◌, inl, inr, ℕ, zero, suc, ◌+◌, ◌-◌, ◌*◌, ◌/◌, ◌%◌, ◌^◌, ◌<◌, ◌≤◌, ◌||◌, ◌&&◌, not, Bool, true, false, cond, List, [], ◌∷◌, length, map, min, get_or, Option, Some, None, refl, sym, ap, ◌∙◌, subst, All, div-add-mod', arith}
use Rattle.std.specs.Prelude.{◌==◌, find, IsTrue, ⊤}
use Rattle.std.proofs.lemmas.Bool.{cases_order, eqb-true, ne_eqb, true≢false}
use Rattle.std.proofs.lemmas.List.{append-nil, get_or-map, length-map}
use Rattle.std.proofs.lemmas.List.Elements.{All-contains, All-map, All-nil}
use Rattle.audit_model.specs.Faults.{Rose}
use Rattle.audit_model.specs.Pair.{Pair, stored}
use Rattle.audit_model.specs.Attempts.{Try}
use Rattle.audit_model.specs.declared.outcome.Outcome.{Outcome}
use Rattle.audit_model.specs.Below.{filter_below}
use Rattle.audit_model.specs.Graph.{has}
use Rattle.audit_model.specs.Job.{Job}
use Rattle.audit_model.specs.Run.{total, has_id, run_ids, kept_or, outcome_from, full, IsRight}
use Rattle.audit_model.specs.Trajectory.{outcome}
use Rattle.audit_model.proofs.Filtered.{each_passes, each_rises}
use Rattle.audit_model.proofs.ListFacts.{find_passes}
use Rattle.audit_statement.specs.Checkpoint.{job_digest}
use Rattle.audit_statement.specs.Slots.{IsConsistentSlot, initial_outcomes, slot_of}
use Rattle.audit_model.specs.declared.place.Place.{Place}
use Rattle.audit_statement.specs.Histories.{IsRightSave}
use Rattle.ckpt_store.specs.Laws.{ConsistentSlotsOpenRight, RightIsConsistent}
use Rattle.audit_statement.specs.Draw.{draw}
use Rattle.audit_statement.specs.InOrder.{saves_of}
use Rattle.audit_statement.specs.Words.{setting_of}
use Rattle.audit_statement.specs.Note.{Ending, write_fault, stopped, save_fault}
use Rattle.audit_statement.specs.Causes.{IsTheJob}
use Rattle.audit_statement.specs.Chain.{AreConsistentOf, AreSavesWhere, StaysConsistent, AttemptedRightly, AttemptsOver, has_walked}
use Rattle.audit_statement.specs.Status.{status_of}
use Rattle.audit_laws.proofs.LaterSaves.{as_many_as_due, later_hold_more}
use Rattle.audit_model.specs.State.{Stream}
use Rattle.audit_model.specs.Observed.{IfBothObserved, IfObserved}
use Rattle.audit_statement.specs.Endings.{Cause, EndsFor, AreInitialOutcomes, IsInitialOrFound, IsPartly, IsPrepared, IsTryOf, LeavesUntouched, NoSaveFailed, SameUnless, SavesAll, SavesInTurn, SavesInTurnAt, SavesWhere, AttemptsOf, AttemptsObserved, count_of_saves, full_of, last_place, marks_of, StartsFrom, ObservesInitialOutcomes, is_walking, passes, saves}
use Rattle.audit_statement.specs.Headline.{WritesWhole}
use Rattle.audit_statement.specs.World.{World}
use Rattle.audit_laws.proofs.Starting.{none_right, initial_outcomes_known, initial_outcomes_observed}
use Rattle.audit_laws.proofs.Running.{kept_id, rising_apart}
use Rattle.audit_laws.proofs.Statuses.{job_is}

-- ---- all outcomes of a run are correct if the initial ones are

-- a property of all outcomes holds for the one found
find_all : (P : Outcome → Type 0) (test : Outcome → Bool) (os : List Outcome) (o : Outcome) → All P os → find test os ≡ Some o → P o
find_all P test [] o all e = cc
find_all P test (x ∷ xs) o all e = by (test x) refl (find_all P test xs o (λ k d inside. all (suc k) d (omega arith)))
  where
    by : (b : Bool) → test x ≡ b → (find test xs ≡ Some o → P o) → P o
    by true passes rec =
        let here : Some x ≡ Some o = ap (λ b. cond b (Some x) (find test xs)) (sym passes) ∙ e in
        let same : x ≡ o = cc in
        subst P same (all 0 x (omega arith))
    by false fails rec = rec (ap (λ b. cond b (Some x) (find test xs)) (sym fails) ∙ e)

module _ (job : Job) (kept : List Outcome) (right : IsRight job (draw job.setting.key) kept) where
  from_is : (id : ℕ) → outcome_from job (draw job.setting.key) kept id ≡ outcome job (draw job.setting.key) id
  from_is id = by (find (λ o. o.id == id) kept) refl
    where
      by : (o : Option Outcome) → find (λ o. o.id == id) kept ≡ o → kept_or job (draw job.setting.key) id o ≡ outcome job (draw job.setting.key) id
      by None e = refl
      by (Some o) e =
          find_all (λ (x : Outcome). x ≡ outcome job (draw job.setting.key) x.id) (λ o. o.id == id) kept o right.found e
          ∙ ap (outcome job (draw job.setting.key)) (eqb-true o.id id (find_passes (λ o. o.id == id) kept o e))

  mapped_right : (test : ℕ → Bool) → IsRight job (draw job.setting.key) (map (outcome_from job (draw job.setting.key) kept) (filter_below (total job) test))
  mapped_right test = record {
    apart = λ i j d before inside same.
        let ids = filter_below (total job) test in
        let within : j < length ids = omega (arith, inside, length-map ids (outcome_from job (draw job.setting.key) kept)) in
        let less : get_or ids i 0 < get_or ids j 0 = each_rises (total job) test i j 0 before within in
        absurd (omega (arith, less, at i d (omega arith), at j d within, same));
    below = All-map (λ (o : Outcome). o.id < total job) (outcome_from job (draw job.setting.key) kept) (filter_below (total job) test)
        (λ k d inside. subst (λ n. n < total job) (sym (kept_id job kept (get_or (filter_below (total job) test) k d))) (each_passes (total job) test k d inside).0);
    found = All-map (λ (o : Outcome). o ≡ outcome job (draw job.setting.key) o.id) (outcome_from job (draw job.setting.key) kept) (filter_below (total job) test)
        (λ k d inside.
        let id = get_or (filter_below (total job) test) k d in
        from_is id ∙ ap (outcome job (draw job.setting.key)) (sym (kept_id job kept id)));
  }
    where
      at : (k : ℕ) (d : Outcome) → k < length (filter_below (total job) test)
          → (get_or (map (outcome_from job (draw job.setting.key) kept) (filter_below (total job) test)) k d).id ≡ get_or (filter_below (total job) test) k 0
      at k d l =
          ap (λ (o : Outcome). o.id) (get_or-map (outcome_from job (draw job.setting.key) kept) (filter_below (total job) test) k 0 d l)
          ∙ kept_id job kept (get_or (filter_below (total job) test) k 0)

  full_right : IsRight job (draw job.setting.key) (full_of job kept)
  unfolding full
  full_right = mapped_right (λ id. has_id kept id || has (run_ids job kept job.setting.budget) id)

-- ---- the initial outcomes of a run

module _ (law : ConsistentSlotsOpenRight) (job : Job) where
  observed_right : (p : Pair) (outcomes : List Outcome) → AreConsistentOf job p → initial_outcomes true job.setting (slot_of job (job_digest job) p.zero_slot) (slot_of job (job_digest job) p.one_slot) ≡ Some outcomes
      → IsRight job (draw job.setting.key) outcomes
  observed_right p outcomes consistent e =
      law job (draw job.setting.key) (slot_of job (job_digest job) p.zero_slot) (slot_of job (job_digest job) p.one_slot) outcomes consistent.zero_slot consistent.one_slot e

  start_right : (slots : Option Pair) (outcomes : List Outcome) → ObservesInitialOutcomes job slots (Some outcomes) → (IsTrue job.setting.resume → IfObserved slots (AreConsistentOf job))
      → IsRight job (draw job.setting.key) outcomes
  start_right slots outcomes opened consistent = by job.setting.resume slots opened consistent
    where
      by : (b : Bool) (s : Option Pair) → StartsFrom b job s (Some outcomes) → (IsTrue b → IfObserved s (AreConsistentOf job)) → IsRight job (draw job.setting.key) outcomes
      by false s e h = let none : [] ≡ outcomes = cc in subst (λ os. IsRight job (draw job.setting.key) os) none (none_right job (draw job.setting.key))
      by true None e h = absurd e
      by true (Some p) e h = observed_right p outcomes (h refl) e

  initial_outcomes_right : (p : Pair) (outcomes : List Outcome) → AreInitialOutcomes job (Some p) outcomes → AreConsistentOf job p → IsRight job (draw job.setting.key) outcomes
  initial_outcomes_right p outcomes opened consistent = start_right (Some p) outcomes (initial_outcomes_observed job (Some p) p outcomes refl opened) (λ _. consistent)

-- ---- the slots that a run leaves

-- a count rose or did not
pub rises_or_not : (before now : ℕ) → Rose before now ⊎ (Rose before now → ⊥)
rises_or_not before now = by (cases_order (min (before + 1) (2 ^ 64 - 1)) now)
  where
    by : (min (before + 1) (2 ^ 64 - 1) ≡ now) ⊎ ((min (before + 1) (2 ^ 64 - 1) < now) ⊎ (now < min (before + 1) (2 ^ 64 - 1))) → Rose before now ⊎ (Rose before now → ⊥)
    by (inl e) = inl (omega arith)
    by (inr (inl l)) = inl (omega arith)
    by (inr (inr l)) = inr (λ r. absurd (omega arith))

-- a relation between values that may be known holds if both are known
both_known : {A : Type 0} (a b : Option A) (p q : A) (P : A → A → Type 0) → a ≡ Some p → b ≡ Some q → IfBothObserved a b P → P p q
both_known a b p q P e f h = subst (λ x. IfBothObserved x (Some q) P) e (subst (λ y. IfBothObserved a y P) f h)

-- there is at least one save
either_way : (n : ℕ) → ((n == 0) || not (n == 0)) ≡ true
either_way zero = refl
either_way (suc n) = ap (λ (b : Bool). b || not b) (ne_eqb (suc n) 0 (λ e. absurd (omega (arith, e))))

-- whatever the number of posts, at least one save is attempted
some_save : (posts every : ℕ) → 1 ≤ saves_of posts every
some_save posts every = by (posts / every) refl
  where
    by : (k : ℕ) → posts / every ≡ k → 1 ≤ saves_of posts every
    by zero none =
        let groups = div-add-mod' posts every in
        let no_groups : 0 * every ≡ 0 = omega arith in
        let none_whole : posts / every * every ≡ 0 = ap (λ (k : ℕ). k * every) none ∙ no_groups in
        let rest : posts % every ≡ posts = omega (arith, groups, none_whole) in
        let one : cond {A = ℕ} ((posts == 0) || not (posts % every == 0)) 1 0 ≡ 1 =
        ap (λ (k : ℕ). cond {A = ℕ} ((posts == 0) || not (k == 0)) 1 0) rest ∙ ap (λ (b : Bool). cond {A = ℕ} b 1 0) (either_way posts) in
        omega (arith, one)
    by (suc k) some_groups = omega (arith, some_groups)

module _ (resumes_right : RightIsConsistent) (job : Job) (p q : Pair) (consistent : AreConsistentOf job p) where
  abbrev IsConsistentHere : Option (List ℕ) → Type 0
  IsConsistentHere s = IsConsistentSlot job (draw job.setting.key) (slot_of job (job_digest job) s)

  -- two slots named one by one are both consistent
  both_consistent : (n : ℕ) → IsConsistentHere (stored q n) → IsConsistentHere (stored q (1 - n)) → AreConsistentOf job q
  both_consistent zero here beside = record { zero_slot = here; one_slot = beside }
  both_consistent (suc n) here beside = let other : 1 - suc n ≡ 0 = omega arith in record { zero_slot = subst (λ (k : ℕ). IsConsistentHere (stored q k)) other beside; one_slot = here }

  was_consistent : (n : ℕ) → IsConsistentHere (stored p n)
  was_consistent zero = consistent.zero_slot
  was_consistent (suc n) = consistent.one_slot

  -- a property of the initial outcomes and of those found holds for a part
  part_all : (initial_outcomes : List Outcome) (P : Outcome → Type 0) → All P initial_outcomes
      → ((o : Outcome) → o.id < total job → o ≡ outcome job (draw job.setting.key) o.id → P o) → (o : Outcome) → IsInitialOrFound job initial_outcomes o → P o
  part_all initial_outcomes P all found o (inl has) = All-contains P initial_outcomes o all has
  part_all initial_outcomes P all found o (inr is) = found o is.1 is.3

  part_right : (initial_outcomes : List Outcome) (count generation : ℕ) (s : Option (List ℕ)) → IsRight job (draw job.setting.key) initial_outcomes → IsPartly job initial_outcomes count generation s → IsConsistentHere s
  part_right initial_outcomes count generation s right part = subst (IsConsistentSlot job (draw job.setting.key)) (sym part.slot_is) (resumes_right job (draw job.setting.key) part.saved (record {
    apart = rising_apart part.saved part.sound.rising;
    below = λ k d inside. part_all initial_outcomes (λ (o : Outcome). o.id < total job) right.below (λ o less is. less) _ (part.holds.each k d inside);
    found = λ k d inside. part_all initial_outcomes (λ (o : Outcome). o ≡ outcome job (draw job.setting.key) o.id) right.found (λ o less is. is) _ (part.holds.each k d inside);
  }))

  beside_consistent : (initial_outcomes : List Outcome) (at : Place) (count : ℕ) → 1 ≤ count → IsRight job (draw job.setting.key) initial_outcomes → SavesInTurnAt job initial_outcomes p q at count
      → IsConsistentHere (stored q (1 - at.slot))
  beside_consistent initial_outcomes at zero least right s = absurd (omega arith)
  beside_consistent initial_outcomes at (suc zero) least right s = subst IsConsistentHere (sym (s.only refl)) (was_consistent (1 - at.slot))
  beside_consistent initial_outcomes at (suc (suc n)) least right s = part_right initial_outcomes _ _ (stored q (1 - at.slot)) right (s.before_last (omega arith))

  pub turns_stay : (initial_outcomes : List Outcome) → IsRight job (draw job.setting.key) initial_outcomes → SavesInTurn job initial_outcomes p q → AreConsistentOf job q
  turns_stay initial_outcomes right s =
      both_consistent (last_place job initial_outcomes p).slot (subst (IsConsistentSlot job (draw job.setting.key)) (sym s.last_is) (resumes_right job (draw job.setting.key) (full_of job initial_outcomes) (full_right job initial_outcomes right)))
      (beside_consistent initial_outcomes (last_place job initial_outcomes p) (count_of_saves job initial_outcomes) (some_save (length (run_ids job initial_outcomes job.setting.budget)) job.setting.save_every) right s)

module _ (law : ConsistentSlotsOpenRight) (resumes_right : RightIsConsistent) (words : List (List ℕ)) (before after : World) (p q : Pair) (was : before.keeper.slots ≡ Some p) (is : after.keeper.slots ≡ Some q) where
  -- the claim to show for a job
  abbrev Stays : Job → Type 0
  Stays job = AreConsistentOf job p → NoSaveFailed before after → AreConsistentOf job q

  unchanged : (job : Job) → after.keeper.slots ≡ before.keeper.slots → Stays job
  unchanged job same consistent no_save_failed =
      let e : Some p ≡ Some q = sym was ∙ sym same ∙ is in
      let eq : p ≡ q = cc in
      subst (AreConsistentOf job) eq consistent

  observed_initial_outcomes_right : (job : Job) (outcomes : List Outcome) → AreInitialOutcomes job before.keeper.slots outcomes → AreConsistentOf job p → IsRight job (draw job.setting.key) outcomes
  observed_initial_outcomes_right job outcomes opened consistent = initial_outcomes_right law job p outcomes (subst (λ (s : Option Pair). AreInitialOutcomes job s outcomes) was opened) consistent

  all_stays : (made : Type 0) (job : Job) → (NoSaveFailed before after → made) → SavesAll made job before after → Stays job
  all_stays made job m s consistent no_save_failed =
      turns_stay resumes_right job p q consistent s.outcomes (observed_initial_outcomes_right job s.outcomes s.opened consistent) (both_known _ _ p q (SavesInTurn job s.outcomes) was is (s.in_turn (m no_save_failed)))

  where_stays : (b : Bool) (made : Type 0) (job : Job) → (NoSaveFailed before after → made) → SavesWhere b made job before after → Stays job
  where_stays false made job m s = unchanged job s
  where_stays true made job m s = all_stays made job m s

  pub stays_at : (job : Job) → IsTheJob words before job → (r : Option Ending) → Cause words before after r → LeavesUntouched words before after (marks_of r) → Stays job
  stays_at job t None c u = subst Stays (job_is words before after job c.job t c.prepared) (where_stays (saves c.job.setting) ⊤ c.job (λ _. tt) c.saved)
  stays_at job t (Some write_fault) c u =
      subst Stays (job_is words before after job c.job t c.prepared) (where_stays (saves c.job.setting) (NoSaveFailed before after) c.job (λ no_save_failed. no_save_failed) c.saved)
  stays_at job t (Some (stopped done all)) c u = subst Stays (job_is words before after job c.job t c.prepared) (all_stays ⊤ c.job (λ _. tt) c.saved)
  stays_at job t (Some save_fault) c u = λ consistent no_save_failed. absurd (no_save_failed c.rose)
  stays_at job t r c u = unchanged job u.slots

-- a call with a correct ending leaves consistent slots if it starts from consistent ones
pub stays_consistent : ConsistentSlotsOpenRight → RightIsConsistent → (words : List (List ℕ)) (before after : World) (n m : Stream) (status : ℕ) → EndsFor words before after n m status
    → WritesWhole words before after status → StaysConsistent words before after status
stays_consistent law resumes_right words before after n m status e w = record {
  opens_right = λ job outcomes s consistent. start_right law job before.keeper.slots outcomes s.opened consistent;
  one_thread = λ job outcomes s consistent z. w.one_thread job outcomes s (start_right law job before.keeper.slots outcomes s.opened consistent) z;
  stays = λ job p q t was is consistent no_save_failed. stays_at law resumes_right words before after p q was is job t e.reason e.cause e.untouched consistent no_save_failed;
}

-- ---- the save attempts

module _ (law : ConsistentSlotsOpenRight) (words : List (List ℕ)) (before after : World) (p : Pair) (status : ℕ) (was : before.keeper.slots ≡ Some p) where
  abbrev Attempted : Job → Type 0
  Attempted job = IfBothObserved before.keeper.attempted after.keeper.attempted (AttemptsOver job before after p status)

  -- no save was attempted
  attempted_none : (job : Job) → (saves job.setting && has_walked status) ≡ false → after.keeper.attempted ≡ before.keeper.attempted → after.keeper.save_faults ≡ before.keeper.save_faults → Attempted job
  attempted_none job idle same no_save_failed = subst (λ (x : Option (List Try)). IfBothObserved before.keeper.attempted x (AttemptsOver job before after p status)) (sym same) (by before.keeper.attempted)
    where
      by : (a : Option (List Try)) → IfBothObserved a a (AttemptsOver job before after p status)
      by None = tt
      by (Some observed) = record {
        attempts = [];
        appended = sym (append-nil observed);
        exactly = λ outcomes opened. subst (λ (b : Bool). AreSavesWhere b job outcomes p []) (sym idle) refl;
        in_turn = tt;
        each = λ outcomes opened. All-nil (IsTryOf job outcomes);
        growing = λ i j d less inside. absurd (omega arith);
        counted = λ outcomes opened walks all. absurd (true≢false (sym walks ∙ idle));
        covered = omega (arith, no_save_failed);
        right = λ consistent. All-nil (λ (t : Try). IsRightSave job (draw job.setting.key) (job_digest job) t.bytes);
      }

  some_every : (job : Job) → saves job.setting ≡ true → 1 ≤ job.setting.save_every
  some_every job saving = by job.setting.save_every (is_walking job.setting.command) saving
    where
      by : (n : ℕ) (b : Bool) → (b && not (n == 0)) ≡ true → 1 ≤ n
      by zero true h = absurd (true≢false (sym h))
      by zero false h = absurd (true≢false (sym h))
      by (suc n) b h = omega arith

  over_of : (job : Job) (outcomes : List Outcome) → saves job.setting ≡ true → has_walked status ≡ true → AreInitialOutcomes job before.keeper.slots outcomes → (observed now : List Try) → AttemptsOf job outcomes p before.keeper.save_faults after.keeper.save_faults observed now → AttemptsOver job before after p status observed now
  over_of job outcomes saving walks opened observed now t = record {
    attempts = t.attempts;
    appended = t.appended;
    exactly = λ others others_observed.
        let same : Some others ≡ Some outcomes = initial_outcomes_known job before.keeper.slots (Some others) outcomes others_observed opened in
        let is : outcomes ≡ others = cc in
        subst (λ (x : Bool × List Outcome). AreSavesWhere x.0 job x.1 p t.attempts) (λ i. ((sym saving i) && (sym walks i), is i)) t.exact;
    in_turn = t.in_turn;
    each = λ others others_observed.
        let same : Some others ≡ Some outcomes = initial_outcomes_known job before.keeper.slots (Some others) outcomes others_observed opened in
        let is : outcomes ≡ others = cc in
        subst (λ (os : List Outcome). All (IsTryOf job os) t.attempts) is t.each;
    growing = later_hold_more job outcomes p t.attempts (some_every job saving) t.exact;
    counted = λ others others_observed walking all.
        let same : Some others ≡ Some outcomes = initial_outcomes_known job before.keeper.slots (Some others) outcomes others_observed opened in
        let is : outcomes ≡ others = cc in
        subst (λ (os : List Outcome). length t.attempts ≡ count_of_saves job os) is (as_many_as_due job outcomes p t.attempts (some_every job saving) t.exact all);
    covered = t.covered;
    right = λ consistent. t.right (start_right law job before.keeper.slots outcomes (initial_outcomes_observed job before.keeper.slots p outcomes was opened) consistent);
  }

  observed_map : (a b : Option (List Try)) (P Q : List Try → List Try → Type 0) → ((x y : List Try) → P x y → Q x y) → IfBothObserved a b P → IfBothObserved a b Q
  observed_map None b P Q f h = tt
  observed_map (Some x) None P Q f h = h
  observed_map (Some x) (Some y) P Q f h = f x y h

  attempted_all_of : (job : Job) (outcomes : List Outcome) → saves job.setting ≡ true → has_walked status ≡ true → AreInitialOutcomes job before.keeper.slots outcomes → AttemptsObserved job outcomes before.keeper after.keeper → Attempted job
  attempted_all_of job outcomes saving walks opened t =
      observed_map before.keeper.attempted after.keeper.attempted (AttemptsOf job outcomes p before.keeper.save_faults after.keeper.save_faults) (AttemptsOver job before after p status) (over_of job outcomes saving walks opened)
      (subst (λ (s : Option Pair). IfObserved s (λ x. IfBothObserved before.keeper.attempted after.keeper.attempted (AttemptsOf job outcomes x before.keeper.save_faults after.keeper.save_faults))) was t)

  attempted_where : (b : Bool) (made : Type 0) (job : Job) → saves job.setting ≡ b → has_walked status ≡ true → (b ≡ false → (after.keeper.attempted ≡ before.keeper.attempted) × (after.keeper.save_faults ≡ before.keeper.save_faults))
      → SavesWhere b made job before after → Attempted job
  attempted_where false made job is walks none s = attempted_none job (ap (λ (b : Bool). b && has_walked status) is) (none refl).0 (none refl).1
  attempted_where true made job is walks none s = attempted_all_of job s.outcomes is walks s.opened s.attempted

  no_attempt_where : {A : Type 0} (job : Job) (x y : A) → IsPrepared words before.source after.source job → SameUnless (passes saves (setting_of words)) x y → saves job.setting ≡ false → y ≡ x
  no_attempt_where job x y prepared same off = by (passes saves (setting_of words)) (ap (passes saves) prepared.accepted.words_are ∙ off) same
    where
      by : (b : Bool) → b ≡ false → SameUnless b x y → y ≡ x
      by true e s = cc
      by false e s = s

  no_attempt_both : (job : Job) → IsPrepared words before.source after.source job → SameUnless (passes saves (setting_of words)) before.keeper.attempted after.keeper.attempted
      → SameUnless (passes saves (setting_of words)) before.keeper.save_faults after.keeper.save_faults → saves job.setting ≡ false
      → (after.keeper.attempted ≡ before.keeper.attempted) × (after.keeper.save_faults ≡ before.keeper.save_faults)
  no_attempt_both job prepared same no_save_failed off = (no_attempt_where job before.keeper.attempted after.keeper.attempted prepared same off, no_attempt_where job before.keeper.save_faults after.keeper.save_faults prepared no_save_failed off)

  idle_at : (b : Bool) → has_walked status ≡ false → (b && has_walked status) ≡ false
  idle_at true is = is
  idle_at false is = refl

  pub attempted_at : (job : Job) → IsTheJob words before job → (r : Option Ending) → status ≡ status_of r → Cause words before after r → LeavesUntouched words before after (marks_of r) → Attempted job
  attempted_at job t None e c u =
      subst Attempted (job_is words before after job c.job t c.prepared) (attempted_where (saves c.job.setting) ⊤ c.job refl (ap has_walked e) (λ off. (no_attempt_where c.job before.keeper.attempted after.keeper.attempted c.prepared u.attempted off, u.save_faults)) c.saved)
  attempted_at job t (Some write_fault) e c u =
      subst Attempted (job_is words before after job c.job t c.prepared) (attempted_where (saves c.job.setting) (NoSaveFailed before after) c.job refl (ap has_walked e) (no_attempt_both c.job c.prepared u.attempted u.save_faults) c.saved)
  attempted_at job t (Some (stopped done all)) e c u = subst Attempted (job_is words before after job c.job t c.prepared) (attempted_all_of c.job c.saved.outcomes c.saving (ap has_walked e) c.saved.opened c.saved.attempted)
  attempted_at job t (Some save_fault) e c u = subst Attempted (job_is words before after job c.job t c.prepared) (attempted_all_of c.job c.outcomes c.saving (ap has_walked e) c.opened c.attempted)
  attempted_at job t r e c u = attempted_none job (idle_at (saves job.setting) (ap has_walked e)) u.attempted u.save_faults

-- each save attempt of such a call has correct outcomes
pub attempted_rightly : ConsistentSlotsOpenRight → (words : List (List ℕ)) (before after : World) (n m : Stream) (status : ℕ) → EndsFor words before after n m status → AttemptedRightly words before after status
attempted_rightly law words before after n m status e job p t was = attempted_at law words before after p status was job t e.reason e.status_is e.cause e.untouched
