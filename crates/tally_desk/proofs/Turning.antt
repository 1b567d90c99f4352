-- One turn keeps the contents of a desk's slot.
use Rattle.std.proofs.Common.{◌≡◌, ℕ, suc, ◌+◌, ◌-◌, ◌*◌, ◌%◌, ◌^◌, ◌<◌, ◌≤◌, ◌==◌, ◌&&◌, min, not, Bool, true, false, cond, List, [], ◌∷◌, ◌++◌, length, length-append, map, Option, Some, None, refl, sym, ap, ◌∙◌, subst, arith, vec_capacity}
use Rattle.std.specs.List.{All, list_all, range_with_len}
use Rattle.std.proofs.lemmas.List.{length-map, length_push, map-append}
use Rattle.std.proofs.lemmas.List.Elements.{All-push}
use Rattle.std.proofs.lemmas.List.Sums.{count_by-le-length}
use Rattle.std.proofs.lemmas.Bool.{true≢false}
use Rattle.audit_model.specs.Faults.{Counts}
use Rattle.audit_model.specs.State.{KeeperState}
use Rattle.audit_model.specs.Observed.{IfBothObserved, IfObserved}
use Rattle.audit_model.specs.Pair.{Pair, HoldsBytes, KeepsOther}
use Rattle.audit_model.specs.Attempts.{attempted_all, attempted_too}
use Rattle.audit_model.specs.declared.outcome.Outcome.{Outcome}
use Rattle.audit_model.specs.Job.{Job}
use Rattle.audit_model.specs.JobOf.{IsJob}
use Rattle.audit_model.specs.Room.{RoomyBytes, RoomyOutcomes}
use Rattle.audit_model.specs.Run.{total, fits, has_id, by_id}
use Rattle.audit_model.specs.Trajectory.{Draws, outcome}
use Rattle.audit_model.specs.Times.{times}
use Rattle.audit_model.proofs.Times.{length-le, one_more_id}
use Rattle.audit_statement.specs.Checkpoint.{IsCheckpoint, checkpoint, job_digest}
use Rattle.audit_model.specs.declared.place.Place.{Place}
use Rattle.audit_statement.specs.Due.{Lets}
use Rattle.audit_statement.specs.InOrder.{AreSavesSoFar}
use Rattle.ckpt_store.specs.Laws.{CheckpointsAreOurs, IsNewestForFitJobs, SavedSlotsAreNewest}
use Rattle.audit_statement.specs.Draw.{draw}
use Rattle.outcome_book.specs.Booked.{Booked, HasFewVisits}
use Rattle.tally_desk.specs.declared.entry.Entry.{Entry}
use Rattle.tally_desk.specs.declared.state.RunState.{RunState}
use Rattle.tally_desk.specs.Entries.{post_of, posted_id, ids_of, is_due, is_missed, saves_made, missed, ticket_of, tickets_of}
use Rattle.tally_desk.specs.Homes.{HasTurned, IsSound, KeptAs, MayTurn, SlotsAs, booked, made, made_with, attempts, try_made}
use Rattle.audit_statement.specs.InOrder.{moved, next_place}
use Rattle.tally_desk.specs.Parts.{Parts, IsPlan, IsPlaceFor}
use Rattle.tally_desk.specs.Saving.{LetsSave, SavedWhereDue, AttemptedSave, sorted_of}
use Rattle.tally_desk.proofs.Bounds.{range_push}
use Rattle.tally_desk.proofs.Booking.{absent_of_book, booked-push, booked_fit, by_id_fit}
use Rattle.claim_counter.proofs.Sharing.{found_is}
use Rattle.tally_desk.proofs.Marking.{missed-push, saves-push}
use Rattle.tally_desk.proofs.Slotting.{moved_slot, moved_generation, other_is, saved_slots, observed_map, unsaved_slots}
use Rattle.tally_desk.proofs.Ordering.{saves_so_far}
use Rattle.tally_desk.proofs.Trying.{due_made, due_sound, due_attempts, undue_sound, undue_attempts}
use Rattle.tally_desk.proofs.Todo.{todo_small, todo_within}

-- ---- counts of faults

-- a count that covers the failed saves covers one more after it rose
covered_more : (last start failed now after : ℕ) → min (start + failed) last ≤ now → min (now + 1) last ≤ after → min (start + (failed + 1)) last ≤ after
covered_more last start failed now after covered rose = omega arith

-- a count that does not fall in two steps does not fall
pub counts_more : (start now after : ℕ) → Counts start now → Counts now after → Counts start after
counts_more start now after c d = let first = c.later in let second = d.later in record { later = omega arith; within = λ small. d.within (c.within small) }

-- ---- posts that are due

-- no save is missed if none is due
due_unmissed : (every : ℕ) (e : Entry) → is_due every e ≡ false → is_missed every e ≡ false
due_unmissed every e not_due = ap (λ (b : Bool). b && not e.saved) not_due

-- no save is missed if it succeeded
saved_unmissed : (every t i : ℕ) → is_missed every (post_of t i true) ≡ false
saved_unmissed every t i = by (is_due every (post_of t i true))
  where
    by : (b : Bool) → (b && false) ≡ false
    by true = refl
    by false = refl

-- a save that was due and failed counts as missed
missed_one : (b : Bool) → b ≡ true → cond {A = ℕ} (b && not false) 1 0 ≡ 1
missed_one true is = refl
missed_one false is = cc

-- a false condition counts zero
count_none : (b : Bool) → b ≡ false → cond {A = ℕ} b 1 0 ≡ 0
count_none true is = cc
count_none false is = refl

-- ---- known or unknown slots

-- the slots after a post without a save
observed_as_before : (parts : Parts) (l : List Entry) (t i : ℕ) (place : Place) → is_missed parts.save_every (post_of t i false) ≡ false → (a b : Option Pair)
    → IfBothObserved a b (λ before now. SlotsAs parts before now place l) → IfBothObserved a b (λ before now. SlotsAs parts before now place (l ++ post_of t i false ∷ []))
observed_as_before parts l t i place unmissed a b h = observed_map a b _ _ (λ before now s. unsaved_slots parts l t i before now now place refl (λ _. refl) s) h

-- the slots after a failed save
observed_failed : (parts : Parts) (l : List Entry) (t i : ℕ) (place : Place) → place.slot < 2 → is_missed parts.save_every (post_of t i false) ≡ true → (a b c : Option Pair)
    → IfBothObserved a b (λ before now. SlotsAs parts before now place l) → KeepsOther b c place.slot
    → IfBothObserved a c (λ before now. SlotsAs parts before now place (l ++ post_of t i false ∷ []))
observed_failed parts l t i place slot is_one None b c h other = tt
observed_failed parts l t i place slot is_one (Some p) None c h other = absurd h
observed_failed parts l t i place slot is_one (Some p) (Some q) None h other = other
observed_failed parts l t i place slot is_one (Some p) (Some q) (Some r) h other =
    unsaved_slots parts l t i p q r place (sym (other_is r place.slot slot) ∙ other ∙ other_is q place.slot slot) (λ none. absurd (true≢false (sym is_one ∙ none))) h

module _ (newest : SavedSlotsAreNewest) (ours : CheckpointsAreOurs) where
  -- the slots after a successful save
  observed_saved : (parts : Parts) (plan : IsPlan parts) (l : List Entry) (t i : ℕ) (place : Place) → place ≡ moved (saves_made l) parts.place
      → ((id : ℕ) → times id (ids_of l) ≤ times id parts.todo)
      → (let all = by_id (total parts.job) (booked parts (l ++ post_of t i true ∷ [])) in
      list_all (fits parts.job) all ≡ true
      → IsCheckpoint (checkpoint 2 (job_digest parts.job) place.generation all) 2 (job_digest parts.job) place.generation all
      → (a b c : Option Pair) → IsPlaceFor parts.job a parts.place → IfBothObserved a b (λ before now. SlotsAs parts before now place l)
      → KeepsOther b c place.slot → HoldsBytes c place.slot (checkpoint 2 (job_digest parts.job) place.generation all)
      → IfObserved c (IsNewestForFitJobs (job_digest parts.job) place.slot place.generation all)
      → IfBothObserved a c (λ before now. SlotsAs parts before now (next_place place) (l ++ post_of t i true ∷ [])))
  observed_saved parts plan l t i place at of_todo fit sound None b c first h other slot_bytes fresh = tt
  observed_saved parts plan l t i place at of_todo fit sound (Some p) None c first h other slot_bytes fresh = absurd h
  observed_saved parts plan l t i place at of_todo fit sound (Some p) (Some q) None first h other slot_bytes fresh = other
  observed_saved parts plan l t i place at of_todo fit sound (Some p) (Some q) (Some r) first h other slot_bytes fresh =
      let slot : place.slot < 2 = subst (λ (x : Place). x.slot < 2) (sym at) (moved_slot (saves_made l) parts.place plan.slot) in
      let generation : place.generation < 3 = subst (λ (x : Place). x.generation < 3) (sym at) (moved_generation (saves_made l) parts.place plan.generation) in
      saved_slots newest ours parts plan l t i p q r place slot generation at first of_todo fit sound slot_bytes
      (sym (other_is r place.slot slot) ∙ other ∙ other_is q place.slot slot) fresh h

-- ---- the turn

module _ {C : Type 0} (state : C → KeeperState) (lets : Lets) (parts : Parts) (y : RunState C) (l : List Entry) (o : Outcome)
    (may : MayTurn state lets parts y l o) where
  abbrev next : Bool → List Entry
  next saved = l ++ post_of (length l) o.id saved ∷ []

  next_ids : (saved : Bool) → ids_of (next saved) ≡ ids_of l ++ o.id ∷ []
  next_ids saved = map-append (λ (e : Entry). e.id) l (post_of (length l) o.id saved ∷ [])

  pub next_of_todo : (saved : Bool) (id : ℕ) → times id (ids_of (next saved)) ≤ times id parts.todo
  next_of_todo saved id =
      subst (λ (ids : List ℕ). times id ids ≤ times id parts.todo) (sym (next_ids saved)) (one_more_id (ids_of l) parts.todo o.id may.of_todo may.unposted may.to_do id)

  -- there are fewer posts than ids to do
  pub some_left : length l < length parts.todo
  some_left =
      let most = length-le (ids_of l ++ o.id ∷ []) parts.todo (one_more_id (ids_of l) parts.todo o.id may.of_todo may.unposted may.to_do) in
      omega (arith, most, length-append (ids_of l) (o.id ∷ []), length-map l posted_id)

  -- at most one save failed for each post, which fits 32 bits
  pub few_failed : y.failed_saves + 1 < 2 ^ 32
  few_failed =
      let left = some_left in let small = todo_small parts may.plan in
      omega (arith, may.holds.kept.failed_is, count_by-le-length (is_missed parts.save_every) l, left, small)

  pub slot_below : y.place.slot < 2
  slot_below = subst (λ (x : Place). x.slot < 2) (sym may.holds.kept.place_is) (moved_slot (saves_made l) parts.place may.plan.slot)

  pub generation_below : y.place.generation < 3
  generation_below = subst (λ (x : Place). x.generation < 3) (sym may.holds.kept.place_is) (moved_generation (saves_made l) parts.place may.plan.generation)

  pub total_is : y.book.total ≡ total parts.job
  total_is = ap (λ (b : Booked). b.total) may.holds.kept.book_is

  pub id_below : o.id < y.book.total
  id_below = omega (arith, total_is, todo_within parts may.plan o.id may.to_do)

  pub id_absent : has_id y.book.outcomes o.id ≡ false
  id_absent = ap (λ (b : Booked). has_id b.outcomes o.id) may.holds.kept.book_is ∙ absent_of_book parts may.plan l o.id may.to_do may.unposted

  -- the outcome's histogram is small enough for the book
  pub few_visits : ((job : Job) (draws : Draws) (id : ℕ) → IsJob job → HasFewVisits (outcome job draws id)) → HasFewVisits o
  few_visits law =
      subst HasFewVisits (sym (may.right ∙ found_is parts.job o.id)) (law parts.job (draw parts.job.setting.key) o.id may.plan.sound)

  -- the rest of the proof after the save
  pub record Done (n : RunState C) (saved : Bool) : Type 0 where
    pub kept : KeptAs state parts n.book n.keeper n.place n.failed_saves (next saved)
    pub due : saved ≡ true → is_due parts.save_every (post_of (length l) o.id saved) ≡ true
    pub posted : n.posted ≡ y.posted
    pub every : n.save_every ≡ parts.save_every
    pub digest : n.digest ≡ job_digest parts.job
    pub sorted_room : total parts.job ≤ length n.sorted.items + n.sorted.spare
    pub save_room : 84 + 80 * total parts.job ≤ length n.room.items + n.room.spare

  module _ (b : Booked) (total_kept : b.total ≡ y.book.total) (outcomes_more : b.outcomes ≡ y.book.outcomes ++ o ∷ []) where
    abbrev m : RunState C
    m = record y { book = b }

    book_is : (saved : Bool) → b ≡ record { total = total parts.job; outcomes = booked parts (next saved) }
    book_is saved =
        let totals : b.total ≡ total parts.job = total_kept ∙ total_is in
        let outcomes : b.outcomes ≡ booked parts (next saved) =
        outcomes_more ∙ ap (λ (q : Booked). q.outcomes ++ o ∷ []) may.holds.kept.book_is
        ∙ ap (λ (x : Outcome). booked parts l ++ x ∷ []) may.right ∙ sym (booked-push parts l (post_of (length l) o.id saved)) in
        λ k. record { total = totals k; outcomes = outcomes k }

    -- the tickets are still the places
    tickets_next : (saved : Bool) → tickets_of (next saved) ≡ range_with_len 0 (length (next saved))
    tickets_next saved =
        map-append ticket_of l (post_of (length l) o.id saved ∷ []) ∙ ap (λ (q : List ℕ). q ++ length l ∷ []) may.in_order
        ∙ ap (λ (k : ℕ). range_with_len 0 (length l) ++ k ∷ []) (let same : length l ≡ 0 + length l = omega arith in same) ∙ sym (range_push 0 (length l))
        ∙ ap (range_with_len 0) (let one_more : suc (length l) ≡ length l + 1 = omega arith in one_more ∙ sym (length_push l (post_of (length l) o.id saved)))

    -- a keeper that accepts the run's saves accepts the due save, which is the next of the run
    pub lets_next : is_due parts.save_every (post_of (length l) o.id true) ≡ true → LetsSave state lets m
    lets_next due sound =
        let e = post_of (length l) o.id true in
        let k = may.holds.kept in
        let digests : y.digest ≡ job_digest parts.job = may.holds.equipped.digest in
        let sorted : sorted_of m ≡ by_id (total parts.job) (booked parts (next true)) = ap (λ (q : Booked). by_id q.total q.outcomes) (book_is true) in
        let one_sound : IsSound parts.job (made_with parts l e) =
        subst (λ (x : List ℕ × Place × List Outcome). IsCheckpoint (checkpoint 2 x.0 x.1.generation x.2) 2 x.0 x.1.generation x.2) (λ i. (digests i, k.place_is i, sorted i)) sound in
        let so_far = saves_so_far parts may.plan (next true) (next_of_todo true) (tickets_next true) (due_sound parts l e due one_sound k.sound)
        (All-push (λ (x : Entry). x.saved ≡ true → is_due parts.save_every x ≡ true) l e may.due (λ _. due)) in
        let one_more : attempts parts (next true) ≡ attempts parts l ++ try_made parts.job (made_with parts l e) ∷ [] =
        ap (map (try_made parts.job)) (due_made parts l e due) ∙ map-append (try_made parts.job) (made parts l) (made_with parts l e ∷ []) in
        subst (λ (x : Place × List ℕ × List Outcome). lets (state y.keeper) x.0.slot (checkpoint 2 x.1 x.0.generation x.2))
        (λ i. (sym k.place_is i, sym digests i, sym sorted i))
        (may.holds.run_saves (state y.keeper) (attempts parts l) (try_made parts.job (made_with parts l e)) k.attempted_is
        (subst (AreSavesSoFar parts.job parts.initial_outcomes parts.save_every parts.place parts.todo) one_more so_far))

    -- no save was due, and none was made
    undone : is_due parts.save_every (post_of (length l) o.id false) ≡ false → Done m false
    undone not_due =
        let k = may.holds.kept in
        let unmissed = due_unmissed parts.save_every (post_of (length l) o.id false) not_due in
        record {
          kept = record {
            book_is = book_is false;
            failed_is = k.failed_is ∙ (let more = missed-push parts.save_every l (post_of (length l) o.id false) in let none = count_none (is_missed parts.save_every (post_of (length l) o.id false)) unmissed in
                let same : missed parts.save_every l ≡ missed parts.save_every (next false) = omega (arith, more, none) in same);
            covered = k.covered;
            counts = k.counts;
            shown = k.shown;
            loads = k.loads;
            place_is = k.place_is ∙ ap (λ (n : ℕ). moved n parts.place) (let more = saves-push l (post_of (length l) o.id false) in let same : saves_made l ≡ saves_made (next false) = omega (arith, more) in same);
            attempted_is = k.attempted_is ∙ undue_attempts parts parts.keeper.attempted l (post_of (length l) o.id false) not_due;
            sound = undue_sound parts l (post_of (length l) o.id false) not_due k.sound;
            observed = observed_as_before parts l (length l) o.id y.place unmissed parts.keeper.slots (state y.keeper).slots k.observed;
          };
          due = λ h. absurd (true≢false (sym h));
          posted = refl;
          every = may.holds.equipped.every;
          digest = may.holds.equipped.digest;
          sorted_room = may.holds.equipped.sorted_room;
          save_room = may.holds.equipped.save_room;
        }

    module _ (newest : SavedSlotsAreNewest) (ours : CheckpointsAreOurs) (n : RunState C) (was_due : (saved : Bool) → is_due parts.save_every (post_of (length l) o.id saved) ≡ true) where
      -- the state after a save that was due
      rest_done : (saved : Bool) → AttemptedSave state m n saved → KeptAs state parts n.book n.keeper n.place n.failed_saves (next saved) → Done n saved
      rest_done saved attempted kept = record {
        kept = kept;
        due = λ _. was_due saved;
        posted = attempted.rest.posted;
        every = attempted.rest.every ∙ may.holds.equipped.every;
        digest = attempted.rest.digest ∙ may.holds.equipped.digest;
        sorted_room = omega (arith, attempted.rest.sorted_room, may.holds.equipped.sorted_room);
        save_room = omega (arith, attempted.rest.save_room, may.holds.equipped.save_room);
      }

      abbrev all : List Outcome
      all = by_id (total parts.job) (booked parts (next true))

      digests : y.digest ≡ job_digest parts.job
      digests = may.holds.equipped.digest

      sorted_is : sorted_of m ≡ all
      sorted_is = ap (λ (q : Booked). by_id q.total q.outcomes) (book_is true)

      -- the history has the new save too, whether it succeeded or not
      history_is : (saved : Bool) → AttemptedSave state m n saved → (state n.keeper).attempted ≡ attempted_all parts.keeper.attempted (attempts parts (next saved))
      history_is saved attempted =
          let k = may.holds.kept in
          let sorted : sorted_of m ≡ by_id (total parts.job) (booked parts (next saved)) = ap (λ (q : Booked). by_id q.total q.outcomes) (book_is saved) in
          attempted.attempted
          ∙ (λ i. attempted_too (k.attempted_is i) (k.place_is i).slot (checkpoint 2 (digests i) (k.place_is i).generation (sorted i)) saved)
          ∙ due_attempts parts parts.keeper.attempted l (post_of (length l) o.id saved) (was_due saved)

      sound_is : (saved : Bool) → AttemptedSave state m n saved → All (IsSound parts.job) (made parts (next saved))
      sound_is saved attempted =
          let k = may.holds.kept in
          let sorted : sorted_of m ≡ by_id (total parts.job) (booked parts (next saved)) = ap (λ (q : Booked). by_id q.total q.outcomes) (book_is saved) in
          due_sound parts l (post_of (length l) o.id saved) (was_due saved)
          (subst (λ (x : List ℕ × Place × List Outcome). IsCheckpoint (checkpoint 2 x.0 x.1.generation x.2) 2 x.0 x.1.generation x.2) (λ i. (digests i, k.place_is i, sorted i)) attempted.sound)
          k.sound

      saved_kept : AttemptedSave state m n true → KeptAs state parts n.book n.keeper n.place n.failed_saves (next true)
      saved_kept attempted =
          let k = may.holds.kept in
          let w = attempted.on_ok refl in
          let e = post_of (length l) o.id true in
          let count : saves_made (next true) ≡ suc (saves_made l) = let more = saves-push l e in omega (arith, more) in
          let none = count_none (is_missed parts.save_every e) (saved_unmissed parts.save_every (length l) o.id) in
          let same_missed : missed parts.save_every l ≡ missed parts.save_every (next true) = omega (arith, missed-push parts.save_every l e, none) in
          record {
            book_is = attempted.rest.book ∙ book_is true;
            failed_is = w.failed ∙ k.failed_is ∙ same_missed;
            covered = omega (arith, k.covered, w.faults, w.failed);
            counts = subst (Counts parts.keeper.save_faults) (sym w.faults) k.counts;
            shown = λ rose. let some_failed = k.shown (omega (arith, rose, w.faults)) in omega (arith, some_failed, w.failed);
            loads = attempted.loads ∙ k.loads;
            place_is = w.place ∙ ap next_place k.place_is ∙ ap (λ (c : ℕ). moved c parts.place) (sym count);
            attempted_is = history_is true attempted;
            sound = sound_is true attempted;
            observed = subst (λ (p : Place). IfBothObserved parts.keeper.slots (state n.keeper).slots (λ before now. SlotsAs parts before now p (next true))) (sym w.place)
                (observed_saved newest ours parts may.plan l (length l) o.id y.place k.place_is may.of_todo
                (by_id_fit (fits parts.job) (total parts.job) (booked parts (next true)) (booked_fit parts may.plan (next true) (next_of_todo true)))
                (subst (λ (x : List ℕ × List Outcome). IsCheckpoint (checkpoint 2 x.0 y.place.generation x.1) 2 x.0 y.place.generation x.1) (λ i. (digests i, sorted_is i)) attempted.sound)
                parts.keeper.slots (state y.keeper).slots (state n.keeper).slots may.plan.place k.observed attempted.other
                (subst (λ (x : List ℕ × List Outcome). HoldsBytes (state n.keeper).slots y.place.slot (checkpoint 2 x.0 y.place.generation x.1)) (λ i. (digests i, sorted_is i)) w.slot_bytes)
                (subst (λ (x : List ℕ × List Outcome). IfObserved (state n.keeper).slots (IsNewestForFitJobs x.0 y.place.slot y.place.generation x.1)) (λ i. (digests i, sorted_is i)) w.newest));
          }

      failed_kept : AttemptedSave state m n false → KeptAs state parts n.book n.keeper n.place n.failed_saves (next false)
      failed_kept attempted =
          let k = may.holds.kept in
          let w = attempted.on_err refl in
          let e = post_of (length l) o.id false in
          let is_one : is_missed parts.save_every e ≡ true = ap (λ (d : Bool). d && not false) (was_due false) in
          let one_more : missed parts.save_every (next false) ≡ missed parts.save_every l + 1 =
          missed-push parts.save_every l e ∙ ap (λ (c : ℕ). missed parts.save_every l + c) (missed_one (is_due parts.save_every e) (was_due false)) in
          let same : saves_made l ≡ saves_made (next false) = let more = saves-push l e in omega (arith, more) in
          record {
            book_is = attempted.rest.book ∙ book_is false;
            failed_is = w.failed ∙ ap (λ (c : ℕ). c + 1) k.failed_is ∙ sym one_more;
            covered = subst (λ (c : ℕ). min (parts.keeper.save_faults + c) (2 ^ 64 - 1) ≤ (state n.keeper).save_faults) (sym w.failed)
                (covered_more (2 ^ 64 - 1) parts.keeper.save_faults y.failed_saves (state y.keeper).save_faults (state n.keeper).save_faults k.covered w.rose);
            counts = counts_more parts.keeper.save_faults (state y.keeper).save_faults (state n.keeper).save_faults k.counts attempted.counts;
            shown = λ rose. omega (arith, w.failed);
            loads = attempted.loads ∙ k.loads;
            place_is = w.place ∙ k.place_is ∙ ap (λ (c : ℕ). moved c parts.place) same;
            attempted_is = history_is false attempted;
            sound = sound_is false attempted;
            observed = subst (λ (p : Place). IfBothObserved parts.keeper.slots (state n.keeper).slots (λ before now. SlotsAs parts before now p (next false))) (sym w.place)
                (observed_failed parts l (length l) o.id y.place slot_below is_one parts.keeper.slots (state y.keeper).slots (state n.keeper).slots k.observed attempted.other);
          }

      attempted_done : (saved : Bool) → AttemptedSave state m n saved → Done n saved
      attempted_done true attempted = rest_done true attempted (saved_kept attempted)
      attempted_done false attempted = rest_done false attempted (failed_kept attempted)

    pub done : SavedSlotsAreNewest → CheckpointsAreOurs → (n : RunState C) (saved : Bool) → SavedWhereDue state (length l + 1) m n saved → Done n saved
    done newest ours n saved s = by (is_due parts.save_every (post_of (length l) o.id false)) refl
      where
        due_by : (d : Bool) → is_due parts.save_every (post_of (length l) o.id false) ≡ d → ((length l + 1) % y.save_every == 0) ≡ d
        due_by d is = ap (λ (k : ℕ). (length l + 1) % k == 0) may.holds.equipped.every ∙ is

        by : (d : Bool) → is_due parts.save_every (post_of (length l) o.id false) ≡ d → Done n saved
        by false not_due = let was = s.not_due (due_by false not_due) in subst (λ (x : RunState C × Bool). Done x.0 x.1) (λ k. (sym was.1 k, sym was.0 k)) (undone not_due)
        by true was_due = attempted_done newest ours n (λ _. was_due) saved (s.due (due_by true was_due))

  -- the entry of the outcome was appended
  pub turned : (n z : RunState C) (saved : Bool) → Done n saved → z.posted.items ≡ n.posted.items ++ post_of (length l) o.id saved ∷ []
      → vec_capacity z.posted ≡ vec_capacity n.posted → z.book ≡ n.book → z.keeper ≡ n.keeper → z.place ≡ n.place → z.failed_saves ≡ n.failed_saves
      → z.save_every ≡ n.save_every → z.digest ≡ n.digest → z.sorted ≡ n.sorted → z.room ≡ n.room → HasTurned state lets parts z l o saved
  turned n z saved d items capacity book keeper place failed every digest sorted room = record {
    holds = record {
      entries = items ∙ ap (λ (q : List Entry). q ++ post_of (length l) o.id saved ∷ []) (ap (λ v. v.items) d.posted ∙ may.holds.entries);
      kept = subst (λ (q : Booked × C × Place × ℕ). KeptAs state parts q.0 q.1 q.2 q.3 (next saved))
          (λ k. (sym book k, sym keeper k, sym place k, sym failed k)) d.kept;
      equipped = record {
        every = every ∙ d.every;
        digest = digest ∙ d.digest;
        entry_room = subst (λ (c : ℕ). length parts.todo ≤ c) (sym (capacity ∙ ap vec_capacity d.posted)) may.holds.equipped.entry_room;
        sorted_room = subst (λ (q : RoomyOutcomes). total parts.job ≤ length q.items + q.spare) (sym sorted) d.sorted_room;
        save_room = subst (λ (q : RoomyBytes). 84 + 80 * total parts.job ≤ length q.items + q.spare) (sym room) d.save_room;
      };
      run_saves = may.holds.run_saves;
    };
    due = d.due;
  }
