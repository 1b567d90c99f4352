-- The saves of a run in which none failed.
use Rattle.std.proofs.Common.{◌≡◌, ℕ, zero, suc, ◌+◌, ◌-◌, ◌*◌, ◌/◌, ◌%◌, ◌<◌, ◌≤◌, ◌==◌, ◌&&◌, ◌||◌, nat_lt, not, Bool, true, false, cond, List, [], ◌∷◌, length, Some, refl, sym, ap, ◌∙◌, subst, ⊎_elim, div-add-mod', arith}
use Rattle.std.specs.List.{list_all}
use Rattle.std.proofs.lemmas.Bool.{and_cases, and_parts, eq-eqb, eqb-true, ltb-false, ltb-true, ne_eqb, not_from_false, or_right}
use Rattle.std.proofs.lemmas.List.Sums.{sum_by-cons}
use Rattle.audit_model.specs.Pair.{Pair, Stored, stored}
use Rattle.audit_model.specs.Run.{total, fits, by_id}
use Rattle.audit_model.specs.Times.{times}
use Rattle.audit_statement.specs.Checkpoint.{job_digest}
use Rattle.audit_model.specs.declared.place.Place.{Place}
use Rattle.ckpt_store.specs.Laws.{CheckpointsAreOurs, SavedSlotsAreNewest}
use Rattle.audit_statement.specs.Slots.{newest_for, place_for}
use Rattle.tally_desk.specs.declared.entry.Entry.{Entry}
use Rattle.tally_desk.specs.Entries.{AreRegular, ends_saved, ids_of, is_missed, missed, saves_made, up_to_save, after_save}
use Rattle.tally_desk.specs.Homes.{IsSaveOf, SlotsAs, booked}
use Rattle.audit_statement.specs.InOrder.{moved, saves_of}
use Rattle.tally_desk.specs.InTurn.{AreUnfailed, EndsSaves, RunSavesInTurn, RunSavesInTurnAt, SavesRest, UnfailedRunsSaveInTurn}
use Rattle.tally_desk.specs.Parts.{Parts, IsPlan}
use Rattle.tally_desk.proofs.Booking.{booked_fit, by_id_fit}
use Rattle.tally_desk.proofs.Marking.{ids_up_to_save}
use Rattle.tally_desk.proofs.Regular.{unfailed_posts_are_regular}
use Rattle.tally_desk.proofs.Slotting.{before_next, moved_generation, moved_slot, newest_written, twice_other, two_before_next}

-- the posts after a save missed no more saves than all posts
missed_after : (v n : ℕ) (l : List Entry) → missed v (after_save n l) ≤ missed v l
missed_after v zero l = omega arith
missed_after v (suc n) [] = omega arith
missed_after v (suc n) (e ∷ l) = let r = missed_after v (cond e.saved n (suc n)) l in omega (arith, r, sum_by-cons (λ (x : Entry). cond (is_missed v x) 1 0) e l)

-- a prefix of the posts with the full length is all posts
whole_front : (n : ℕ) (l : List Entry) → length (up_to_save n l) ≡ length l → up_to_save n l ≡ l
whole_front zero [] same = refl
whole_front zero (e ∷ l) same = absurd (omega arith)
whole_front (suc n) [] same = refl
whole_front (suc n) (e ∷ l) same = ap (λ (q : List Entry). e ∷ q) (whole_front (cond e.saved n (suc n)) l (omega arith))

-- without a save at the last post, there is one save more than full groups
one_more_save : (posts every : ℕ) → ((posts == 0) || not (posts % every == 0)) ≡ true → saves_of posts every ≡ posts / every + 1
one_more_save posts every is = ap (λ (b : Bool). posts / every + cond {A = ℕ} b 1 0) is

-- with a save at the last post, there is one save for each full group
no_more_save : (posts every : ℕ) → (posts == 0) ≡ false → (posts % every == 0) ≡ true → saves_of posts every ≡ posts / every + 0
no_more_save posts every some_post whole = λ i. posts / every + cond {A = ℕ} (some_post i || not (whole i)) 1 0

-- the number of saves if the last post is not marked
unsaved_last : (posts every : ℕ) → (nat_lt 0 posts && (posts % every == 0)) ≡ false → saves_of posts every ≡ posts / every + 1
unsaved_last posts every not_both = one_more_save posts every (⊎_elim
    (λ none. let z : posts ≡ 0 = let le = ltb-false 0 posts none in omega arith in ap (λ (b : Bool). b || not (posts % every == 0)) (eq-eqb posts 0 z))
    (λ part. or_right (posts == 0) (not (posts % every == 0)) (not_from_false (posts % every == 0) part))
    (and_cases (nat_lt 0 posts) (posts % every == 0) not_both))

module _ (newest : SavedSlotsAreNewest) (ours : CheckpointsAreOurs) (parts : Parts) (before desk now : Pair) (posted : List Entry) (plan : IsPlan parts)
    (first : place_for parts.job (job_digest parts.job) before ≡ (parts.place.slot, parts.place.generation)) (u : AreUnfailed parts posted) (r : AreRegular parts.save_every posted) where
  part_of_todo : (n : ℕ) (id : ℕ) → times id (ids_of (up_to_save n posted)) ≤ times id parts.todo
  part_of_todo n id = omega (arith, ids_up_to_save id n posted, u.of_todo id)

  none_after : missed parts.save_every (after_save (saves_made posted) posted) ≡ 0
  none_after = let most = missed_after parts.save_every (saves_made posted) posted in omega (arith, most, u.none_missed)

  -- the last save was made with the last post
  saved_last : (n : ℕ) → saves_made posted ≡ suc n → ends_saved posted ≡ true → up_to_save (saves_made posted) posted ≡ posted → now ≡ desk
      → SlotsAs parts before desk (moved (suc n) parts.place) posted → RunSavesInTurnAt parts before now posted (moved n parts.place) (saves_made posted)
  saved_last n count ends whole same s =
      let at : Place = moved n parts.place in
      let slot = moved_slot n parts.place plan.slot in
      let generation = moved_generation n parts.place plan.generation in
      let back = twice_other at.slot slot in
      let fewer : saves_made posted - 1 ≡ n = omega (arith, count) in
      record {
        last = subst (λ (q : ℕ × List Entry × Stored). IsSaveOf parts q.0 q.1 q.2)
            (λ i. (before_next at.generation generation i, whole i, stored (sym same i) (back i))) (s.last_saved (omega (arith, count)));
        newest = ap (newest_for parts.job (job_digest parts.job)) same ∙ s.newest ends ∙ ap (λ (k : ℕ). Some k) back;
        only = λ one_save. ap (λ (q : Pair). stored q (1 - at.slot)) same ∙ s.next_unsaved none_after (omega (arith, one_save));
        before_last = λ many. record {
          part = up_to_save (saves_made posted - 1) posted;
          of_todo = part_of_todo (saves_made posted - 1);
          counted = r.sizes (saves_made posted - 1) (omega arith);
          saved = subst (λ (q : ℕ × Stored). IsSaveOf parts q.0 (up_to_save (saves_made posted - 1) posted) q.1)
              (λ i. (two_before_next at.generation generation i, stored (sym same i) (1 - at.slot))) (s.next_saved none_after (omega (arith, many)));
        };
      }

  -- a last save was made after the desk
  saved_rest : SavesRest parts desk now (moved (saves_made posted) parts.place) posted → SlotsAs parts before desk (moved (saves_made posted) parts.place) posted
      → RunSavesInTurnAt parts before now posted (moved (saves_made posted) parts.place) (saves_made posted + 1)
  saved_rest rest s =
      let at : Place = moved (saves_made posted) parts.place in
      let fit : list_all (fits parts.job) (by_id (total parts.job) (booked parts posted)) ≡ true = by_id_fit (fits parts.job) (total parts.job) (booked parts posted) (booked_fit parts plan posted u.of_todo) in
      let fewer : saves_made posted + 1 - 1 ≡ saves_made posted = omega arith in
      record {
        last = rest.saved;
        newest = newest_written newest ours parts plan posted before desk now at (moved_slot (saves_made posted) parts.place plan.slot) (moved_generation (saves_made posted) parts.place plan.generation) refl first u.of_todo
            (by_id (total parts.job) (booked parts posted)) fit rest.saved.sound rest.saved.bytes rest.other rest.fresh s (saves_made posted) refl;
        only = λ one_save. rest.other ∙ s.last_unsaved (omega (arith, one_save));
        before_last = λ many. record {
          part = up_to_save (saves_made posted) posted;
          of_todo = part_of_todo (saves_made posted);
          counted = r.sizes (saves_made posted) (omega arith) ∙ ap (λ (k : ℕ). k * parts.save_every) (sym fewer);
          saved = subst (IsSaveOf parts ((at.generation + 2) % 3) (up_to_save (saves_made posted) posted)) (sym rest.other) (s.last_saved (omega (arith, many)));
        };
      }

  in_turn : (b : Bool) → ends_saved posted ≡ b → SlotsAs parts before desk (moved (saves_made posted) parts.place) posted → EndsSaves b parts desk now (moved (saves_made posted) parts.place) posted
      → RunSavesInTurn parts before now posted
  in_turn false ends s rest =
      let count : saves_of (length posted) parts.save_every ≡ saves_made posted + 1 =
      unsaved_last (length posted) parts.save_every (sym r.last ∙ ends) ∙ ap (λ (k : ℕ). k + 1) (sym r.count) in
      let fewer : saves_made posted ≡ saves_of (length posted) parts.save_every - 1 = omega (arith, count) in
      subst (λ (q : ℕ × ℕ). RunSavesInTurnAt parts before now posted (moved q.0 parts.place) q.1) (λ i. (fewer i, sym count i)) (saved_rest rest s)
  in_turn true ends s same =
      let both = and_parts (nat_lt 0 (length posted)) (length posted % parts.save_every == 0) (sym r.last ∙ ends) in
      let some_post = ltb-true 0 (length posted) both.0 in
      let no_rest = eqb-true (length posted % parts.save_every) 0 both.1 in
      let groups = div-add-mod' (length posted) parts.save_every in
      let size : length (up_to_save (saves_made posted) posted) ≡ length posted =
      r.sizes (saves_made posted) (omega arith) ∙ ap (λ (k : ℕ). k * parts.save_every) r.count ∙ (let all : length posted / parts.save_every * parts.save_every ≡ length posted = omega (arith, groups, no_rest) in all) in
      let count : saves_of (length posted) parts.save_every ≡ saves_made posted =
      no_more_save (length posted) parts.save_every (ne_eqb (length posted) 0 (λ z. absurd (omega (arith, z, some_post)))) both.1
      ∙ (let plain : length posted / parts.save_every + 0 ≡ saves_made posted = omega (arith, r.count) in plain) in
      by (saves_made posted) refl (whole_front (saves_made posted) posted size) count some_post size
    where
      by : (n : ℕ) → saves_made posted ≡ n → up_to_save (saves_made posted) posted ≡ posted → saves_of (length posted) parts.save_every ≡ saves_made posted → 0 < length posted
          → length (up_to_save (saves_made posted) posted) ≡ length posted → RunSavesInTurn parts before now posted
      by zero none whole count some_post size =
          let empty : length (up_to_save (saves_made posted) posted) ≡ 0 = ap (λ (k : ℕ). length (up_to_save k posted)) none in absurd (omega (arith, empty, size, some_post))
      by (suc n) some_saves whole count some_post size =
          let fewer : n ≡ saves_of (length posted) parts.save_every - 1 = omega (arith, count, some_saves) in
          subst (λ (q : ℕ × ℕ). RunSavesInTurnAt parts before now posted (moved q.0 parts.place) q.1) (λ i. (fewer i, sym count i))
          (saved_last n some_saves ends whole same (subst (λ (k : ℕ). SlotsAs parts before desk (moved k parts.place) posted) some_saves s))

-- the law on a run in which no save failed
pub unfailed_runs_save_in_turn : SavedSlotsAreNewest → CheckpointsAreOurs → UnfailedRunsSaveInTurn
unfailed_runs_save_in_turn newest ours parts before desk now posted plan first u s ends =
    in_turn newest ours parts before desk now posted plan first u
    (unfailed_posts_are_regular parts.save_every posted plan.every u.in_order u.due u.none_missed) (ends_saved posted) refl s ends
