-- The result of a run whose desk was closed, with a last save unless the last post saved.
use Rattle.std.proofs.Common.{◌≡◌, ◌⊎◌, inl, inr, ℕ, zero, suc, ◌+◌, ◌-◌, ◌%◌, ◌^◌, ◌<◌, ◌≤◌, ◌==◌, ◌&&◌, min, not, Bool, true, false, cond, List, length, Option, Some, None, refl, sym, ap, ◌∙◌, subst, arith}
use Rattle.std.specs.Prelude.{IsErr, IsOk, IsPermutation, OnErr, OnOk, Result, Ok, Err, is_ok}
use Rattle.std.specs.List.{AllPairs, range_with_len}
use Rattle.std.proofs.lemmas.Bool.{cases_lt}
use Rattle.std.proofs.lemmas.List.{append-nil, length-map}
use Rattle.std.proofs.lemmas.List.Sorted.{length_permutation, sum_by-IsPermutation}
use Rattle.audit_io.specs.declared.source.Failed.{Failed}
use Rattle.audit_model.specs.Faults.{Counts, HasCause, Rose}
use Rattle.audit_model.specs.State.{KeeperState}
use Rattle.audit_model.specs.Observed.{IfBothObserved, IfObserved}
use Rattle.audit_model.specs.Pair.{Pair, stored, HoldsBytes, KeepsOther}
use Rattle.audit_model.specs.Attempts.{attempted_all, attempted_too, try_of}
use Rattle.audit_model.specs.declared.outcome.Outcome.{Outcome}
use Rattle.audit_model.specs.Run.{total, by_id}
use Rattle.audit_model.specs.Times.{times}
use Rattle.audit_statement.specs.Checkpoint.{IsCheckpoint, checkpoint, job_digest}
use Rattle.audit_model.specs.declared.place.Place.{Place}
use Rattle.audit_statement.specs.Due.{Lets}
use Rattle.ckpt_store.specs.Laws.{IsNewestForFitJobs}
use Rattle.outcome_book.specs.Booked.{Booked, IsBook}
use Rattle.tally_desk.specs.declared.entry.Entry.{Entry}
use Rattle.tally_desk.specs.declared.state.RunState.{RunState}
use Rattle.tally_desk.specs.Entries.{ends_saved, posted_id, ids_of, saves_made, tickets_of, up_to_save}
use Rattle.tally_desk.specs.Homes.{IsSaveOf, SlotsAs, booked, attempts}
use Rattle.audit_statement.specs.InOrder.{moved, failed_of}
use Rattle.tally_desk.specs.InTurn.{AreUnfailed, EndsSaves, RunSavesInTurn, SavesRest, UnfailedRunsSaveInTurn}
use Rattle.tally_desk.specs.Parts.{LetsDesk, Parts, IsPlaceFor}
use Rattle.tally_desk.specs.Views.{PassView}
use Rattle.tally_desk.proofs.Marking.{ids_up_to_save}
use Rattle.tally_desk.proofs.Slotting.{other_is}
use Rattle.tally_desk.proofs.Trying.{attempted_then}
use Rattle.tally_desk.proofs.Turning.{counts_more}
use Rattle.tally_desk.specs.RunResult.{BothSaved, HasRun, KeepsSome}
use Rattle.tally_desk.specs.Passes.{IsClosed}
use Rattle.tally_desk.specs.Saves.{MakesLastSave}
use Rattle.tally_desk.specs.Saving.{LetsSave}
use Rattle.tally_desk.proofs.Failing.{failed_run}
use Rattle.tally_desk.proofs.Ordering.{are_saves, saves_with_last}
use Rattle.tally_desk.proofs.Attempted.{are_run_attempts, rest_attempts, run_attempts}

-- ---- counts of faults

-- if a save failed at the desk, the keeper's count rose
rose_covered : (last start failed now after : ℕ) → min (start + failed) last ≤ now → now ≤ after → 0 < failed → min (start + 1) last ≤ after
rose_covered last start failed now after covered le some_failed = omega arith

-- if the last save failed, the keeper's count rose
rose_later : (last start now after : ℕ) → start ≤ now → min (now + 1) last ≤ after → min (start + 1) last ≤ after
rose_later last start now after le rose = omega arith

-- a success that counts nothing has its cause
same_cause : (n : ℕ) (r : Result (Unit {0}) Failed) → is_ok r ≡ true → HasCause n n r
same_cause n (Ok done) is = record { counts = record { later = omega arith; within = λ b. b }; failed = tt; passed = refl }
same_cause n (Err failed) is = cc

-- a property that holds on Ok holds for an Ok result
on_ok_at : {P : Type 0} (r : Result (Unit {0}) Failed) → IsOk r → OnOk r P → P
on_ok_at (Ok done) is p = p
on_ok_at (Err failed) is p = cc

-- a property that holds on Err holds for an Err result
on_err_at : {P : Type 0} (r : Result (Unit {0}) Failed) → IsErr r → OnErr r P → P
on_err_at (Err failed) is p = p
on_err_at (Ok done) is p = cc

-- a number that is not above another is at most that
not_more : (a b : ℕ) → (a < b → ⊥) → b ≤ a
not_more a b none = elim (cases_lt a b) [
  | inl less ↦ absurd (none less)
  | inr rest ↦ rest
]

-- a property of every Ok result holds on Ok
on_ok_of : {P : Type 0} (r : Result (Unit {0}) Failed) → (IsOk r → P) → OnOk r P
on_ok_of (Ok done) f = f refl
on_ok_of (Err failed) f = tt

module _ (start failed now after : ℕ) (rest : Result (Unit {0}) Failed) (covered : min (start + failed) (2 ^ 64 - 1) ≤ now) (counts : Counts start now) (shown : start < now → 0 < failed)
    (cause : HasCause now after rest) where
  rose : (0 < failed) ⊎ IsErr rest → Rose start after
  rose (inl some_failed) = rose_covered (2 ^ 64 - 1) start failed now after covered cause.counts.later some_failed
  rose (inr is) = rose_later (2 ^ 64 - 1) start now after counts.later (on_err_at rest is cause.failed)

  kept_count : (failed ≡ 0) × IsOk rest → after ≡ start
  kept_count both =
      let same = on_ok_at rest both.1 cause.passed in
      let most : now ≤ start = not_more start now (λ less. let some_failed = shown less in absurd (omega (arith, some_failed, both.0))) in
      omega (arith, same, most, counts.later)

  both_cause : (result : Result (Unit {0}) Failed) → BothSaved failed rest result → HasCause start after result
  both_cause (Ok done) b = record { counts = counts_more start now after counts cause.counts; failed = tt; passed = kept_count (b.ok refl) }
  both_cause (Err why) b = record { counts = counts_more start now after counts cause.counts; failed = rose (b.err refl); passed = tt }

-- each failed save is counted, the last one included
cover : (last start failed now after : ℕ) (saved : Bool) (r : Result (Unit {0}) Failed) → min (start + failed) last ≤ now → now ≤ after → OnErr r (min (now + 1) last ≤ after)
    → min (start + (failed + cond {A = ℕ} (not saved && not (is_ok r)) 1 0)) last ≤ after
cover last start failed now after true r covered le rose = omega arith
cover last start failed now after false (Ok done) covered le rose = omega arith
cover last start failed now after false (Err why) covered le rose = omega arith

-- ---- the slots

module _ {C : Type 0} (state : C → KeeperState) (parts : Parts) (v : PassView) (kept : RunState C) (k : IsClosed state parts v kept) where
  abbrev posted : List Entry
  posted = k.posted

  abbrev last_saved : Bool
  last_saved = ends_saved kept.posted.items

  last_is : last_saved ≡ ends_saved posted
  last_is = ap ends_saved k.entries

  same_times : (id : ℕ) → times id parts.todo ≡ times id (ids_of posted)
  same_times id = sum_by-IsPermutation (λ (y : ℕ). cond (y == id) 1 0) (ids_of posted) parts.todo k.all

  of_todo : (id : ℕ) → times id (ids_of posted) ≤ times id parts.todo
  of_todo id = omega (arith, same_times id)

  pub in_order : tickets_of posted ≡ range_with_len 0 (length posted)
  in_order = k.in_order ∙ ap (range_with_len 0) (length_permutation _ _ k.all ∙ length-map posted posted_id)

  unfailed : kept.failed_saves ≡ 0 → AreUnfailed parts posted
  unfailed none = record {
    in_order = in_order;
    of_todo = of_todo;
    due = k.due;
    none_missed = sym k.kept.failed_is ∙ none;
  }

  -- a keeper that accepts the run's saves accepts the last save, which is the next of the run
  pub lets_last : (lets : Lets) → LetsDesk lets parts → last_saved ≡ false → LetsSave state lets kept
  lets_last lets desk none sound =
      let place = moved (saves_made posted) parts.place in
      let all = by_id (total parts.job) (booked parts posted) in
      let same_all : by_id kept.book.total kept.book.outcomes ≡ all = ap (λ (x : Booked). by_id x.total x.outcomes) k.kept.book_is in
      let rest_sound : IsCheckpoint (checkpoint 2 (job_digest parts.job) place.generation all) 2 (job_digest parts.job) place.generation all =
      subst (λ (x : List ℕ × Place × List Outcome). IsCheckpoint (checkpoint 2 x.0 x.1.generation x.2) 2 x.0 x.1.generation x.2)
      (λ i. (k.equipped.digest i, k.kept.place_is i, same_all i)) sound in
      subst (λ (x : Place × List ℕ × List Outcome). lets (state kept.keeper) x.0.slot (checkpoint 2 x.1 x.0.generation x.2))
      (λ i. (sym k.kept.place_is i, sym k.equipped.digest i, sym same_all i))
      (desk (state kept.keeper) (attempts parts posted) (try_of place.slot (checkpoint 2 (job_digest parts.job) place.generation all) true) k.kept.attempted_is
      (saves_with_last parts k.plan true posted of_todo in_order k.kept.sound k.due k.all (sym none ∙ last_is) rest_sound))

  at_moved : (a c : Pair) → SlotsAs parts a c kept.place posted → SlotsAs parts a c (moved (saves_made posted) parts.place) posted
  at_moved a c = subst (λ (p : Place). SlotsAs parts a c p posted) k.kept.place_is

  -- the slots if the last post saved
  saved_before : UnfailedRunsSaveInTurn → kept.failed_saves ≡ 0 → last_saved ≡ true → (a c : Option Pair) → IsPlaceFor parts.job a parts.place
      → IfBothObserved a c (λ p q. SlotsAs parts p q kept.place posted) → IfBothObserved a c (λ p q. RunSavesInTurn parts p q posted)
  saved_before law none last None c first observed = tt
  saved_before law none last (Some p) None first observed = observed
  saved_before law none last (Some p) (Some q) first observed =
      law parts p q q posted k.plan first (unfailed none) (at_moved p q observed)
      (subst (λ (b : Bool). EndsSaves b parts q q (moved (saves_made posted) parts.place) posted) (sym last ∙ last_is) refl)

  -- the slots if the last save was made after the desk
  saved_now : UnfailedRunsSaveInTurn → kept.failed_saves ≡ 0 → last_saved ≡ false → (sorted : List Outcome) → sorted ≡ by_id kept.book.total kept.book.outcomes
      → IsCheckpoint (checkpoint 2 kept.digest kept.place.generation sorted) 2 kept.digest kept.place.generation sorted → (a c d : Option Pair) → IsPlaceFor parts.job a parts.place
      → IfBothObserved a c (λ p q. SlotsAs parts p q kept.place posted) → KeepsOther c d kept.place.slot
      → HoldsBytes d kept.place.slot (checkpoint 2 kept.digest kept.place.generation sorted) → IfObserved d (IsNewestForFitJobs kept.digest kept.place.slot kept.place.generation sorted)
      → IfBothObserved a d (λ p q. RunSavesInTurn parts p q posted)
  saved_now law none last sorted is sound None c d first observed other slot_bytes fresh = tt
  saved_now law none last sorted is sound (Some p) None d first observed other slot_bytes fresh = absurd observed
  saved_now law none last sorted is sound (Some p) (Some q) None first observed other slot_bytes fresh = other
  saved_now law none last sorted is sound (Some p) (Some q) (Some r) first observed other slot_bytes fresh =
      let all : List Outcome = by_id (total parts.job) (booked parts posted) in
      let same : sorted ≡ all = is ∙ ap (λ (b : Booked). by_id b.total b.outcomes) k.kept.book_is in
      let rest : SavesRest parts q r kept.place posted = record {
        saved = record {
          bytes = slot_bytes ∙ (λ i. Some (checkpoint 2 (k.equipped.digest i) kept.place.generation (same i)));
          sound = subst (λ (x : List ℕ × List Outcome). IsCheckpoint (checkpoint 2 x.0 kept.place.generation x.1) 2 x.0 kept.place.generation x.1) (λ i. (k.equipped.digest i, same i)) sound;
        };
        other = sym (other_is r kept.place.slot k.slot) ∙ other ∙ other_is q kept.place.slot k.slot;
        fresh = subst (λ (x : List ℕ × List Outcome). IsNewestForFitJobs x.0 kept.place.slot kept.place.generation x.1 r) (λ i. (k.equipped.digest i, same i)) fresh;
      } in
      law parts p q r posted k.plan first (unfailed none) (at_moved p q observed)
      (subst (λ (b : Bool). EndsSaves b parts q r (moved (saves_made posted) parts.place) posted) (sym last ∙ last_is)
      (subst (λ (at : Place). SavesRest parts q r at posted) k.kept.place_is rest))

  -- the slot beside the place is not written to after the desk is closed
  keeps_some : (p q r : Pair) (n : ℕ) → saves_made posted ≡ n → SlotsAs parts p q kept.place posted → stored r (1 - kept.place.slot) ≡ stored q (1 - kept.place.slot) → KeepsSome parts p r
  keeps_some p q r zero none s same =
      let here : kept.place ≡ parts.place = k.kept.place_is ∙ ap (λ (m : ℕ). moved m parts.place) none in
      inl (subst (λ (at : Place). stored r (1 - at.slot) ≡ stored p (1 - at.slot)) here (same ∙ s.last_unsaved none))
  keeps_some p q r (suc n) some_saves s same = inr (
    1 - kept.place.slot,
    (
      (kept.place.generation + 2) % 3,
      (
        length (up_to_save (saves_made posted) posted),
        record {
          part = up_to_save (saves_made posted) posted;
          of_todo = λ id. omega (arith, ids_up_to_save id (saves_made posted) posted, of_todo id);
          counted = refl;
          saved = subst (IsSaveOf parts ((kept.place.generation + 2) % 3) (up_to_save (saves_made posted) posted)) (sym same) (s.last_saved (omega (arith, some_saves)));
        },
      ),
    ),
  )

  -- the slots in all cases, known or not
  keeps_by : (a c d : Option Pair) → IfBothObserved a c (λ p q. SlotsAs parts p q kept.place posted) → KeepsOther c d kept.place.slot → IfBothObserved a d (KeepsSome parts)
  keeps_by None c d observed other = tt
  keeps_by (Some p) None d observed other = absurd observed
  keeps_by (Some p) (Some q) None observed other = other
  keeps_by (Some p) (Some q) (Some r) observed other =
      keeps_some p q r (saves_made posted) refl observed (sym (other_is r kept.place.slot k.slot) ∙ other ∙ other_is q kept.place.slot k.slot)

-- slots that did not change keep every other slot
keeps_itself : (c : Option Pair) (at : ℕ) → KeepsOther c c at
keeps_itself None at = tt
keeps_itself (Some q) at = refl

-- ---- all of it

module _ {C : Type 0} (state : C → KeeperState) (law : UnfailedRunsSaveInTurn) (parts : Parts) (v : PassView) (kept now : RunState C)
    (k : IsClosed state parts v kept) (rest result : Result (Unit {0}) Failed)
    (s : MakesLastSave state kept now rest) (b : BothSaved kept.failed_saves rest result)
    (is : now.sorted.items ≡ by_id kept.book.total kept.book.outcomes) where
  abbrev all_posted : List Entry
  all_posted = k.posted

  abbrev last_is_saved : Bool
  last_is_saved = ends_saved kept.posted.items

  same : now.sorted.items ≡ by_id (total parts.job) (booked parts all_posted)
  same = is ∙ ap (λ (x : Booked). by_id x.total x.outcomes) k.kept.book_is

  rest_cause : HasCause (state kept.keeper).save_faults (state now.keeper).save_faults rest
  rest_cause = by last_is_saved refl
    where
      by : (l : Bool) → last_is_saved ≡ l → HasCause (state kept.keeper).save_faults (state now.keeper).save_faults rest
      by true e = let h = s.saved e in subst (λ (x : C). HasCause (state kept.keeper).save_faults (state x).save_faults rest) (sym h.0) (same_cause (state kept.keeper).save_faults rest h.1)
      by false e = (s.unsaved e).cause

  rest_loads : (state now.keeper).load_faults ≡ parts.keeper.load_faults
  rest_loads = by last_is_saved refl
    where
      by : (l : Bool) → last_is_saved ≡ l → (state now.keeper).load_faults ≡ parts.keeper.load_faults
      by true e = ap (λ x. (state x).load_faults) (s.saved e).0 ∙ k.kept.loads
      by false e = (s.unsaved e).loads ∙ k.kept.loads

  rest_other : KeepsOther (state kept.keeper).slots (state now.keeper).slots kept.place.slot
  rest_other = by last_is_saved refl
    where
      by : (l : Bool) → last_is_saved ≡ l → KeepsOther (state kept.keeper).slots (state now.keeper).slots kept.place.slot
      by true e = subst (λ (x : C). KeepsOther (state kept.keeper).slots (state x).slots kept.place.slot) (sym (s.saved e).0) (keeps_itself (state kept.keeper).slots kept.place.slot)
      by false e = (s.unsaved e).other

  rest_in_turn : (kept.failed_saves ≡ 0) × IsOk rest → IfBothObserved parts.keeper.slots (state now.keeper).slots (λ p q. RunSavesInTurn parts p q all_posted)
  rest_in_turn both = by last_is_saved refl
    where
      by : (l : Bool) → last_is_saved ≡ l → IfBothObserved parts.keeper.slots (state now.keeper).slots (λ p q. RunSavesInTurn parts p q all_posted)
      by true e =
          subst (λ (x : C). IfBothObserved parts.keeper.slots (state x).slots (λ p q. RunSavesInTurn parts p q all_posted)) (sym (s.saved e).0)
          (saved_before state parts v kept k law both.0 e parts.keeper.slots (state kept.keeper).slots k.plan.place k.kept.observed)
      by false e =
          let t = s.unsaved e in
          saved_now state parts v kept k law both.0 e now.sorted.items is t.sound parts.keeper.slots (state kept.keeper).slots (state now.keeper).slots k.plan.place
          k.kept.observed t.other (on_ok_at rest both.1 t.slot_bytes) (on_ok_at rest both.1 t.newest)

  rest_attempted : (state now.keeper).attempted ≡ attempted_all parts.keeper.attempted (run_attempts last_is_saved (is_ok rest) parts all_posted)
  rest_attempted = by last_is_saved refl
    where
      by : (l : Bool) → last_is_saved ≡ l → (state now.keeper).attempted ≡ attempted_all parts.keeper.attempted (run_attempts last_is_saved (is_ok rest) parts all_posted)
      by true e =
          ap (λ x. (state x).attempted) (s.saved e).0 ∙ k.kept.attempted_is ∙ ap (attempted_all parts.keeper.attempted) (sym (append-nil (attempts parts all_posted)))
          ∙ ap (λ (l : Bool). attempted_all parts.keeper.attempted (run_attempts l (is_ok rest) parts all_posted)) (sym e)
      by false e =
          (s.unsaved e).attempted
          ∙ (λ i. attempted_too (k.kept.attempted_is i) (k.kept.place_is i).slot (checkpoint 2 (k.equipped.digest i) (k.kept.place_is i).generation (same i)) (is_ok rest))
          ∙ sym (attempted_then parts.keeper.attempted (attempts parts all_posted) (rest_attempts false (is_ok rest) parts all_posted))
          ∙ ap (λ (l : Bool). attempted_all parts.keeper.attempted (run_attempts l (is_ok rest) parts all_posted)) (sym e)

  rest_sound : last_is_saved ≡ false
      → IsCheckpoint (checkpoint 2 (job_digest parts.job) (moved (saves_made all_posted) parts.place).generation (by_id (total parts.job) (booked parts all_posted)))
      2 (job_digest parts.job) (moved (saves_made all_posted) parts.place).generation (by_id (total parts.job) (booked parts all_posted))
  rest_sound e =
      subst (λ (x : List ℕ × Place × List Outcome). IsCheckpoint (checkpoint 2 x.0 x.1.generation x.2) 2 x.0 x.1.generation x.2)
      (λ i. (k.equipped.digest i, k.kept.place_is i, same i)) (s.unsaved e).sound

  rest_covered : min (parts.keeper.save_faults + failed_of (run_attempts last_is_saved (is_ok rest) parts all_posted)) (2 ^ 64 - 1) ≤ (state now.keeper).save_faults
  rest_covered =
      let count = failed_run parts last_is_saved (is_ok rest) all_posted
      ∙ ap (λ (n : ℕ). n + cond {A = ℕ} (not last_is_saved && not (is_ok rest)) 1 0) (sym k.kept.failed_is) in
      subst (λ (n : ℕ). min (parts.keeper.save_faults + n) (2 ^ 64 - 1) ≤ (state now.keeper).save_faults) (sym count)
      (cover (2 ^ 64 - 1) parts.keeper.save_faults kept.failed_saves (state kept.keeper).save_faults (state now.keeper).save_faults last_is_saved rest k.kept.covered rest_cause.counts.later rest_cause.failed)

  pub has_run : IsBook kept.book → IsPermutation kept.book.outcomes now.sorted.items → AllPairs (λ a b. a.id < b.id) now.sorted.items
      → HasRun parts (state now.keeper) now.sorted.items result
  has_run book all rising = record {
    plan = k.plan;
    posted = all_posted;
    all = k.all;
    book = subst IsBook k.kept.book_is book;
    sorted_is = same;
    sorted_all = subst (λ (x : Booked). IsPermutation x.outcomes now.sorted.items) k.kept.book_is all;
    rising = rising;
    cause = both_cause parts.keeper.save_faults kept.failed_saves (state kept.keeper).save_faults (state now.keeper).save_faults rest k.kept.covered k.kept.counts k.kept.shown rest_cause result b;
    loads = rest_loads;
    in_turn = on_ok_of result (λ ok. rest_in_turn (b.ok ok));
    keeps = keeps_by state parts v kept k parts.keeper.slots (state kept.keeper).slots (state now.keeper).slots k.kept.observed rest_other;
    attempts = run_attempts last_is_saved (is_ok rest) parts all_posted;
    attempted = rest_attempted;
    are_attempts = are_run_attempts parts k.plan last_is_saved (is_ok rest) all_posted (of_todo state parts v kept k) k.kept.sound k.due rest_sound;
    in_order = are_saves parts k.plan last_is_saved (is_ok rest) all_posted (of_todo state parts v kept k) (in_order state parts v kept k) k.kept.sound k.due (last_is state parts v kept k) rest_sound;
    covered = rest_covered;
  }
