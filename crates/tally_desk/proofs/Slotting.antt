-- The effect of one more post on the knowledge of the slots.
use Rattle.std.proofs.Common.{◌≡◌, ℕ, zero, suc, ◌+◌, ◌-◌, ◌%◌, ◌<◌, ◌≤◌, Bool, true, false, cond, List, [], ◌∷◌, ◌++◌, Option, Some, None, refl, sym, ap, ◌∙◌, subst, arith}
use Rattle.std.specs.List.{list_all}
use Rattle.std.proofs.lemmas.Bool.{true≢false}
use Rattle.audit_model.specs.Pair.{Pair, Stored, stored, other_stored}
use Rattle.audit_model.specs.declared.outcome.Outcome.{Outcome}
use Rattle.audit_model.specs.Run.{total, fits, by_id}
use Rattle.audit_model.specs.Times.{times}
use Rattle.audit_statement.specs.Checkpoint.{IsCheckpoint, checkpoint, job_digest}
use Rattle.audit_statement.specs.Slots.{generation_of, slot_of, newest_for, place_for}
use Rattle.audit_model.specs.declared.place.Place.{Place}
use Rattle.ckpt_store.specs.Laws.{CheckpointsAreOurs, IsNewestForFitJobs, SavedSlotsAreNewest}
use Rattle.tally_desk.specs.declared.entry.Entry.{Entry}
use Rattle.tally_desk.specs.Entries.{post_of, ids_of, is_missed, saves_made, missed, up_to_save, after_save}
use Rattle.audit_model.specs.Observed.{IfBothObserved}
use Rattle.tally_desk.specs.Homes.{IsSaveOf, SlotsAs, booked}
use Rattle.audit_statement.specs.InOrder.{moved, next_place}
use Rattle.tally_desk.specs.Parts.{Parts, IsPlan}
use Rattle.tally_desk.proofs.Booking.{saved_fit}
use Rattle.tally_desk.proofs.Marking.{saves-push, missed-push, up_to_save-kept, up_to_save-all, after_save-kept, ends_saved-push}

-- ---- two slots and three generations

-- the place stays within two slots
pub moved_slot : (n : ℕ) (p : Place) → p.slot < 2 → (moved n p).slot < 2
moved_slot zero p below = below
moved_slot (suc n) p below = omega arith

-- a generation is below three
mod_three : (g : ℕ) → (g + 1) % 3 < 3
mod_three g = omega arith

-- the place stays within three generations
pub moved_generation : (n : ℕ) (p : Place) → p.generation < 3 → (moved n p).generation < 3
moved_generation zero p below = below
moved_generation (suc n) p below = mod_three (moved n p).generation

-- the other slot is the one beside the place
pub other_is : (q : Pair) (at : ℕ) → at < 2 → other_stored q at ≡ stored q (1 - at)
other_is q zero below = refl
other_is q (suc zero) below = refl
other_is q (suc (suc at)) below = absurd (omega arith)

-- the other slot of the other slot is the slot itself
pub twice_other : (at : ℕ) → at < 2 → 1 - (1 - at) ≡ at
twice_other at below = omega arith

-- the generation before the next one is the current one
pub before_next : (g : ℕ) → g < 3 → ((g + 1) % 3 + 2) % 3 ≡ g
before_next zero below = refl
before_next (suc zero) below = refl
before_next (suc (suc zero)) below = refl
before_next (suc (suc (suc g))) below = absurd (omega arith)

-- two generations before the next one is the one before the current one
pub two_before_next : (g : ℕ) → g < 3 → ((g + 1) % 3 + 1) % 3 ≡ (g + 2) % 3
two_before_next zero below = refl
two_before_next (suc zero) below = refl
two_before_next (suc (suc zero)) below = refl
two_before_next (suc (suc (suc g))) below = absurd (omega arith)

-- the current generation follows the one before it
after_before : (g : ℕ) → g < 3 → g ≡ ((g + 2) % 3 + 1) % 3
after_before zero below = refl
after_before (suc zero) below = refl
after_before (suc (suc zero)) below = refl
after_before (suc (suc (suc g))) below = absurd (omega arith)

-- ---- known or unknown slots

-- an implication carries over to slots that may be unknown
pub observed_map : {A : Type 0} (a b : Option A) (P Q : A → A → Type 0) → ((x y : A) → P x y → Q x y) → IfBothObserved a b P → IfBothObserved a b Q
observed_map None b P Q f h = tt
observed_map (Some x) None P Q f h = h
observed_map (Some x) (Some y) P Q f h = f x y h

-- if the count is zero, the condition is false
cond_none : (b : Bool) → cond {A = ℕ} b 1 0 ≡ 0 → b ≡ false
cond_none true none = absurd (omega arith)
cond_none false none = refl

-- ---- a post that is not marked

-- an unmarked post leaves the last slot, and both slots if no save was due
pub unsaved_slots : (parts : Parts) (l : List Entry) (t i : ℕ) (before now after : Pair) (place : Place)
    → stored after (1 - place.slot) ≡ stored now (1 - place.slot)
    → (is_missed parts.save_every (post_of t i false) ≡ false → after ≡ now)
    → SlotsAs parts before now place l → SlotsAs parts before after place (l ++ post_of t i false ∷ [])
unsaved_slots parts l t i before now after place last same s =
    let e = post_of t i false in
    let more = l ++ e ∷ [] in
    let every = parts.save_every in
    let count : saves_made more ≡ saves_made l = let pushed = saves-push l e in omega arith in
    let fewer : saves_made more - 1 ≡ saves_made l - 1 = ap (λ (n : ℕ). n - 1) count in
    let kept : (n : ℕ) → n ≤ saves_made l → up_to_save n more ≡ up_to_save n l = up_to_save-kept l e in
    let rest : missed every (after_save (saves_made more) more) ≡ missed every (after_save (saves_made l) l) + cond (is_missed every e) 1 0 =
    ap (λ (n : ℕ). missed every (after_save n more)) count ∙ ap (missed every) (after_save-kept l e (saves_made l) (omega arith))
    ∙ missed-push every (after_save (saves_made l) l) e in
    let unmissed : missed every (after_save (saves_made more) more) ≡ 0 → after ≡ now = λ none. same (cond_none (is_missed every e) (omega (arith, none, rest))) in
    let saved_all : up_to_save (saves_made more) more ≡ up_to_save (saves_made l) l = ap (λ (n : ℕ). up_to_save n more) count ∙ kept (saves_made l) (omega arith) in
    let saved_before : up_to_save (saves_made more - 1) more ≡ up_to_save (saves_made l - 1) l = ap (λ (n : ℕ). up_to_save n more) fewer ∙ kept (saves_made l - 1) (omega arith) in
    record {
      last_unsaved = λ none. last ∙ s.last_unsaved (omega (arith, none, count));
      last_saved = λ some_save.
          subst (λ (q : List Entry × Stored). IsSaveOf parts ((place.generation + 2) % 3) q.0 q.1) (λ k. (sym saved_all k, sym last k))
          (s.last_saved (omega (arith, some_save, count)));
      next_unsaved = λ none few.
          ap (λ (q : Pair). stored q place.slot) (unmissed none) ∙ s.next_unsaved (omega (arith, none, rest)) (omega (arith, few, count));
      next_saved = λ none many.
          subst (λ (q : List Entry × Stored). IsSaveOf parts ((place.generation + 1) % 3) q.0 q.1)
          (λ k. (sym saved_before k, ap (λ (q : Pair). stored q place.slot) (sym (unmissed none)) k))
          (s.next_saved (omega (arith, none, rest)) (omega (arith, many, count)));
      newest = λ ends. absurd (true≢false (sym ends ∙ ends_saved-push false l e));
    }

-- ---- a post that is marked

-- a checkpoint of fitting outcomes, written at the place and nowhere else, is the newest slot
module _ (newest : SavedSlotsAreNewest) (ours : CheckpointsAreOurs) (parts : Parts) (plan : IsPlan parts) (l : List Entry) (before now after : Pair) (place : Place) (slot : place.slot < 2)
    (generation : place.generation < 3) (at : place ≡ moved (saves_made l) parts.place)
    (first : place_for parts.job (job_digest parts.job) before ≡ (parts.place.slot, parts.place.generation)) (of_todo : (id : ℕ) → times id (ids_of l) ≤ times id parts.todo)
    (outcomes : List Outcome) (fit : list_all (fits parts.job) outcomes ≡ true)
    (sound : IsCheckpoint (checkpoint 2 (job_digest parts.job) place.generation outcomes) 2 (job_digest parts.job) place.generation outcomes)
    (slot_bytes : stored after place.slot ≡ Some (checkpoint 2 (job_digest parts.job) place.generation outcomes)) (last : stored after (1 - place.slot) ≡ stored now (1 - place.slot))
    (fresh : IsNewestForFitJobs (job_digest parts.job) place.slot place.generation outcomes after) (s : SlotsAs parts before now place l) where
  pub newest_written : (n : ℕ) → saves_made l ≡ n → newest_for parts.job (job_digest parts.job) after ≡ Some place.slot
  newest_written zero none =
      let here : place ≡ parts.place = at ∙ ap (λ (n : ℕ). moved n parts.place) none in
      let observed : place_for parts.job (job_digest parts.job) before ≡ (place.slot, place.generation) = first ∙ ap (λ (p : Place). (p.slot, p.generation)) (sym here) in
      (newest parts.job 2 (job_digest parts.job) before after place.slot place.generation outcomes observed sound fit slot_bytes (last ∙ s.last_unsaved none)).newest
  newest_written (suc n) some_saves =
      let save = s.last_saved (omega (arith, some_saves)) in
      let old = by_id (total parts.job) (booked parts (up_to_save (saves_made l) l)) in
      let earlier = (place.generation + 2) % 3 in
      let is : other_stored after place.slot ≡ Some (checkpoint 2 (job_digest parts.job) earlier old) = other_is after place.slot slot ∙ last ∙ save.bytes in
      let valid : generation_of (slot_of parts.job (job_digest parts.job) (other_stored after place.slot)) ≡ Some earlier =
      ap (λ (q : Stored). generation_of (slot_of parts.job (job_digest parts.job) q)) is
      ∙ ap generation_of (ours parts.job (checkpoint 2 (job_digest parts.job) earlier old) 2 (job_digest parts.job) earlier old save.sound (saved_fit parts plan l (saves_made l) of_todo)) in
      (fresh parts.job fit).later earlier valid (after_before place.generation generation)

module _ (newest : SavedSlotsAreNewest) (ours : CheckpointsAreOurs) (parts : Parts) (plan : IsPlan parts) (l : List Entry) (t i : ℕ) where
  abbrev more : List Entry
  more = l ++ post_of t i true ∷ []

  abbrev all_of : List Entry → List Outcome
  all_of posted = by_id (total parts.job) (booked parts posted)

  abbrev saved_bytes : ℕ → List Entry → List ℕ
  saved_bytes generation posted = checkpoint 2 (job_digest parts.job) generation (all_of posted)

  module _ (before now after : Pair) (place : Place) (slot : place.slot < 2) (generation : place.generation < 3) (at : place ≡ moved (saves_made l) parts.place)
      (first : place_for parts.job (job_digest parts.job) before ≡ (parts.place.slot, parts.place.generation))
      (of_todo : (id : ℕ) → times id (ids_of l) ≤ times id parts.todo) (fit : list_all (fits parts.job) (all_of more) ≡ true)
      (sound : IsCheckpoint (saved_bytes place.generation more) 2 (job_digest parts.job) place.generation (all_of more))
      (slot_bytes : stored after place.slot ≡ Some (saved_bytes place.generation more)) (last : stored after (1 - place.slot) ≡ stored now (1 - place.slot))
      (fresh : IsNewestForFitJobs (job_digest parts.job) place.slot place.generation (all_of more) after) (s : SlotsAs parts before now place l) where
    pub saved_slots : SlotsAs parts before after (next_place place) more
    saved_slots =
        let every = parts.save_every in
        let count : saves_made more ≡ saves_made l + 1 = saves-push l (post_of t i true) in
        let back : 1 - (1 - place.slot) ≡ place.slot = twice_other place.slot slot in
        let saved_all : up_to_save (saves_made more) more ≡ more = up_to_save-all l t i (saves_made more) count in
        let fewer : saves_made more - 1 ≡ saves_made l = omega (arith, count) in
        let saved_before : up_to_save (saves_made more - 1) more ≡ up_to_save (saves_made l) l =
        ap (λ (n : ℕ). up_to_save n more) fewer ∙ up_to_save-kept l (post_of t i true) (saves_made l) (omega arith) in
        record {
          last_unsaved = λ none. absurd (omega (arith, none, count));
          last_saved = λ some_save.
              subst (λ (q : ℕ × List Entry × Stored). IsSaveOf parts q.0 q.1 q.2)
              (λ k. (sym (before_next place.generation generation) k, sym saved_all k, stored after (sym back k)))
              (record { bytes = slot_bytes; sound = sound });
          next_unsaved = λ none few. last ∙ s.last_unsaved (omega (arith, few, count));
          next_saved = λ none many.
              subst (λ (q : ℕ × List Entry × Stored). IsSaveOf parts q.0 q.1 q.2)
              (λ k. (sym (two_before_next place.generation generation) k, sym saved_before k, sym last k))
              (s.last_saved (omega (arith, many, count)));
          newest = λ ends. newest_written newest ours parts plan l before now after place slot generation at first of_todo (all_of more) fit sound slot_bytes last fresh s (saves_made l) refl ∙ ap (λ (n : ℕ). Some n) (sym back);
        }
