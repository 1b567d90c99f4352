-- The saves of a desk are correct and follow each other.
use Rattle.std.proofs.Common.{◌≡◌, ℕ, ◌+◌, ◌-◌, ◌%◌, ◌≤◌, Bool, true, false, cond, List, [], ◌∷◌, ◌++◌, map, refl, sym, ap, ◌∙◌, subst, append_assoc, arith}
use Rattle.std.specs.List.{All}
use Rattle.std.proofs.lemmas.Bool.{true≢false}
use Rattle.std.proofs.lemmas.List.{map-append}
use Rattle.std.specs.Prelude.{◌==◌}
use Rattle.std.proofs.lemmas.List.Sums.{sum_by-append}
use Rattle.std.proofs.lemmas.List.Elements.{All-cons, All-head, All-nil, All-tail}
use Rattle.audit_model.specs.Attempts.{Try}
use Rattle.audit_model.specs.Run.{IsRight, fits, total}
use Rattle.audit_model.specs.Times.{times}
use Rattle.audit_statement.specs.Checkpoint.{job_digest}
use Rattle.audit_statement.specs.Histories.{AreInTurn, IsRightSave, IsSaveAt}
use Rattle.ckpt_store.specs.Laws.{SavesKeepTheNewest, SavesLeaveConsistentSlots}
use Rattle.audit_statement.specs.Draw.{draw}
use Rattle.tally_desk.specs.declared.entry.Entry.{Entry}
use Rattle.tally_desk.specs.Entries.{posted_id, ids_of, is_due, saves_made}
use Rattle.tally_desk.specs.Homes.{IsSound, Made, booked, made_after, made_with, attempts, try_made}
use Rattle.audit_statement.specs.InOrder.{moved}
use Rattle.tally_desk.specs.Outlasting.{RunStopsKeepTheNewest, RunStopsLeaveConsistentSlots}
use Rattle.tally_desk.specs.Parts.{IsPlan, Parts}
use Rattle.tally_desk.proofs.Booking.{booked_fit, by_id_fit}
use Rattle.tally_desk.proofs.Marking.{next_turn}
use Rattle.tally_desk.proofs.Righting.{saved_outcomes_are_right}

module _ (parts : Parts) (plan : IsPlan parts) where
  -- ---- correct saves

  abbrev RightTry : Try → Type 0
  RightTry t = IsRightSave parts.job (draw parts.job.setting.key) (job_digest parts.job) t.bytes

  -- the posts before another are posts of ids to do
  fewer : (earlier posted : List Entry) (e : Entry) → ((id : ℕ) → times id (ids_of (earlier ++ e ∷ posted)) ≤ times id parts.todo)
      → (id : ℕ) → times id (ids_of (earlier ++ e ∷ [])) ≤ times id parts.todo
  fewer earlier posted e of_todo id =
      let parted : ids_of (earlier ++ e ∷ posted) ≡ ids_of (earlier ++ e ∷ []) ++ ids_of posted =
      ap ids_of (sym (append_assoc earlier (e ∷ []) posted)) ∙ map-append posted_id (earlier ++ e ∷ []) posted in
      let sum = ap (times id) parted ∙ sum_by-append (λ (y : ℕ). cond (y == id) 1 0) (ids_of (earlier ++ e ∷ [])) (ids_of posted) in
      omega (arith, of_todo id, sum)

  right_made : IsRight parts.job (draw parts.job.setting.key) parts.initial_outcomes → (earlier : List Entry) (e : Entry)
      → ((id : ℕ) → times id (ids_of (earlier ++ e ∷ [])) ≤ times id parts.todo) → IsSound parts.job (made_with parts earlier e) → RightTry (try_made parts.job (made_with parts earlier e))
  right_made initial_outcomes earlier e of_todo sound = record {
    version = 2;
    generation = (made_with parts earlier e).generation;
    outcomes = (made_with parts earlier e).outcomes;
    sound = sound;
    fit = by_id_fit (fits parts.job) (total parts.job) (booked parts (earlier ++ e ∷ [])) (booked_fit parts plan (earlier ++ e ∷ []) of_todo);
    right = saved_outcomes_are_right parts (earlier ++ e ∷ []) plan of_todo initial_outcomes;
  }

  right_attempts : IsRight parts.job (draw parts.job.setting.key) parts.initial_outcomes → (posted earlier : List Entry)
      → ((id : ℕ) → times id (ids_of (earlier ++ posted)) ≤ times id parts.todo) → All (IsSound parts.job) (made_after parts earlier posted)
      → All RightTry (map (try_made parts.job) (made_after parts earlier posted))
  right_attempts initial_outcomes [] earlier of_todo sound = All-nil RightTry
  right_attempts initial_outcomes (e ∷ posted) earlier of_todo sound =
      by (is_due parts.save_every e) sound (right_attempts initial_outcomes posted (earlier ++ e ∷ []) (λ id. subst (λ (l : List Entry). times id (ids_of l) ≤ times id parts.todo) (sym (append_assoc earlier (e ∷ []) posted)) (of_todo id)))
    where
      by : (b : Bool) → All (IsSound parts.job) (cond b (made_with parts earlier e ∷ []) [] ++ made_after parts (earlier ++ e ∷ []) posted)
          → (All (IsSound parts.job) (made_after parts (earlier ++ e ∷ []) posted) → All RightTry (map (try_made parts.job) (made_after parts (earlier ++ e ∷ []) posted)))
          → All RightTry (map (try_made parts.job) (cond b (made_with parts earlier e ∷ []) [] ++ made_after parts (earlier ++ e ∷ []) posted))
      by false all later = later all
      by true all later =
          let m = made_with parts earlier e in
          let rest = made_after parts (earlier ++ e ∷ []) posted in
          All-cons RightTry (try_made parts.job m) (map (try_made parts.job) rest)
          (right_made initial_outcomes earlier e (fewer earlier posted e of_todo) (All-head (IsSound parts.job) m rest all))
          (later (All-tail (IsSound parts.job) m rest all))

  -- ---- saves in turn

  abbrev InTurnFrom : ℕ → List Made → Type 0
  InTurnFrom n ms = AreInTurn parts.job (job_digest parts.job) (moved n parts.place).slot (moved n parts.place).generation (map (try_made parts.job) ms)

  save_at : (earlier : List Entry) (e : Entry) → ((id : ℕ) → times id (ids_of (earlier ++ e ∷ [])) ≤ times id parts.todo) → IsSound parts.job (made_with parts earlier e)
      → IsSaveAt parts.job (job_digest parts.job) (moved (saves_made earlier) parts.place).slot (moved (saves_made earlier) parts.place).generation (try_made parts.job (made_with parts earlier e))
  save_at earlier e of_todo sound = record {
    slot = refl;
    version = 2;
    outcomes = (made_with parts earlier e).outcomes;
    bytes = refl;
    sound = sound;
    fit = by_id_fit (fits parts.job) (total parts.job) (booked parts (earlier ++ e ∷ [])) (booked_fit parts plan (earlier ++ e ∷ []) of_todo);
  }

  -- the place after one more post
  turn_rest : (earlier : List Entry) (e : Entry) (rest : List Made) (s : Bool) → e.saved ≡ s → InTurnFrom (saves_made (earlier ++ e ∷ [])) rest
      → (let at = moved (saves_made earlier) parts.place in
      AreInTurn parts.job (job_digest parts.job) (cond s (1 - at.slot) at.slot) (cond s ((at.generation + 1) % 3) at.generation) (map (try_made parts.job) rest))
  turn_rest earlier e rest true is later = subst (λ (n : ℕ). InTurnFrom n rest) (next_turn earlier e true is) later
  turn_rest earlier e rest false is later = subst (λ (n : ℕ). InTurnFrom n rest) (next_turn earlier e false is) later

  turn_with : (earlier : List Entry) (e : Entry) (rest : List Made) (b : Bool) → is_due parts.save_every e ≡ b → (e.saved ≡ true → is_due parts.save_every e ≡ true)
      → ((id : ℕ) → times id (ids_of (earlier ++ e ∷ [])) ≤ times id parts.todo)
      → All (IsSound parts.job) (cond b (made_with parts earlier e ∷ []) [] ++ rest)
      → (All (IsSound parts.job) rest → InTurnFrom (saves_made (earlier ++ e ∷ [])) rest)
      → InTurnFrom (saves_made earlier) (cond b (made_with parts earlier e ∷ []) [] ++ rest)
  turn_with earlier e rest false not_due due of_todo sound later =
      subst (λ (n : ℕ). InTurnFrom n rest) (next_turn earlier e false (unsaved e.saved due)) (later sound)
    where
      unsaved : (s : Bool) → (s ≡ true → is_due parts.save_every e ≡ true) → s ≡ false
      unsaved true h = absurd (true≢false (sym (h refl) ∙ not_due))
      unsaved false h = refl
  turn_with earlier e rest true is_one due of_todo sound later = (
    save_at earlier e of_todo (All-head (IsSound parts.job) (made_with parts earlier e) rest sound),
    turn_rest earlier e rest e.saved refl (later (All-tail (IsSound parts.job) (made_with parts earlier e) rest sound)),
  )

  in_turn : (posted earlier : List Entry) → ((id : ℕ) → times id (ids_of (earlier ++ posted)) ≤ times id parts.todo)
      → All (IsSound parts.job) (made_after parts earlier posted)
      → All (λ e. e.saved ≡ true → is_due parts.save_every e ≡ true) posted → InTurnFrom (saves_made earlier) (made_after parts earlier posted)
  in_turn [] earlier of_todo sound due = tt
  in_turn (e ∷ posted) earlier of_todo sound due =
      turn_with earlier e (made_after parts (earlier ++ e ∷ []) posted) (is_due parts.save_every e) refl
      (All-head (λ (x : Entry). x.saved ≡ true → is_due parts.save_every x ≡ true) e posted due) (fewer earlier posted e of_todo) sound
      (λ rest_sound. in_turn posted (earlier ++ e ∷ [])
      (λ id. subst (λ (l : List Entry). times id (ids_of l) ≤ times id parts.todo) (sym (append_assoc earlier (e ∷ []) posted)) (of_todo id))
      rest_sound (All-tail (λ (x : Entry). x.saved ≡ true → is_due parts.save_every x ≡ true) e posted due))

-- the saves of a desk are correct saves in turn, which leave consistent slots
pub stops_leave_consistent_slots : SavesLeaveConsistentSlots → RunStopsLeaveConsistentSlots
stops_leave_consistent_slots law parts posted before after n posts initial_outcomes out consistent =
    law parts.job (draw parts.job.setting.key) (job_digest parts.job) before after (attempts parts posted) n
    (right_attempts parts posts.plan initial_outcomes posted [] posts.of_todo posts.sound) out consistent

-- the saves of a desk keep the newest slot or make a newer one
pub stops_keep_the_newest : SavesKeepTheNewest → RunStopsKeepTheNewest
stops_keep_the_newest law parts posted before after n posts first out =
    law parts.job (job_digest parts.job) before after parts.place.slot parts.place.generation (attempts parts posted) n first
    (in_turn parts posts.plan posted [] posts.of_todo posts.sound posts.due) out
