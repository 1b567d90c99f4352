-- The save attempts of a run follow each other, and each is a checkpoint of the initial outcomes and of posts.
use Rattle.std.proofs.Common.{◌≡◌, ℕ, ◌+◌, ◌-◌, ◌%◌, ◌≤◌, Bool, true, false, cond, List, [], ◌∷◌, ◌++◌, map, refl, sym, ap, ◌∙◌, subst, append_assoc, arith}
use Rattle.std.specs.List.{All}
use Rattle.std.specs.Prelude.{◌==◌}
use Rattle.std.proofs.lemmas.Bool.{true≢false}
use Rattle.std.proofs.lemmas.List.{append-nil, map-append}
use Rattle.std.proofs.lemmas.List.Sums.{sum_by-append}
use Rattle.std.proofs.lemmas.List.Elements.{All-append, All-cons, All-head, All-nil, All-tail}
use Rattle.audit_model.specs.Attempts.{Try, try_of}
use Rattle.audit_model.specs.Run.{fits, total, by_id}
use Rattle.audit_model.specs.Times.{times}
use Rattle.audit_statement.specs.Checkpoint.{IsCheckpoint, checkpoint, job_digest}
use Rattle.audit_statement.specs.Histories.{AreInTurn, IsSaveAt}
use Rattle.tally_desk.specs.declared.entry.Entry.{Entry}
use Rattle.tally_desk.specs.Desks.{AreDue}
use Rattle.tally_desk.specs.Entries.{posted_id, ids_of, is_due, saves_made}
use Rattle.tally_desk.specs.Homes.{IsSound, Made, booked, made, made_after, made_with, attempts, try_made}
use Rattle.audit_statement.specs.InOrder.{moved}
use Rattle.tally_desk.specs.Parts.{IsPlan, Parts}
use Rattle.tally_desk.proofs.Booking.{booked_fit, by_id_fit}
use Rattle.tally_desk.proofs.Marking.{next_turn}
use Rattle.tally_desk.specs.RunResult.{AreRunAttempts, IsRunTry}

-- all save attempts of a run over a desk: those of its desk, and one of all posts unless the last post saved
abbrev pub rest_attempts : Bool → Bool → Parts → List Entry → List Try
rest_attempts true succeeded parts posted = []
rest_attempts false succeeded parts posted =
    let place = moved (saves_made posted) parts.place in
    try_of place.slot (checkpoint 2 (job_digest parts.job) place.generation (by_id (total parts.job) (booked parts posted))) succeeded ∷ []

abbrev pub run_attempts : Bool → Bool → Parts → List Entry → List Try
run_attempts last_saved succeeded parts posted = attempts parts posted ++ rest_attempts last_saved succeeded parts posted

module _ (parts : Parts) (plan : IsPlan parts) where
  abbrev InTurnFrom : ℕ → List Try → Type 0
  InTurnFrom n ts = AreInTurn parts.job (job_digest parts.job) (moved n parts.place).slot (moved n parts.place).generation ts

  -- posts of ids to do
  abbrev OfTodo : List Entry → Type 0
  OfTodo posted = (id : ℕ) → times id (ids_of posted) ≤ times id parts.todo

  abbrev Due : Entry → Type 0
  Due e = e.saved ≡ true → is_due parts.save_every e ≡ true

  pub fewer : (earlier posted : List Entry) (e : Entry) → OfTodo (earlier ++ e ∷ posted) → OfTodo (earlier ++ e ∷ [])
  fewer earlier posted e of_todo id =
      let parted : ids_of (earlier ++ e ∷ posted) ≡ ids_of (earlier ++ e ∷ []) ++ ids_of posted =
      ap ids_of (sym (append_assoc earlier (e ∷ []) posted)) ∙ map-append posted_id (earlier ++ e ∷ []) posted in
      let sum = ap (times id) parted ∙ sum_by-append (λ (y : ℕ). cond (y == id) 1 0) (ids_of (earlier ++ e ∷ [])) (ids_of posted) in
      omega (arith, of_todo id, sum)

  pub later : (earlier posted : List Entry) (e : Entry) → OfTodo (earlier ++ e ∷ posted) → OfTodo ((earlier ++ e ∷ []) ++ posted)
  later earlier posted e of_todo = subst OfTodo (sym (append_assoc earlier (e ∷ []) posted)) of_todo

  pub sound_rest : (b : Bool) (m : Made) (ms : List Made) → All (IsSound parts.job) (cond b (m ∷ []) [] ++ ms) → All (IsSound parts.job) ms
  sound_rest true m ms sound = All-tail (IsSound parts.job) m ms sound
  sound_rest false m ms sound = sound

  save_at : (earlier : List Entry) (e : Entry) → OfTodo (earlier ++ e ∷ []) → IsSound parts.job (made_with parts earlier e)
      → IsSaveAt parts.job (job_digest parts.job) (moved (saves_made earlier) parts.place).slot (moved (saves_made earlier) parts.place).generation (try_made parts.job (made_with parts earlier e))
  save_at earlier e of_todo sound = record {
    slot = refl;
    version = 2;
    outcomes = (made_with parts earlier e).outcomes;
    bytes = refl;
    sound = sound;
    fit = by_id_fit (fits parts.job) (total parts.job) (booked parts (earlier ++ e ∷ [])) (booked_fit parts plan (earlier ++ e ∷ []) of_todo);
  }

  turn_rest : (earlier : List Entry) (e : Entry) (rest : List Try) (s : Bool) → e.saved ≡ s → InTurnFrom (saves_made (earlier ++ e ∷ [])) rest
      → (let at = moved (saves_made earlier) parts.place in
      AreInTurn parts.job (job_digest parts.job) (cond s (1 - at.slot) at.slot) (cond s ((at.generation + 1) % 3) at.generation) rest)
  turn_rest earlier e rest true is goes = subst (λ (n : ℕ). InTurnFrom n rest) (next_turn earlier e true is) goes
  turn_rest earlier e rest false is goes = subst (λ (n : ℕ). InTurnFrom n rest) (next_turn earlier e false is) goes

  -- the attempts of the run with one more post
  turn_with : (earlier : List Entry) (e : Entry) (ms : List Made) (rest : List Try) (b : Bool) → is_due parts.save_every e ≡ b → Due e → OfTodo (earlier ++ e ∷ [])
      → All (IsSound parts.job) (cond b (made_with parts earlier e ∷ []) [] ++ ms)
      → InTurnFrom (saves_made (earlier ++ e ∷ [])) (map (try_made parts.job) ms ++ rest)
      → InTurnFrom (saves_made earlier) (map (try_made parts.job) (cond b (made_with parts earlier e ∷ []) [] ++ ms) ++ rest)
  turn_with earlier e ms rest false not_due due of_todo sound goes =
      subst (λ (n : ℕ). InTurnFrom n (map (try_made parts.job) ms ++ rest)) (next_turn earlier e false (unsaved e.saved due)) goes
    where
      unsaved : (s : Bool) → (s ≡ true → is_due parts.save_every e ≡ true) → s ≡ false
      unsaved true h = absurd (true≢false (sym (h refl) ∙ not_due))
      unsaved false h = refl
  turn_with earlier e ms rest true is_one due of_todo sound goes = (
    save_at earlier e of_todo (All-head (IsSound parts.job) (made_with parts earlier e) ms sound),
    turn_rest earlier e (map (try_made parts.job) ms ++ rest) e.saved refl goes,
  )

  in_turn_then : (posted earlier : List Entry) (rest : List Try) → OfTodo (earlier ++ posted) → All (IsSound parts.job) (made_after parts earlier posted)
      → All Due posted → InTurnFrom (saves_made (earlier ++ posted)) rest → InTurnFrom (saves_made earlier) (map (try_made parts.job) (made_after parts earlier posted) ++ rest)
  in_turn_then [] earlier rest of_todo sound due goes = subst (λ (l : List Entry). InTurnFrom (saves_made l) rest) (append-nil earlier) goes
  in_turn_then (e ∷ posted) earlier rest of_todo sound due goes =
      let ms = made_after parts (earlier ++ e ∷ []) posted in
      turn_with earlier e ms rest (is_due parts.save_every e) refl (All-head Due e posted due) (fewer earlier posted e of_todo) sound
      (in_turn_then posted (earlier ++ e ∷ []) rest (later earlier posted e of_todo)
      (sound_rest (is_due parts.save_every e) (made_with parts earlier e) ms sound) (All-tail Due e posted due)
      (subst (λ (l : List Entry). InTurnFrom (saves_made l) rest) (sym (append_assoc earlier (e ∷ []) posted)) goes))

  -- ---- each attempt

  one_try : (earlier : List Entry) (e : Entry) → OfTodo (earlier ++ e ∷ []) → IsSound parts.job (made_with parts earlier e) → IsRunTry parts (try_made parts.job (made_with parts earlier e))
  one_try earlier e of_todo sound = record {
    generation = (made_with parts earlier e).generation;
    part = earlier ++ e ∷ [];
    of_todo = of_todo;
    bytes_are = refl;
    sound = sound;
  }

  attempts_with : (earlier : List Entry) (e : Entry) (ms : List Made) (b : Bool) → OfTodo (earlier ++ e ∷ []) → All (IsSound parts.job) (cond b (made_with parts earlier e ∷ []) [] ++ ms)
      → All (IsRunTry parts) (map (try_made parts.job) ms) → All (IsRunTry parts) (map (try_made parts.job) (cond b (made_with parts earlier e ∷ []) [] ++ ms))
  attempts_with earlier e ms false of_todo sound goes = goes
  attempts_with earlier e ms true of_todo sound goes =
      All-cons (IsRunTry parts) (try_made parts.job (made_with parts earlier e)) (map (try_made parts.job) ms)
      (one_try earlier e of_todo (All-head (IsSound parts.job) (made_with parts earlier e) ms sound)) goes

  each_try : (posted earlier : List Entry) → OfTodo (earlier ++ posted) → All (IsSound parts.job) (made_after parts earlier posted)
      → All (IsRunTry parts) (map (try_made parts.job) (made_after parts earlier posted))
  each_try [] earlier of_todo sound = All-nil (IsRunTry parts)
  each_try (e ∷ posted) earlier of_todo sound =
      let ms = made_after parts (earlier ++ e ∷ []) posted in
      attempts_with earlier e ms (is_due parts.save_every e) (fewer earlier posted e of_todo) sound
      (each_try posted (earlier ++ e ∷ []) (later earlier posted e of_todo) (sound_rest (is_due parts.save_every e) (made_with parts earlier e) ms sound))

  -- ---- the last save

  abbrev IsSoundAt : ℕ → List Entry → Type 0
  IsSoundAt generation posted =
      IsCheckpoint (checkpoint 2 (job_digest parts.job) generation (by_id (total parts.job) (booked parts posted))) 2 (job_digest parts.job) generation (by_id (total parts.job) (booked parts posted))

  pub are_run_attempts : (last_saved succeeded : Bool) (posted : List Entry) → OfTodo posted → All (IsSound parts.job) (made parts posted) → AreDue parts posted
      → (last_saved ≡ false → IsSoundAt (moved (saves_made posted) parts.place).generation posted) → AreRunAttempts parts (run_attempts last_saved succeeded parts posted)
  are_run_attempts last_saved succeeded posted of_todo sound due rest_sound = record {
    in_turn = in_turn_then posted [] (rest_attempts last_saved succeeded parts posted) of_todo sound due (rest_in_turn last_saved rest_sound);
    each = All-append (IsRunTry parts) (attempts parts posted) (rest_attempts last_saved succeeded parts posted) (each_try posted [] of_todo sound) (rest_each last_saved rest_sound);
  }
    where
      rest_in_turn : (b : Bool) → (b ≡ false → IsSoundAt (moved (saves_made posted) parts.place).generation posted) → InTurnFrom (saves_made posted) (rest_attempts b succeeded parts posted)
      rest_in_turn true h = tt
      rest_in_turn false h = (
        record {
          slot = refl;
          version = 2;
          outcomes = by_id (total parts.job) (booked parts posted);
          bytes = refl;
          sound = h refl;
          fit = by_id_fit (fits parts.job) (total parts.job) (booked parts posted) (booked_fit parts plan posted of_todo);
        },
        tt,
      )

      rest_each : (b : Bool) → (b ≡ false → IsSoundAt (moved (saves_made posted) parts.place).generation posted) → All (IsRunTry parts) (rest_attempts b succeeded parts posted)
      rest_each true h = All-nil (IsRunTry parts)
      rest_each false h =
          All-cons (IsRunTry parts) _ []
          (record { generation = (moved (saves_made posted) parts.place).generation; part = posted; of_todo = of_todo; bytes_are = refl; sound = h refl }) (All-nil (IsRunTry parts))
