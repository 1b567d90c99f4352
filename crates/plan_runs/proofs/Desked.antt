-- The result of a run that saved while it walked, in the terms of the contract of `audit`.
use Rattle.std.proofs.Common.{◌≡◌, ◌⊎◌, inl, inr, ℕ, ◌+◌, ◌-◌, ◌*◌, ◌%◌, ◌^◌, ◌<◌, ◌≤◌, ◌==◌, min, cond, List, [], ◌∷◌, ◌++◌, length, map, Option, Some, None, Result, Ok, Err, refl, sym, subst, ap, ◌∙◌, append_assoc, All, Contains, IsPermutation, arith}
use Rattle.std.specs.Prelude.{IsFalse, IsTrue, OnOk}
use Rattle.std.specs.List.{list_all}
use Rattle.std.proofs.lemmas.List.{append-nil, length-map}
use Rattle.std.proofs.lemmas.List.Elements.{Contains-append_right, Contains-get_or}
use Rattle.std.proofs.lemmas.List.Sorted.{IsPermutation-append_right, IsPermutation-map, IsPermutation-sym, IsPermutation-trans, length_permutation, sum_by-IsPermutation}
use Rattle.audit_io.specs.declared.source.Failed.{Failed}
use Rattle.audit_model.specs.Pair.{Pair, Stored, stored}
use Rattle.audit_model.specs.State.{KeeperState, LoadFaults}
use Rattle.audit_model.specs.Attempts.{Try, attempted_all}
use Rattle.audit_model.specs.declared.outcome.Outcome.{Outcome}
use Rattle.audit_model.specs.Job.{Job}
use Rattle.audit_model.specs.Run.{fits, has_id, run_ids, total, by_id}
use Rattle.audit_model.specs.Trajectory.{outcome}
use Rattle.audit_model.specs.Times.{times}
use Rattle.audit_model.proofs.Times.{cut_at}
use Rattle.audit_statement.specs.Checkpoint.{IsCheckpoint, checkpoint, job_digest}
use Rattle.audit_statement.specs.Slots.{ours, slot_of}
use Rattle.audit_model.specs.declared.place.Place.{Place}
use Rattle.ckpt_store.specs.Fitting.{AreFit}
use Rattle.audit_statement.specs.Histories.{AreInTurn}
use Rattle.ckpt_store.specs.Laws.{CheckpointsAreOurs}
use Rattle.tally_desk.specs.Holding as pool
use Rattle.audit_statement.specs.InOrder.{AreSavesOf, failed_of, moved, saves_of}
use Rattle.tally_desk.specs.RunResult.{HasRun, IsRunTry, KeepsSome}
use Rattle.audit_statement.specs.Draw.{draw}
use Rattle.tally_desk.specs.declared.entry.Entry.{Entry}
use Rattle.tally_desk.specs.Entries.{posted_id, ids_of}
use Rattle.audit_model.specs.Observed.{IfBothObserved, IfObserved}
use Rattle.tally_desk.specs.Homes.{IsSaveOf, booked}
use Rattle.tally_desk.specs.InTurn.{IsPartSave}
use Rattle.tally_desk.specs.InTurn as desk
use Rattle.tally_desk.specs.Parts.{IsPlan, Parts}
use Rattle.tally_desk.proofs.Booking.{booked_fit, by_id_fit}
use Rattle.tally_desk.proofs.Todo.{todo_missing, todo_within}
use Rattle.tally_desk.proofs.Slotting.{moved_generation}
use Rattle.audit_statement.specs.Endings.{HoldsPart, IsNewest, IsInitialOrFound, IsPartly, IsTryOf, KeepsASlot, SavesInTurn, SavesInTurnAt, AttemptsOf, AttemptsObserved, count_of_saves, first_place, full_of, last_place, place_of}
use Rattle.audit_laws.specs.Runs.{AreAll, IsRunJob}
use Rattle.plan_runs.specs.Ending.{SavesLast}
use Rattle.claim_counter.proofs.Completing.{AreMapped, by_id-full}
use Rattle.claim_counter.specs.Walks.{found}
use Rattle.audit_laws.proofs.Running.{are_all, rising_apart}
use Rattle.plan_runs.proofs.Saved.{newest_below, place_is_beside}

-- a relation between slots follows from a property of the first, if they are known
known_map : (a b : Option Pair) (R : Pair → Type 0) (P Q : Pair → Pair → Type 0) → IfObserved a R → ((p q : Pair) → R p → P p q → Q p q) → IfBothObserved a b P → IfBothObserved a b Q
known_map None b R P Q r f h = tt
known_map (Some p) None R P Q r f h = h
known_map (Some p) (Some q) R P Q r f h = f p q r h

-- a consequence of an Ok result
on_ok : {A B : Type 0} (result : Result (Unit {0}) Failed) → (A → B) → OnOk result A → OnOk result B
on_ok (Ok done) f a = f a
on_ok (Err failed) f a = tt

-- more attempts are appended
attempted_some : (observed : List Try) (attempts : List Try) → attempted_all (Some observed) attempts ≡ Some (observed ++ attempts)
attempted_some observed [] = ap (λ (ts : List Try). Some ts) (sym (append-nil observed))
attempted_some observed (t ∷ attempts) = attempted_some (observed ++ t ∷ []) attempts ∙ ap (λ (ts : List Try). Some ts) (append_assoc observed (t ∷ []) attempts)

-- a number with a positive count is in the list
contains_at : (x : ℕ) (xs : List ℕ) → 0 < times x xs → Contains xs x
contains_at x xs some_here =
    let cut = cut_at x xs some_here in
    subst (λ (ys : List ℕ). Contains ys x) (sym cut.2) (Contains-append_right cut.0 (x ∷ cut.1) x (Contains-get_or (x ∷ cut.1) 0 x (omega arith)))

module _ (parts : Parts) (plan : IsPlan parts) (todo_is : parts.todo ≡ run_ids parts.job parts.initial_outcomes parts.job.setting.budget) (every_is : parts.save_every ≡ parts.job.setting.save_every)
    (ours_law : CheckpointsAreOurs) (hold : pool.SavesHoldParts) where
  abbrev job : Job
  job = parts.job

  abbrev initial_outcomes : List Outcome
  initial_outcomes = parts.initial_outcomes

  abbrev saved_of : List Entry → List Outcome
  saved_of part = by_id (total job) (booked parts part)

  is_found : (o : Outcome) → o ≡ found job o.id → o ≡ outcome job (draw job.setting.key) o.id
  unfolding found
  is_found o is = is

  -- ---- the contents of a save

  of_desk : (o : Outcome) → Contains initial_outcomes o ⊎ ((0 < times o.id parts.todo) × (o ≡ found job o.id)) → IsInitialOrFound job initial_outcomes o
  of_desk o (inl has) = inl has
  of_desk o (inr (to_do, is)) = inr (
    todo_missing parts plan o.id to_do,
    todo_within parts plan o.id to_do,
    subst (λ (ids : List ℕ). Contains ids o.id) todo_is (contains_at o.id parts.todo to_do),
    is_found o is,
  )

  holds_part : (count : ℕ) (saved : List Outcome) → pool.ContainsInitialAndPart parts count saved → HoldsPart job initial_outcomes count saved
  holds_part count saved h = record { each = λ k d inside. of_desk _ (h.each k d inside); initial_kept = h.initial_kept; counted = h.counted }

  part_fits : (part : List Entry) → ((id : ℕ) → times id (ids_of part) ≤ times id parts.todo) → IsTrue (list_all (fits job) (saved_of part))
  part_fits part of_todo = by_id_fit (fits job) (total job) (booked parts part) (booked_fit parts plan part of_todo)

  read_as : (generation : ℕ) (part : List Entry) (slot : Stored) → ((id : ℕ) → times id (ids_of part) ≤ times id parts.todo) → IsSaveOf parts generation part slot
      → slot_of job (job_digest job) slot ≡ ours generation (saved_of part)
  read_as generation part slot of_todo s =
      ap (slot_of job (job_digest job)) s.bytes
      ∙ ours_law job (checkpoint 2 (job_digest job) generation (saved_of part)) 2 (job_digest job) generation (saved_of part) s.sound (part_fits part of_todo)

  partly : (generation count : ℕ) (slot : Stored) → IsPartSave parts generation count slot → IsPartly job initial_outcomes count generation slot
  partly generation count slot s = record {
    saved = saved_of s.part;
    bytes_are = s.saved.bytes;
    sound = s.saved.sound;
    slot_is = read_as generation s.part slot s.of_todo s.saved;
    holds = holds_part count (saved_of s.part) (subst (λ (n : ℕ). pool.ContainsInitialAndPart parts n (saved_of s.part)) s.counted (hold parts s.part plan s.of_todo));
  }

  -- ---- a slot is unchanged

  abbrev IsAt : Pair → Type 0
  IsAt p = (parts.place.slot, parts.place.generation) ≡ place_of job p

  back : (n : ℕ) → (n ≡ 0) ⊎ (n ≡ 1) → 1 - (1 - n) ≡ n
  back n (inl e) = omega (arith, e)
  back n (inr e) = omega (arith, e)

  keeps_a_slot : (p q : Pair) → IsAt p → KeepsSome parts p q → KeepsASlot job initial_outcomes p q
  keeps_a_slot p q at (inl same) n e =
      let first = slot_of job (job_digest job) p.zero_slot in
      let second = slot_of job (job_digest job) p.one_slot in
      let beside : parts.place.slot ≡ 1 - n = ap (λ (x : ℕ × ℕ). x.0) at ∙ place_is_beside first second n e in
      let here : 1 - parts.place.slot ≡ n = ap (λ (k : ℕ). 1 - k) beside ∙ back n (newest_below first second n e) in
      (n, inl (subst (λ (k : ℕ). stored q k ≡ stored p k) here same))
  keeps_a_slot p q at (inr (m, (generation, (count, s)))) n e = (m, inr (count, (generation, partly generation count (stored q m) s)))

  -- ---- saves follow each other

  module _ (posted : List Entry) (all : IsPermutation (ids_of posted) parts.todo) (whole : saved_of posted ≡ full_of job initial_outcomes) where
    of_todo : (id : ℕ) → times id (ids_of posted) ≤ times id parts.todo
    of_todo id = let same = sum_by-IsPermutation (λ (y : ℕ). cond (y == id) 1 0) (ids_of posted) parts.todo all in omega (arith, same)

    count_is : length posted ≡ length (run_ids job initial_outcomes job.setting.budget)
    count_is = sym (length-map posted posted_id) ∙ sym (length_permutation (ids_of posted) parts.todo all) ∙ ap length todo_is

    in_turn_at : (p q : Pair) (at : Place) (count : ℕ) → desk.RunSavesInTurnAt parts p q posted at count → SavesInTurnAt job initial_outcomes p q at count
    in_turn_at p q at count s = record {
      last = s.last.bytes ∙ ap (λ (os : List Outcome). Some (checkpoint 2 (job_digest job) at.generation os)) whole;
      last_is = read_as at.generation posted (stored q at.slot) of_todo s.last ∙ ap (ours at.generation) whole;
      newest_is = s.newest;
      only = s.only;
      before_last = λ more.
          subst (λ (v : ℕ). IsPartly job initial_outcomes ((count - 1) * v) ((at.generation + 2) % 3) (stored q (1 - at.slot))) every_is
          (partly ((at.generation + 2) % 3) ((count - 1) * parts.save_every) (stored q (1 - at.slot)) (s.before_last more));
    }

    saves_are : saves_of (length posted) parts.save_every ≡ count_of_saves job initial_outcomes
    saves_are i = saves_of (count_is i) (every_is i)

    place_is : (p : Pair) → IsAt p → desk.last_save_place parts posted ≡ last_place job initial_outcomes p
    place_is p at i = moved (saves_are i - 1) (record { slot = (at i).0; generation = (at i).1 })

    in_turn : (p q : Pair) → IsAt p → desk.RunSavesInTurn parts p q posted → SavesInTurn job initial_outcomes p q
    in_turn p q at s =
        subst (λ (x : Place × ℕ). SavesInTurnAt job initial_outcomes p q x.0 x.1) (λ i. (place_is p at i, saves_are i))
        (in_turn_at p q (desk.last_save_place parts posted) (saves_of (length posted) parts.save_every) s)

  newest_in : (p q : Pair) → IsAt p → SavesInTurn job initial_outcomes p q → IsNewest job (full_of job initial_outcomes) q
  newest_in p q at s =
      let first : (place_of job p).1 < 3 = subst (λ (x : ℕ × ℕ). x.1 < 3) at plan.generation in
      let last = last_place job initial_outcomes p in
      (last.slot, s.newest_is, (last.generation, moved_generation (count_of_saves job initial_outcomes - 1) (record { slot = (place_of job p).0; generation = (place_of job p).1 }) first, s.last))

  -- ---- the save attempts

  of_try : (t : Try) → IsRunTry parts t → IsTryOf job initial_outcomes t
  of_try t s = record {
    generation = s.generation;
    count = length s.part;
    saved = saved_of s.part;
    sound = subst (λ (bytes : List ℕ). IsCheckpoint bytes 2 (job_digest job) s.generation (saved_of s.part)) (sym s.bytes_are) s.sound;
    holds = holds_part (length s.part) (saved_of s.part) (hold parts s.part plan s.of_todo);
  }

  module _ (right : pool.RunAttemptsAreRight) (attempts : List Try) (turn : AreInTurn job (job_digest job) parts.place.slot parts.place.generation attempts) (each : All (IsRunTry parts) attempts)
      (posted : List Entry) (all : IsPermutation (ids_of posted) parts.todo) (in_order : AreSavesOf job initial_outcomes parts.save_every parts.place (ids_of posted) attempts)
      (faults_now : ℕ) (covered : min (parts.keeper.save_faults + failed_of attempts) (2 ^ 64 - 1) ≤ faults_now) where
    exactly : (p : Pair) → IsAt p → AreSavesOf job initial_outcomes job.setting.save_every (first_place job p) (ids_of posted) attempts
    exactly p at =
        subst (λ (x : ℕ × Place). AreSavesOf job initial_outcomes x.0 x.1 (ids_of posted) attempts) (λ i. (every_is i, record { slot = (at i).0; generation = (at i).1 })) in_order

    attempts_of : (p : Pair) → IsAt p → (observed now : List Try) → now ≡ observed ++ attempts → AttemptsOf job initial_outcomes p parts.keeper.save_faults faults_now observed now
    attempts_of p at observed now is = record {
      attempts = attempts;
      appended = is;
      in_turn = subst (λ (x : ℕ × ℕ). AreInTurn job (job_digest job) x.0 x.1 attempts) at turn;
      each = λ k d inside. of_try _ (each k d inside);
      exact = record { walked = ids_of posted; all_walked = subst (IsPermutation (ids_of posted)) todo_is all; exactly = exactly p at };
      covered = covered;
      right = λ initial_outcomes_right k d inside. right parts _ plan initial_outcomes_right (each k d inside);
    }

    attempts_by : (p : Pair) → IsAt p → (a b : Option (List Try)) → b ≡ attempted_all a attempts → IfBothObserved a b (AttemptsOf job initial_outcomes p parts.keeper.save_faults faults_now)
    attempts_by p at None b is = tt
    attempts_by p at (Some observed) None is = none_not (sym (attempted_some observed attempts) ∙ sym is)
      where
        none_not : ◌≡◌ {A = Option (List Try)} (Some (observed ++ attempts)) None → ⊥
        none_not h = cc
    attempts_by p at (Some observed) (Some now) is = attempts_of p at observed now (same_list (is ∙ attempted_some observed attempts))
      where
        same_list : ◌≡◌ {A = Option (List Try)} (Some now) (Some (observed ++ attempts)) → now ≡ observed ++ attempts
        same_list h = cc

    attempts_observed : (slots slots_now : Option Pair) (a b : Option (List Try)) (loads loads_now : LoadFaults) → IfObserved slots IsAt → b ≡ attempted_all a attempts
        → AttemptsObserved job initial_outcomes (record { slots = slots; attempted = a; load_faults = loads; save_faults = parts.keeper.save_faults })
        (record { slots = slots_now; attempted = b; load_faults = loads_now; save_faults = faults_now })
    attempts_observed None slots_now a b loads loads_now at is = tt
    attempts_observed (Some p) slots_now a b loads loads_now at is = attempts_by p at a b is

-- ---- the whole result

module _ (parts : Parts) (keeper_now : KeeperState) (sorted : List Outcome) (result : Result (Unit {0}) Failed)
    (h : HasRun parts keeper_now sorted result) (todo_is : parts.todo ≡ run_ids parts.job parts.initial_outcomes parts.job.setting.budget) where
  abbrev the_job : Job
  the_job = parts.job

  moved_all : IsPermutation (booked parts h.posted) (parts.initial_outcomes ++ map (found parts.job) parts.todo)
  moved_all =
      IsPermutation-append_right parts.initial_outcomes (map (found parts.job) (ids_of h.posted)) (map (found parts.job) parts.todo)
      (IsPermutation-map (found parts.job) (ids_of h.posted) parts.todo h.all)

  pub all_outcomes : AreMapped → IsRunJob parts.job → AreFit parts.job parts.initial_outcomes → All (λ id. id < total parts.job) parts.todo → All (λ id. IsFalse (has_id parts.initial_outcomes id)) parts.todo
      → AreAll parts.job parts.initial_outcomes sorted
  unfolding found
  all_outcomes mapped run fit within absent =
      are_all parts.job run parts.initial_outcomes parts.initial_outcomes parts.todo sorted refl fit todo_is within
      (λ budget ids.
      h.sorted_is
      ∙ by_id-full mapped parts.job parts.initial_outcomes (booked parts h.posted) parts.todo budget (rising_apart parts.initial_outcomes fit.rising) absent ids moved_all)
      (IsPermutation-trans sorted (booked parts h.posted) _ (IsPermutation-sym (booked parts h.posted) sorted h.sorted_all) moved_all) h.rising

  pub saves_last : CheckpointsAreOurs → pool.SavesHoldParts → pool.RunAttemptsAreRight → parts.save_every ≡ parts.job.setting.save_every
      → IfObserved parts.keeper.slots (λ p. (parts.place.slot, parts.place.generation) ≡ place_of parts.job p) → sorted ≡ full_of parts.job parts.initial_outcomes
      → SavesLast parts.job parts.initial_outcomes parts.keeper keeper_now result
  saves_last ours_law hold right every_is placed whole =
      let turns = on_ok result
      (known_map parts.keeper.slots keeper_now.slots (IsAt parts h.plan todo_is every_is ours_law hold) (λ p q. desk.RunSavesInTurn parts p q h.posted) (SavesInTurn parts.job parts.initial_outcomes) placed
      (in_turn parts h.plan todo_is every_is ours_law hold h.posted h.all (sym h.sorted_is ∙ whole))) h.in_turn in
      record {
        kept = known_map parts.keeper.slots keeper_now.slots (IsAt parts h.plan todo_is every_is ours_law hold) (KeepsSome parts) (KeepsASlot parts.job parts.initial_outcomes) placed
            (keeps_a_slot parts h.plan todo_is every_is ours_law hold) h.keeps;
        in_turn = turns;
        newest_is = on_ok result (newest_known parts.keeper.slots keeper_now.slots placed) turns;
        cause = h.cause;
        loads = h.loads;
        attempted = attempts_observed parts h.plan todo_is every_is ours_law hold right h.attempts h.are_attempts.in_turn h.are_attempts.each h.posted h.all h.in_order keeper_now.save_faults h.covered
            parts.keeper.slots keeper_now.slots parts.keeper.attempted keeper_now.attempted parts.keeper.load_faults keeper_now.load_faults placed h.attempted;
      }
    where
      newest_known : (a b : Option Pair) → IfObserved a (λ p. (parts.place.slot, parts.place.generation) ≡ place_of parts.job p) → IfBothObserved a b (SavesInTurn parts.job parts.initial_outcomes)
          → IfBothObserved a b (λ p q. IsNewest parts.job (full_of parts.job parts.initial_outcomes) q)
      newest_known None b at s = tt
      newest_known (Some p) None at s = s
      newest_known (Some p) (Some q) at s = newest_in parts h.plan todo_is every_is ours_law hold p q at s
