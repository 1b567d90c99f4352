-- The saves of a run are exactly those due by the order of its posts.
use Rattle.std.proofs.Common.{◌≡◌, ℕ, suc, ◌+◌, ◌*◌, ◌/◌, ◌%◌, ◌<◌, ◌≤◌, ◌==◌, ◌&&◌, Bool, true, false, cond, List, [], ◌∷◌, ◌++◌, take, length, length-append, map, refl, sym, ap, ◌∙◌, subst, append_assoc, IsPermutation, suc-mul, div-add-mod', arith}
use Rattle.std.specs.List.{All, range_with_len}
use Rattle.std.proofs.lemmas.Bool.{true≢false}
use Rattle.std.proofs.lemmas.List.{append-nil, length-map, length_push, map-append, take-append-le, take_all, take_at}
use Rattle.std.proofs.lemmas.List.Elements.{All-head, All-tail}
use Rattle.std.proofs.lemmas.Nat.{div-mul-add, le-div, mul-le}
use Rattle.std.proofs.Math.Nat.{mod-lt}
use mathlib.Core.Logic.{dite}
use native.Mathlib.Decide.{ℕ_discrete}
use Rattle.audit_model.specs.Attempts.{Try}
use Rattle.audit_model.specs.declared.outcome.Outcome.{Outcome}
use Rattle.audit_model.specs.declared.place.Place.{Place}
use Rattle.audit_model.specs.Run.{total, by_id}
use Rattle.audit_model.specs.Times.{times}
use Rattle.audit_model.proofs.Times.{cut_at, one_same, permutation_from_times, times-append, times-cons}
use Rattle.audit_model.specs.Trajectory.{outcome}
use Rattle.audit_statement.specs.Checkpoint.{IsCheckpoint, checkpoint, job_digest}
use Rattle.audit_statement.specs.Draw.{draw}
use Rattle.audit_statement.specs.InOrder.{AreSavesSoFar}
use Rattle.tally_desk.specs.declared.entry.Entry.{Entry}
use Rattle.tally_desk.specs.Desks.{AreDue}
use Rattle.tally_desk.specs.Entries.{ends_saved, ends_saved_from, posted_id, ids_of, is_due, saves_made, tickets_of}
use Rattle.tally_desk.specs.Homes.{IsSound, Made, booked, made, made_after, made_with, attempts, try_made}
use Rattle.audit_statement.specs.InOrder.{moved, AreSavesFrom, AreSavesOf, IsSaveOfIds, count_of_attempts, last_succeeded, last_succeeded_from, place_after, taken_in}
use Rattle.claim_counter.specs.Walks.{found}
use Rattle.tally_desk.specs.Parts.{IsPlan, Parts}
use Rattle.tally_desk.proofs.Marking.{next_turn}
use Rattle.tally_desk.proofs.Regular.{due_later, due_next, first_ticket, next_group, next_less, other_tickets}
use Rattle.tally_desk.proofs.Holding.{moved_all}
use Rattle.tally_desk.proofs.Attempted.{fewer, later as later_ones, rest_attempts, run_attempts, sound_rest}

-- the members of one list that another list does not use
left_over : (xs ys : List ℕ) → ((id : ℕ) → times id xs ≤ times id ys) → (more : List ℕ) × ((id : ℕ) → times id (xs ++ more) ≡ times id ys)
left_over [] ys fewer_ids = (ys, λ id. refl)
left_over (x ∷ xs) ys fewer_ids =
    let cut = cut_at x ys (omega (arith, fewer_ids x, times-cons x x xs, one_same x)) in
    let whole : (id : ℕ) → times id ys ≡ times id (x ∷ []) + times id (cut.0 ++ cut.1) =
    λ id. omega (arith, ap (times id) cut.2, times-append id cut.0 (x ∷ cut.1), times-cons id x cut.1, times-cons id x [], times-append id cut.0 cut.1) in
    let r = left_over xs (cut.0 ++ cut.1) (λ id. omega (arith, fewer_ids id, whole id, times-cons id x xs, times-cons id x [])) in
    (r.0, λ id. omega (arith, r.1 id, whole id, times-cons id x (xs ++ r.0), times-cons id x []))

module _ (parts : Parts) (plan : IsPlan parts) where
  abbrev v : ℕ
  v = parts.save_every

  -- posts of ids to do
  abbrev OfTodo : List Entry → Type 0
  OfTodo posted = (id : ℕ) → times id (ids_of posted) ≤ times id parts.todo

  abbrev Due : Entry → Type 0
  Due e = e.saved ≡ true → is_due v e ≡ true

  -- the saves from the n-th on, by the place after the earlier posts
  abbrev From : List Entry → ℕ → List Entry → List Try → Type 0
  From whole n earlier ts = AreSavesFrom parts.job parts.initial_outcomes v (ids_of whole) n (moved (saves_made earlier) parts.place) ts

  same_found : (posted : List Entry) → by_id (total parts.job) (booked parts posted) ≡ taken_in parts.job parts.initial_outcomes (ids_of posted)
  unfolding found
  same_found posted = refl

  same_order : (posted : List Entry) → booked parts posted ≡ parts.initial_outcomes ++ map (outcome parts.job (draw parts.job.setting.key)) (ids_of posted)
  unfolding found
  same_order posted = refl

  save_of : (generation slot : ℕ) (posted : List Entry) (ids : List ℕ) (succeeded : Bool) → ids_of posted ≡ ids → OfTodo posted
      → IsCheckpoint (checkpoint 2 (job_digest parts.job) generation (by_id (total parts.job) (booked parts posted))) 2 (job_digest parts.job) generation (by_id (total parts.job) (booked parts posted))
      → IsSaveOfIds parts.job parts.initial_outcomes (record { slot = slot; generation = generation }) ids
      (record { slot = slot; bytes = checkpoint 2 (job_digest parts.job) generation (by_id (total parts.job) (booked parts posted)); succeeded = succeeded })
  save_of generation slot posted ids succeeded is of_todo sound =
      let same = same_found posted ∙ ap (taken_in parts.job parts.initial_outcomes) is in
      record {
        slot = refl;
        bytes = ap (checkpoint 2 (job_digest parts.job) generation) same;
        sound = subst (λ os. IsCheckpoint (checkpoint 2 (job_digest parts.job) generation (by_id (total parts.job) (booked parts posted))) 2 (job_digest parts.job) generation os) same sound;
        all = subst (λ (x : List Outcome × List Outcome). IsPermutation x.0 x.1)
            (λ i. ((same_order posted ∙ ap (λ (l : List ℕ). parts.initial_outcomes ++ map (outcome parts.job (draw parts.job.setting.key)) l) is) i, same i))
            (moved_all parts plan posted of_todo);
      }

  -- the ids of the first posts are the first ids
  first_ids : (earlier posted : List Entry) (e : Entry) (n : ℕ) → length earlier + 1 ≡ n → ids_of (earlier ++ e ∷ []) ≡ take n (ids_of (earlier ++ e ∷ posted))
  first_ids earlier posted e n is =
      let parted : ids_of (earlier ++ e ∷ posted) ≡ ids_of (earlier ++ e ∷ []) ++ ids_of posted =
      ap ids_of (sym (append_assoc earlier (e ∷ []) posted)) ∙ map-append posted_id (earlier ++ e ∷ []) posted in
      let count : length (ids_of (earlier ++ e ∷ [])) ≡ n = length-map (earlier ++ e ∷ []) posted_id ∙ length_push earlier e ∙ is in
      sym (ap (take n) parted ∙ take_at (ids_of (earlier ++ e ∷ [])) (ids_of posted) n count)

  moved_on : (earlier : List Entry) (e : Entry) (s : Bool) → e.saved ≡ s
      → moved (saves_made (earlier ++ e ∷ [])) parts.place ≡ place_after (moved (saves_made earlier) parts.place) (record { slot = 0; bytes = []; succeeded = s })
  moved_on earlier e true is = ap (λ (n : ℕ). moved n parts.place) (next_turn earlier e true is)
  moved_on earlier e false is = ap (λ (n : ℕ). moved n parts.place) (next_turn earlier e false is)

  unsaved : (e : Entry) → Due e → is_due v e ≡ false → e.saved ≡ false
  unsaved e due not_due = by e.saved due
    where
      by : (s : Bool) → (s ≡ true → is_due v e ≡ true) → s ≡ false
      by true h = absurd (true≢false (sym (h refl) ∙ not_due))
      by false h = refl

  -- the saves with one more post
  order_with : (whole earlier posted : List Entry) (e : Entry) (q : ℕ) (ms : List Made) (rest : List Try) → whole ≡ earlier ++ e ∷ posted → (b : Bool) → is_due v e ≡ b → Due e
      → OfTodo (earlier ++ e ∷ []) → (b ≡ true → length earlier + 1 ≡ suc q * v) → All (IsSound parts.job) (cond b (made_with parts earlier e ∷ []) [] ++ ms)
      → From whole (cond b (suc (suc q)) (suc q)) (earlier ++ e ∷ []) (map (try_made parts.job) ms ++ rest)
      → From whole (suc q) earlier (map (try_made parts.job) (cond b (made_with parts earlier e ∷ []) [] ++ ms) ++ rest)
  order_with whole earlier posted e q ms rest whole_is false not_due due of_todo count sound goes =
      subst (λ place. AreSavesFrom parts.job parts.initial_outcomes v (ids_of whole) (suc q) place (map (try_made parts.job) ms ++ rest))
      (moved_on earlier e false (unsaved e due not_due)) goes
  order_with whole earlier posted e q ms rest whole_is true is_one due of_todo count sound goes = (
    save_of (moved (saves_made earlier) parts.place).generation (moved (saves_made earlier) parts.place).slot (earlier ++ e ∷ []) (take (suc q * v) (ids_of whole)) e.saved
        (first_ids earlier posted e (suc q * v) (count refl) ∙ ap (λ (l : List Entry). take (suc q * v) (ids_of l)) (sym whole_is)) of_todo
        (All-head (IsSound parts.job) (made_with parts earlier e) ms sound),
    subst (λ place. AreSavesFrom parts.job parts.initial_outcomes v (ids_of whole) (suc (suc q)) place (map (try_made parts.job) ms ++ rest)) (moved_on earlier e e.saved refl) goes,
  )

  abbrev Tickets : List Entry → ℕ → Type 0
  Tickets l a = tickets_of l ≡ range_with_len a (length l)

  -- the saves after q full groups and r posts
  order : (whole posted earlier : List Entry) (q r : ℕ) (rest : List Try) → whole ≡ earlier ++ posted → length earlier ≡ q * v + r → r < v → OfTodo (earlier ++ posted) → Tickets posted (q * v + r)
      → All (IsSound parts.job) (made_after parts earlier posted) → All Due posted
      → From whole (suc (length whole / v)) whole rest
      → From whole (suc q) earlier (map (try_made parts.job) (made_after parts earlier posted) ++ rest)
  order whole [] earlier q r rest whole_is long less of_todo tickets sound due goes =
      let here : whole ≡ earlier = whole_is ∙ append-nil earlier in
      let count : length whole / v ≡ q = ap (λ (z : ℕ). z / v) (ap length here ∙ long) ∙ div-mul-add q v r less in
      subst (λ (x : List Entry × ℕ). From whole (suc x.1) x.0 rest) (λ i. (here i, count i)) goes
  order whole (e ∷ posted) earlier q r rest whole_is long less of_todo tickets sound due goes =
      let here = first_ticket e posted (q * v + r) tickets in
      let later = other_tickets e posted (q * v + r) tickets in
      let ms = made_after parts (earlier ++ e ∷ []) posted in
      let sound_later = sound_rest parts plan (is_due v e) (made_with parts earlier e) ms sound in
      let due_later_on = All-tail Due e posted due in
      let whole_later : whole ≡ (earlier ++ e ∷ []) ++ posted = whole_is ∙ sym (append_assoc earlier (e ∷ []) posted) in
      let longer = length_push earlier e in
      let of_todo_later = later_ones parts plan earlier posted e of_todo in
      dite (ℕ_discrete (r + 1) v)
      (λ full.
      let is = due_next v plan.every e q r here full in
      let reached : length (earlier ++ e ∷ []) ≡ suc q * v + 0 = omega (arith, longer, long, full, suc-mul q v) in
      let counted : length earlier + 1 ≡ suc q * v = omega (arith, long, full, suc-mul q v) in
      order_with whole earlier posted e q ms rest whole_is (is_due v e) refl (All-head Due e posted due) (fewer parts plan earlier posted e of_todo) (λ _. counted) sound
      (subst (λ (b : Bool). From whole (cond b (suc (suc q)) (suc q)) (earlier ++ e ∷ []) (map (try_made parts.job) ms ++ rest)) (sym is)
      (order whole posted (earlier ++ e ∷ []) (suc q) 0 rest whole_later reached (omega (arith, plan.every)) of_todo_later
      (later ∙ ap (λ (z : ℕ). range_with_len z (length posted)) (next_group v plan.every q r full)) sound_later due_later_on goes)))
      (λ not_full.
      let more = next_less v plan.every r less not_full in
      let is = due_later v plan.every e q r here more in
      let reached : length (earlier ++ e ∷ []) ≡ q * v + (r + 1) = omega (arith, longer, long) in
      order_with whole earlier posted e q ms rest whole_is (is_due v e) refl (All-head Due e posted due) (fewer parts plan earlier posted e of_todo) (λ h. absurd (true≢false (sym h ∙ is))) sound
      (subst (λ (b : Bool). From whole (cond b (suc (suc q)) (suc q)) (earlier ++ e ∷ []) (map (try_made parts.job) ms ++ rest)) (sym is)
      (order whole posted (earlier ++ e ∷ []) q (r + 1) rest whole_later reached more of_todo_later
      (later ∙ ap (λ (z : ℕ). range_with_len z (length posted)) (let same : q * v + r + 1 ≡ q * v + (r + 1) = omega arith in same)) sound_later due_later_on goes)))

  -- ---- the number of saves

  abbrev attempted_after : List Entry → List Entry → List Try
  attempted_after earlier posted = map (try_made parts.job) (made_after parts earlier posted)

  count_with : (earlier : List Entry) (e : Entry) (ms : List Made) (b : Bool)
      → length (map (try_made parts.job) (cond b (made_with parts earlier e ∷ []) [] ++ ms)) ≡ cond {A = ℕ} b 1 0 + length (map (try_made parts.job) ms)
  count_with earlier e ms true = omega arith
  count_with earlier e ms false = omega arith

  count : (posted earlier : List Entry) (q r : ℕ) → r < v → Tickets posted (q * v + r) → length (attempted_after earlier posted) + q ≡ (q * v + r + length posted) / v
  count [] earlier q r less tickets =
      (let same : 0 + q ≡ q = omega arith in same) ∙ sym (ap (λ (z : ℕ). z / v) (let same : q * v + r + 0 ≡ q * v + r = omega arith in same) ∙ div-mul-add q v r less)
  count (e ∷ posted) earlier q r less tickets =
      let here = first_ticket e posted (q * v + r) tickets in
      let later = other_tickets e posted (q * v + r) tickets in
      let cut = count_with earlier e (made_after parts (earlier ++ e ∷ []) posted) (is_due v e) in
      dite (ℕ_discrete (r + 1) v)
      (λ full.
      let flag : cond {A = ℕ} (is_due v e) 1 0 ≡ 1 = ap (λ (b : Bool). cond b 1 0) (due_next v plan.every e q r here full) in
      let rest = count posted (earlier ++ e ∷ []) (suc q) 0 (omega (arith, plan.every)) (later ∙ ap (λ (z : ℕ). range_with_len z (length posted)) (next_group v plan.every q r full)) in
      let reached : suc q * v + 0 + length posted ≡ q * v + r + length (e ∷ posted) = omega (arith, full, suc-mul q v) in
      let sum : length (attempted_after earlier (e ∷ posted)) + q ≡ length (attempted_after (earlier ++ e ∷ []) posted) + suc q = omega (arith, cut, flag) in
      sum ∙ rest ∙ ap (λ (z : ℕ). z / v) reached)
      (λ not_full.
      let more = next_less v plan.every r less not_full in
      let flag : cond {A = ℕ} (is_due v e) 1 0 ≡ 0 = ap (λ (b : Bool). cond b 1 0) (due_later v plan.every e q r here more) in
      let rest = count posted (earlier ++ e ∷ []) q (r + 1) more (later ∙ ap (λ (z : ℕ). range_with_len z (length posted)) (let same : q * v + r + 1 ≡ q * v + (r + 1) = omega arith in same)) in
      let reached : q * v + (r + 1) + length posted ≡ q * v + r + length (e ∷ posted) = omega arith in
      let sum : length (attempted_after earlier (e ∷ posted)) + q ≡ length (attempted_after (earlier ++ e ∷ []) posted) + q = omega (arith, cut, flag) in
      sum ∙ rest ∙ ap (λ (z : ℕ). z / v) reached)

  -- ---- the mark of the last post

  ends_with : (earlier : List Entry) (e : Entry) (ms : List Made) (c : Bool) (b : Bool)
      → last_succeeded_from c (map (try_made parts.job) (cond b (made_with parts earlier e ∷ []) [] ++ ms)) ≡ last_succeeded_from (cond b e.saved c) (map (try_made parts.job) ms)
  ends_with earlier e ms c true = refl
  ends_with earlier e ms c false = refl

  one_end : (e : Entry) (c b : Bool) → Due e → is_due v e ≡ b → e.saved ≡ (b && cond b e.saved c)
  one_end e c true due is = refl
  one_end e c false due is = unsaved e due is

  ends : (posted earlier : List Entry) (a : ℕ) (b c : Bool) → Tickets posted a → All Due posted → b ≡ ((a % v == 0) && c)
      → ends_saved_from b posted ≡ (((a + length posted) % v == 0) && last_succeeded_from c (attempted_after earlier posted))
  ends [] earlier a b c tickets due is = is ∙ ap (λ (z : ℕ). (z % v == 0) && c) (let same : a ≡ a + 0 = omega arith in same)
  ends (e ∷ posted) earlier a b c tickets due is =
      let here = first_ticket e posted a tickets in
      let first = All-head Due e posted due in
      let step : e.saved ≡ (((a + 1) % v == 0) && cond (is_due v e) e.saved c) =
      one_end e c (is_due v e) first refl ∙ ap (λ (z : ℕ). ((z + 1) % v == 0) && cond (is_due v e) e.saved c) here in
      ends posted (earlier ++ e ∷ []) (a + 1) e.saved (cond (is_due v e) e.saved c) (other_tickets e posted a tickets) (All-tail Due e posted due) step
      ∙ (λ i. ((let same : a + 1 + length posted ≡ a + length (e ∷ posted) = omega arith in same) i % v == 0)
      && sym (ends_with earlier e (made_after parts (earlier ++ e ∷ []) posted) c (is_due v e)) i)

  none_yet : (b : Bool) → false ≡ (b && false)
  none_yet true = refl
  none_yet false = refl

  -- ---- all of them

  abbrev IsSoundAt : ℕ → List Entry → Type 0
  IsSoundAt generation posted =
      IsCheckpoint (checkpoint 2 (job_digest parts.job) generation (by_id (total parts.job) (booked parts posted))) 2 (job_digest parts.job) generation (by_id (total parts.job) (booked parts posted))

  pub are_saves : (last_saved succeeded : Bool) (posted : List Entry) → OfTodo posted → tickets_of posted ≡ range_with_len 0 (length posted) → All (IsSound parts.job) (made parts posted)
      → AreDue parts posted → last_saved ≡ ends_saved posted → (last_saved ≡ false → IsSoundAt (moved (saves_made posted) parts.place).generation posted)
      → AreSavesOf parts.job parts.initial_outcomes parts.save_every parts.place (ids_of posted) (run_attempts last_saved succeeded parts posted)
  are_saves last_saved succeeded posted of_todo tickets sound due last rest_sound = record {
    each = order posted posted [] 0 0 (rest_attempts last_saved succeeded parts posted) refl (let none : 0 ≡ 0 * v + 0 = omega arith in none) (omega (arith, plan.every)) of_todo from sound due
        (rest_from last_saved rest_sound);
    counted = counted_by last_saved last;
  }
    where
      from : Tickets posted (0 * v + 0)
      from = tickets ∙ ap (λ (z : ℕ). range_with_len z (length posted)) (let none : 0 ≡ 0 * v + 0 = omega arith in none)

      long : length (ids_of posted) ≡ length posted
      long = length-map posted posted_id

      groups : length (attempts parts posted) ≡ length posted / v
      groups =
          (let same : length (attempts parts posted) ≡ length (attempts parts posted) + 0 = omega arith in same) ∙ count posted [] 0 0 (omega (arith, plan.every)) from
          ∙ ap (λ (z : ℕ). z / v) (let same : 0 * v + 0 + length posted ≡ length posted = omega arith in same)

      enough : length (ids_of posted) ≤ suc (length posted / v) * v
      enough =
          let parted = div-add-mod' (length posted) v in
          let left : length posted % v < v = mod-lt (length posted) (let some_ids : 0 < v = omega (arith, plan.every) in some_ids) in
          omega (arith, parted, left, long, suc-mul (length posted / v) v)

      rest_from : (b : Bool) → (b ≡ false → IsSoundAt (moved (saves_made posted) parts.place).generation posted) → From posted (suc (length posted / v)) posted (rest_attempts b succeeded parts posted)
      rest_from true h = tt
      rest_from false h = (
        save_of (moved (saves_made posted) parts.place).generation (moved (saves_made posted) parts.place).slot posted (take (suc (length posted / v) * v) (ids_of posted)) succeeded
            (sym (take_all (suc (length posted / v) * v) (ids_of posted) enough)) of_todo (h refl),
        tt,
      )

      whole : ends_saved posted ≡ ((length posted % v == 0) && last_succeeded (attempts parts posted))
      whole =
          ends posted [] 0 false false tickets due (none_yet (0 % v == 0))
          ∙ ap (λ (z : ℕ). (z % v == 0) && last_succeeded (attempts parts posted)) (let same : 0 + length posted ≡ length posted = omega arith in same)

      first_attempts : (rest : List Try) → take (length posted / v) (attempts parts posted ++ rest) ≡ attempts parts posted
      first_attempts rest = take_at (attempts parts posted) rest (length posted / v) groups

      rest_count : (b : Bool) → length (rest_attempts b succeeded parts posted) ≡ cond {A = ℕ} b 0 1
      rest_count true = refl
      rest_count false = refl

      counted_by : (b : Bool) → b ≡ ends_saved posted → length (run_attempts b succeeded parts posted) ≡ count_of_attempts v (length (ids_of posted)) (run_attempts b succeeded parts posted)
      counted_by b is =
          let test : b ≡ ((length posted % v == 0) && last_succeeded (take (length posted / v) (run_attempts b succeeded parts posted))) =
          is ∙ whole ∙ ap (λ ts. (length posted % v == 0) && last_succeeded ts) (sym (first_attempts (rest_attempts b succeeded parts posted))) in
          let both : length (run_attempts b succeeded parts posted) ≡ length (attempts parts posted) + length (rest_attempts b succeeded parts posted) =
          length-append (attempts parts posted) (rest_attempts b succeeded parts posted) in
          both ∙ (λ i. groups i + rest_count b i) ∙ ap (λ (x : Bool). length posted / v + cond {A = ℕ} x 0 1) test
          ∙ ap (λ (n : ℕ). count_of_attempts v n (run_attempts b succeeded parts posted)) (sym long)

  -- ---- the saves so far

  -- more ids do not change saves that need only the first ids
  more_ids : (ids more : List ℕ) (n : ℕ) (place : Place) (ts : List Try) → ((k : ℕ) → k < length ts → (n + k) * v ≤ length ids)
      → AreSavesFrom parts.job parts.initial_outcomes v ids n place ts → AreSavesFrom parts.job parts.initial_outcomes v (ids ++ more) n place ts
  more_ids ids more n place [] enough goes = tt
  more_ids ids more n place (t ∷ ts) enough goes =
      let here : n * v ≤ length ids = subst (λ (m : ℕ). m * v ≤ length ids) (let same : n + 0 ≡ n = omega arith in same) (enough 0 (omega arith)) in (
        subst (λ (l : List ℕ). IsSaveOfIds parts.job parts.initial_outcomes place l t) (sym (take-append-le (n * v) ids more here)) goes.0,
        more_ids ids more (suc n) (place_after place t) ts
            (λ k less. subst (λ (m : ℕ). m * v ≤ length ids) (let same : n + suc k ≡ suc n + k = omega arith in same) (enough (suc k) (omega arith))) goes.1,
      )

  -- the attempts made with these posts are the first attempts of the run
  pub saves_so_far : (posted : List Entry) → OfTodo posted → tickets_of posted ≡ range_with_len 0 (length posted) → All (IsSound parts.job) (made parts posted) → AreDue parts posted
      → AreSavesSoFar parts.job parts.initial_outcomes parts.save_every parts.place parts.todo (attempts parts posted)
  saves_so_far posted of_todo tickets sound due =
      let left = left_over (ids_of posted) parts.todo of_todo in record {
        walked = ids_of posted ++ left.0;
        all_walked = permutation_from_times (ids_of posted ++ left.0) parts.todo left.1;
        first = record {
          each = more_ids (ids_of posted) left.0 1 parts.place (attempts parts posted) enough goes;
          few = omega (arith, groups, more_groups left.0);
        };
      }
    where
      none : 0 ≡ 0 * v + 0
      none = omega arith

      from : Tickets posted (0 * v + 0)
      from = tickets ∙ ap (λ (z : ℕ). range_with_len z (length posted)) none

      goes : AreSavesFrom parts.job parts.initial_outcomes v (ids_of posted) 1 parts.place (attempts parts posted)
      goes = subst (From posted 1 []) (append-nil (attempts parts posted)) (order posted posted [] 0 0 [] refl none (omega (arith, plan.every)) of_todo from sound due tt)

      long : length (ids_of posted) ≡ length posted
      long = length-map posted posted_id

      groups : length (attempts parts posted) ≡ length posted / v
      groups =
          (let same : length (attempts parts posted) ≡ length (attempts parts posted) + 0 = omega arith in same) ∙ count posted [] 0 0 (omega (arith, plan.every)) from
          ∙ ap (λ (z : ℕ). z / v) (let same : 0 * v + 0 + length posted ≡ length posted = omega arith in same)

      within : (length posted / v) * v ≤ length posted
      within = let parted = div-add-mod' (length posted) v in omega (arith, parted)

      enough : (k : ℕ) → k < length (attempts parts posted) → (1 + k) * v ≤ length (ids_of posted)
      enough k less =
          let le : (1 + k) * v ≤ (length posted / v) * v = mul-le (1 + k) v (length posted / v) v (omega (arith, less, groups)) (omega arith) in
          omega (arith, le, within, long)

      more_groups : (more : List ℕ) → length posted / v ≤ length (ids_of posted ++ more) / v
      more_groups more = le-div (length posted / v) (length (ids_of posted ++ more)) v (omega (arith, plan.every)) (omega (arith, within, length-append (ids_of posted) more, long))

  -- the attempts of the run, with a last save of all posts
  pub saves_with_last : (succeeded : Bool) (posted : List Entry) → OfTodo posted → tickets_of posted ≡ range_with_len 0 (length posted) → All (IsSound parts.job) (made parts posted)
      → AreDue parts posted → IsPermutation (ids_of posted) parts.todo → false ≡ ends_saved posted → IsSoundAt (moved (saves_made posted) parts.place).generation posted
      → AreSavesSoFar parts.job parts.initial_outcomes parts.save_every parts.place parts.todo (run_attempts false succeeded parts posted)
  saves_with_last succeeded posted of_todo tickets sound due all last rest_sound =
      let saves = are_saves false succeeded posted of_todo tickets sound due last (λ _. rest_sound) in
      record { walked = ids_of posted; all_walked = all; first = record { each = saves.each; few = omega (arith, saves.counted) } }
