-- The invariant of a run after any events.
use Rattle.std.proofs.Common.{◌≡◌, ℕ, zero, suc, ◌<◌, Bool, true, false, cond, not, List, [], ◌∷◌, ◌++◌, length, take, replicate, Option, Some, None, refl, sym, ap, ◌∙◌, subst, inl, inr, arith, append_assoc}
use Rattle.std.specs.Prelude.{◌==◌, ◌&&◌, ◌⊎◌, slice_get, slice_set}
use Rattle.std.proofs.lemmas.Bool.{and_parts, or_left, or_right, cases_eq, eq-eqb, both_ways, false_from_ne_true, not-true}
use Rattle.std.proofs.lemmas.List.{append-nil}
use Rattle.audit_model.specs.declared.outcome.Event.{Event}
use Rattle.audit_model.specs.declared.outcome.Event.TheVariants.{Claim, Post, Save, Halt}
use Rattle.audit_model.specs.Apart.{AllApart}
use Rattle.audit_model.specs.Below.{filter_below}
use Rattle.audit_model.specs.Graph.{has}
use Rattle.audit_model.specs.Machine.{Machine, started_part, todo, claimed, claim, post, step, state_after, IsFront, IsOpen, IsAt, IsRun}
use Rattle.audit_model.specs.Run.{is_in_part}
use Rattle.audit_model.proofs.Connected.{has-append_left, has-append_right, has-append_parts, has-filter_below}
use Rattle.audit_model.proofs.ListFacts.{has_one, apart_more, has-take}
use Rattle.std.proofs.lemmas.Option.{none-some, same_Some}

-- ---- lists

-- a replaced item is the new one
get_set_same : {A : Type 0} (xs : List A) (k : ℕ) (old new : A) → slice_get xs k ≡ Some old → slice_get (slice_set xs k new) k ≡ Some new
get_set_same [] k old new h = absurd (none-some old h)
get_set_same (x ∷ xs) zero old new h = refl
get_set_same (x ∷ xs) (suc k) old new h = get_set_same xs k old new h

-- replacing an item leaves the others
get_set_other : {A : Type 0} (xs : List A) (j k : ℕ) (new : A) → (j ≡ k → ⊥) → slice_get (slice_set xs k new) j ≡ slice_get xs j
get_set_other [] j k new off = refl
get_set_other (x ∷ xs) zero zero new off = absurd (off refl)
get_set_other (x ∷ xs) zero (suc k) new off = refl
get_set_other (x ∷ xs) (suc j) zero new off = refl
get_set_other (x ∷ xs) (suc j) (suc k) new off = get_set_other xs j k new (λ e. off (ap suc e))

-- at first, no worker has an open id
pub get-replicate : (n k id : ℕ) → slice_get (replicate {A = Option ℕ} n None) k ≡ Some (Some id) → ⊥
get-replicate zero k id h = none-some (Some id) h
get-replicate (suc n) zero id h = none-some id (same_Some None (Some id) h)
get-replicate (suc n) (suc k) id h = get-replicate n k id h

-- the item at each position is a member
get_has : (xs : List ℕ) (k id : ℕ) → slice_get xs k ≡ Some id → has xs id ≡ true
get_has [] k id h = absurd (none-some id h)
get_has (x ∷ xs) zero id h = or_left (x == id) (has xs id) (eq-eqb x id (same_Some x id h))
get_has (x ∷ xs) (suc k) id h = or_right (x == id) (has xs id) (get_has xs k id h)

-- in a list of distinct numbers, a number has one position
one_place : (xs : List ℕ) (j k id : ℕ) → AllApart xs → slice_get xs j ≡ Some id → slice_get xs k ≡ Some id → j ≡ k
one_place [] j k id a hj hk = absurd (none-some id hj)
one_place (x ∷ xs) zero zero id a hj hk = refl
one_place (x ∷ xs) zero (suc k) id a hj hk = absurd (both_ways (has xs x) a.0 (subst (λ y. has xs y ≡ true) (sym (same_Some x id hj)) (get_has xs k id hk)))
one_place (x ∷ xs) (suc j) zero id a hj hk = absurd (both_ways (has xs x) a.0 (subst (λ y. has xs y ≡ true) (sym (same_Some x id hk)) (get_has xs j id hj)))
one_place (x ∷ xs) (suc j) (suc k) id a hj hk = ap suc (one_place xs j k id a.1 hj hk)

-- a prefix of distinct numbers is distinct
apart_front : (xs ys : List ℕ) → AllApart (xs ++ ys) → AllApart xs
apart_front [] ys a = tt
apart_front (x ∷ xs) ys a =
    (false_from_ne_true (has xs x) (λ there. both_ways (has (xs ++ ys) x) a.0 (has-append_left xs ys x there)), apart_front xs ys a.1)

-- the first of distinct numbers are distinct
pub apart-take : (n : ℕ) (xs : List ℕ) → AllApart xs → AllApart (take n xs)
apart-take zero xs a = tt
apart-take (suc n) [] a = tt
apart-take (suc n) (x ∷ xs) a =
    (false_from_ne_true (has (take n xs) x) (λ there. both_ways (has xs x) a.0 (has-take n xs x there)), apart-take n xs a.1)

-- filtered numbers are distinct
pub apart-filter_below : (n : ℕ) (test : ℕ → Bool) → AllApart (filter_below n test)
apart-filter_below zero test = tt
apart-filter_below (suc n) test = by (apart-filter_below n test) (test n)
  where
    apart_below : AllApart (filter_below n test) → AllApart (filter_below n test ++ n ∷ [])
    apart_below a = apart_more (filter_below n test) n a
        (false_from_ne_true (has (filter_below n test) n) (λ there. let found = has-filter_below n test n there in absurd (omega (arith, found.0))))

    by : AllApart (filter_below n test) → (b : Bool) → AllApart (filter_below n test ++ cond b (n ∷ []) [])
    by a true = apart_below a
    by a false = subst AllApart (sym (append-nil (filter_below n test))) a

-- ---- pending ids

module _ (m : Machine) where
  may_do : ℕ → Bool
  may_do id = not (has m.start id) && is_in_part m.parts m.part id

  todo_apart : AllApart (todo m)
  unfolding may_do
  todo_apart = apart-take m.budget (filter_below m.total may_do) (apart-filter_below m.total may_do)

  -- a pending id is below the total, and was not done at the start
  pub at_is_new : (k id : ℕ) → IsAt m k id → (id < m.total) × (has m.start id ≡ false)
  unfolding may_do
  at_is_new k id h =
      let found = has-filter_below m.total may_do id (has-take m.budget (filter_below m.total may_do) id (get_has (todo m) k id h)) in
      (found.0, not-true (has m.start id) (and_parts (not (has m.start id)) (is_in_part m.parts m.part id) found.1).0)

-- ---- each event

module _ (m : Machine) (run : IsRun m) where
  -- a claim of the next id
  module _ (w id : ℕ) (free : slice_get m.open_ids w ≡ Some None) (at : IsAt m m.next id) where
    after_claim : Machine
    after_claim = (claimed m w (Some id)).0

    open_after_claim : (v x : ℕ) → IsOpen after_claim v x → ((v ≡ w) × (x ≡ id)) ⊎ IsOpen m v x
    unfolding after_claim
    open_after_claim v x h = elim (cases_eq v w) [
      | inl e ↦ inl (
        e,
        same_Some x id (same_Some (Some x) (Some id)
            (sym h ∙ ap (slice_get (slice_set m.open_ids w (Some id))) e ∙ get_set_same m.open_ids w None (Some id) free)),
      )
      | inr off ↦ inr (sym (get_set_other m.open_ids v w (Some id) off) ∙ h)
    ]

    -- the id was not open before
    not_open_before : (v : ℕ) → IsOpen m v id → ⊥
    not_open_before v h =
        let place = run.opened v id h in
        let same : place.0 ≡ m.next = one_place (todo m) place.0 m.next id (todo_apart m) place.2 at in
        absurd (omega (arith, place.1, same))

    claim_keeps : IsRun after_claim
    unfolding after_claim
    claim_keeps = record {
      apart = run.apart;
      below = run.below;
      start_front = run.start_front;
      saved_front = run.saved_front;
      claimed = λ k x l h. elim (cases_eq k m.next) [
        | inl e ↦
            let same : x ≡ id = same_Some x id (sym h ∙ ap (slice_get (todo m)) e ∙ at) in
            inr (w, get_set_same m.open_ids w None (Some id) free ∙ ap (λ y. Some (Some y)) (sym same))
        | inr off ↦ elim (run.claimed k x (omega (arith, l)) h) [
          | inl done ↦ inl done
          | inr holder ↦ inr (
            holder.0,
            get_set_other m.open_ids holder.0 w (Some id)
                (λ e. none-some x (same_Some None (Some x) (sym free ∙ ap (slice_get m.open_ids) (sym e) ∙ holder.1))) ∙ holder.1,
          )
        ]
      ];
      opened = λ v x h. elim (open_after_claim v x h) [
        | inl new ↦ (m.next, omega arith, at ∙ ap Some (sym new.1))
        | inr old ↦ let place = run.opened v x old in (place.0, omega (arith, place.1), place.2)
      ];
      not_both = λ v x h. elim (open_after_claim v x h) [
        | inl new ↦ ap (has m.done) new.1 ∙ run.ahead m.next id (omega arith) at
        | inr old ↦ run.not_both v x old
      ];
      one_worker = λ v u x hv hu. elim (open_after_claim v x hv) [
        | inl new-v ↦ elim (open_after_claim u x hu) [
          | inl new-u ↦ new-v.0 ∙ sym new-u.0
          | inr old-u ↦ absurd (not_open_before u (old-u ∙ ap (λ y. Some (Some y)) new-v.1))
        ]
        | inr old-v ↦ elim (open_after_claim u x hu) [
          | inl new-u ↦ absurd (not_open_before v (old-v ∙ ap (λ y. Some (Some y)) new-u.1))
          | inr old-u ↦ run.one_worker v u x old-v old-u
        ]
      ];
      ahead = λ k x l h. run.ahead k x (omega (arith, l)) h;
    }

  -- a post of the worker's open id
  module _ (w id : ℕ) (open_id : IsOpen m w id) where
    after_post : Machine
    after_post = (post m w (Some (Some id))).0

    open_after_post : (v x : ℕ) → IsOpen after_post v x → (v ≡ w → ⊥) × IsOpen m v x
    unfolding after_post
    open_after_post v x h = elim (cases_eq v w) [
      | inl e ↦ absurd (none-some x (same_Some None (Some x)
          (sym (get_set_same m.open_ids w (Some id) None open_id) ∙ ap (slice_get (slice_set m.open_ids w None)) (sym e) ∙ h)))
      | inr off ↦ (off, sym (get_set_other m.open_ids v w None off) ∙ h)
    ]

    front_more : (front : List ℕ) → IsFront front m.done → IsFront front (m.done ++ id ∷ [])
    front_more front h = (h.0 ++ id ∷ [], ap (λ xs. xs ++ id ∷ []) h.1 ∙ append_assoc front h.0 (id ∷ []))

    post_keeps : IsRun after_post
    unfolding after_post
    post_keeps = record {
      apart = apart_more m.done id run.apart (run.not_both w id open_id);
      below = λ x h. elim (has-append_parts m.done (id ∷ []) x h) [
        | inl e ↦ run.below x e
        | inr e ↦
            let place = run.opened w id open_id in
            subst (λ y. y < m.total) (has_one id x e) (at_is_new m place.0 id place.2).0
      ];
      start_front = front_more m.start run.start_front;
      saved_front = front_more m.saved run.saved_front;
      claimed = λ k x l h. elim (run.claimed k x l h) [
        | inl done ↦ inl (has-append_left m.done (id ∷ []) x done)
        | inr holder ↦ elim (cases_eq holder.0 w) [
          | inl e ↦
              let same : id ≡ x = same_Some id x (same_Some (Some id) (Some x) (sym open_id ∙ ap (slice_get m.open_ids) (sym e) ∙ holder.1)) in
              inl (has-append_right m.done (id ∷ []) x (or_left (id == x) false (eq-eqb id x same)))
          | inr off ↦ inr (holder.0, get_set_other m.open_ids holder.0 w None off ∙ holder.1)
        ]
      ];
      opened = λ v x h. run.opened v x (open_after_post v x h).1;
      not_both = λ v x h.
          let before = open_after_post v x h in
          false_from_ne_true (has (m.done ++ id ∷ []) x) (λ there. elim (has-append_parts m.done (id ∷ []) x there) [
            | inl e ↦ both_ways (has m.done x) (run.not_both v x before.1) e
            | inr e ↦ before.0 (run.one_worker v w id (before.1 ∙ ap (λ y. Some (Some y)) (sym (has_one id x e))) open_id)
          ]);
      one_worker = λ v u x hv hu. run.one_worker v u x (open_after_post v x hv).1 (open_after_post u x hu).1;
      ahead = λ k x l h. false_from_ne_true (has (m.done ++ id ∷ []) x) (λ there. elim (has-append_parts m.done (id ∷ []) x there) [
        | inl e ↦ both_ways (has m.done x) (run.ahead k x l h) e
        | inr e ↦
            let place = run.opened w id open_id in
            let same : place.0 ≡ k = one_place (todo m) place.0 k id (todo_apart m) place.2 (h ∙ ap Some (sym (has_one id x e))) in
            absurd (omega (arith, place.1, l, same))
      ]);
    }

  save_keeps : IsRun (step m Save).0
  save_keeps = record {
    apart = run.apart;
    below = run.below;
    start_front = run.start_front;
    saved_front = ([], sym (append-nil m.done));
    claimed = run.claimed;
    opened = run.opened;
    not_both = run.not_both;
    one_worker = run.one_worker;
    ahead = run.ahead;
  }

  halt_keeps : IsRun (step m Halt).0
  halt_keeps = record {
    apart = apart_front m.saved run.saved_front.0 (subst AllApart run.saved_front.1 run.apart);
    below = λ id h. run.below id (subst (λ xs. has xs id ≡ true) (sym run.saved_front.1) (has-append_left m.saved run.saved_front.0 id h));
    start_front = ([], sym (append-nil m.saved));
    saved_front = ([], sym (append-nil m.saved));
    claimed = λ k id l h. absurd (omega (arith, l));
    opened = λ w id h. absurd (get-replicate (length m.open_ids) w id h);
    not_both = λ w id h. absurd (get-replicate (length m.open_ids) w id h);
    one_worker = λ v w id h g. absurd (get-replicate (length m.open_ids) v id h);
    ahead = λ k id l h. (at_is_new (step m Halt).0 k id h).1;
  }

-- each event keeps the invariant
pub step_keeps : (m : Machine) (event : Event) → IsRun m → IsRun (step m event).0
unfolding after_claim after_post
step_keeps m (Claim w) run = by (slice_get m.open_ids w) refl
  where
    take : (o : Option ℕ) → slice_get m.open_ids w ≡ Some None → slice_get (todo m) m.next ≡ o → IsRun (claimed m w o).0
    take None free at = run
    take (Some id) free at = claim_keeps m run w id free at

    by : (o : Option (Option ℕ)) → slice_get m.open_ids w ≡ o → IsRun (claim m w o).0
    by None e = run
    by (Some (Some id)) e = run
    by (Some None) e = take (slice_get (todo m) m.next) e refl
step_keeps m (Post w) run = by (slice_get m.open_ids w) refl
  where
    by : (o : Option (Option ℕ)) → slice_get m.open_ids w ≡ o → IsRun (post m w o).0
    by None e = run
    by (Some None) e = run
    by (Some (Some id)) e = post_keeps m run w id e
step_keeps m Save run = save_keeps m run
step_keeps m Halt run = halt_keeps m run

-- any events keep the invariant
pub events_keep : (m : Machine) (events : List Event) → IsRun m → IsRun (state_after m events)
events_keep m [] run = run
events_keep m (event ∷ events) run = events_keep (step m event).0 events (step_keeps m event run)

-- a run that starts from distinct ids below the total has the invariant
pub fresh_run : (parts part total budget workers : ℕ) (ids : List ℕ) → AllApart ids → ((id : ℕ) → has ids id ≡ true → id < total) → IsRun (started_part parts part total budget workers ids)
fresh_run parts part total budget workers ids apart below = record {
  apart = apart;
  below = below;
  start_front = ([], sym (append-nil ids));
  saved_front = ([], sym (append-nil ids));
  claimed = λ k id l h. absurd (omega (arith, l));
  opened = λ w id h. absurd (get-replicate workers w id h);
  not_both = λ w id h. absurd (get-replicate workers w id h);
  one_worker = λ v w id h g. absurd (get-replicate workers v id h);
  ahead = λ k id l h. (at_is_new (started_part parts part total budget workers ids) k id h).1;
}
