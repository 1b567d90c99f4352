-- The effect of a claim and of a post on the machine that matches a desk.
use Rattle.std.proofs.Common.{◌≡◌, ◌≢◌, ℕ, zero, suc, ◌+◌, ◌<◌, ◌≤◌, ◌==◌, ◌&&◌, ◌||◌, nat_lt, min, not, Bool, true, false, cond, List, [], ◌∷◌, ◌++◌, map, set, take, get_or, length, Option, Some, None, refl, sym, ap, ◌∙◌, append_assoc, arith}
use Rattle.std.specs.Prelude.{slice_get}
use Rattle.std.proofs.lemmas.Bool.{and_right, eq-eqb, ne_eqb, le-ltb, lt-ltb}
use mathlib.Core.Logic.{dite}
use native.Mathlib.Decide.{ℕ_discrete, dec_le}
use Rattle.std.proofs.Common.{lt_of_not-le}
use Rattle.std.proofs.lemmas.List.{map-append, set-append_left}
use Rattle.audit_model.specs.declared.outcome.Did.{Did}
use Rattle.audit_model.specs.declared.outcome.Did.TheVariants.{Claimed, Posted}
use Rattle.audit_model.specs.declared.outcome.Event.TheVariants.{Claim, Post, Save}
use Rattle.audit_model.specs.declared.outcome.Outcome.{Outcome}
use Rattle.audit_model.specs.Below.{filter_below, map_below}
use Rattle.audit_model.specs.Graph.{has}
use Rattle.audit_model.specs.Machine.{Machine, claim, claimed, post, state_after, step, todo}
use Rattle.audit_model.specs.Run.{total, has_id, is_in_part}
use Rattle.audit_model.specs.Times.{times}
use Rattle.audit_model.proofs.Times.{one, one_same, times-cons, times_push}
use Rattle.audit_model.proofs.Below.{length-map_below, map_below_same}
use Rattle.tally_desk.specs.declared.entry.Entry.{Entry}
use Rattle.tally_desk.specs.Entries.{post_of, posted_id, ids_of, saves_made, up_to_save}
use Rattle.tally_desk.specs.MachineStates.{machine_of, open_at, initial_ids}
use Rattle.tally_desk.specs.Machines.{post_events}
use Rattle.tally_desk.specs.Parts.{Parts, IsPlan}
use Rattle.tally_desk.proofs.Marking.{saves-push, up_to_save-all, up_to_save-kept}
use Rattle.tally_desk.proofs.Todo.{todo_once}

-- ---- lists

module _ {A : Type 0} where
  get-append : (xs ys : List A) (k : ℕ) → k < length xs → slice_get (xs ++ ys) k ≡ slice_get xs k
  get-append [] ys k within = absurd (omega arith)
  get-append (x ∷ xs) ys zero within = refl
  get-append (x ∷ xs) ys (suc k) within = get-append xs ys k (omega arith)

  get_last : (xs : List A) (y : A) (k : ℕ) → k ≡ length xs → slice_get (xs ++ y ∷ []) k ≡ Some y
  get_last [] y zero is = refl
  get_last [] y (suc k) is = absurd (omega arith)
  get_last (x ∷ xs) y zero is = absurd (omega arith)
  get_last (x ∷ xs) y (suc k) is = get_last xs y k (omega arith)

  set_last : (xs : List A) (y : A) (k : ℕ) (x : A) → k ≡ length xs → set (xs ++ y ∷ []) k x ≡ xs ++ x ∷ []
  set_last [] y zero x is = refl
  set_last [] y (suc k) x is = absurd (omega arith)
  set_last (z ∷ xs) y zero x is = absurd (omega arith)
  set_last (z ∷ xs) y (suc k) x is = ap (λ (l : List A). z ∷ l) (set_last xs y k x (omega arith))

  get-map_below : (n : ℕ) (f : ℕ → A) (k : ℕ) → k < n → slice_get (map_below n f) k ≡ Some (f k)
  get-map_below zero f k within = absurd (omega arith)
  get-map_below (suc n) f k within = dite (ℕ_discrete k n)
      (λ last. get_last (map_below n f) (f n) k (last ∙ sym (length-map_below n f)) ∙ ap (λ (z : ℕ). Some (f z)) (sym last))
      (λ before. let less : k < n = lt_from k n within before in
      get-append (map_below n f) (f n ∷ []) k (omega (arith, less, length-map_below n f)) ∙ get-map_below n f k less)
    where
      lt_from : (k n : ℕ) → k < suc n → (k ≡ n → ⊥) → k < n
      lt_from k n l differ = dite (dec_le n k) (λ le. absurd (differ (omega arith))) (λ not_le. lt_of_not-le not_le)

  set-map_below : (n : ℕ) (f : ℕ → A) (k : ℕ) (x : A) → k < n → set (map_below n f) k x ≡ map_below n (λ j. cond (j == k) x (f j))
  set-map_below zero f k x within = absurd (omega arith)
  set-map_below (suc n) f k x within = dite (ℕ_discrete k n)
      (λ last. set_last (map_below n f) (f n) k x (last ∙ sym (length-map_below n f))
      ∙ (λ i. map_below_same n f (λ j. cond (j == k) x (f j)) (λ j l. ap (λ (b : Bool). cond b x (f j)) (sym (ne_eqb j k (λ e. absurd (omega (arith, e, l, last)))))) i
      ++ ap (λ (b : Bool). cond b x (f n)) (sym (eq-eqb n k (sym last))) i ∷ []))
      (λ before. let less : k < n = lt_from k n within before in
      set-append_left (map_below n f) (f n ∷ []) k x (omega (arith, less, length-map_below n f))
      ∙ (λ i. set-map_below n f k x less i ++ ap (λ (b : Bool). cond b x (f n)) (sym (ne_eqb n k (λ e. before (sym e)))) i ∷ []))
    where
      lt_from : (k n : ℕ) → k < suc n → (k ≡ n → ⊥) → k < n
      lt_from k n l differ = dite (dec_le n k) (λ le. absurd (differ (omega arith))) (λ not_le. lt_of_not-le not_le)

-- a place inside a list has a member
get_in : (xs : List ℕ) (k : ℕ) → k < length xs → slice_get xs k ≡ Some (get_or xs k 0)
get_in [] k within = absurd (omega arith)
get_in (x ∷ xs) zero within = refl
get_in (x ∷ xs) (suc k) within = get_in xs k (omega arith)

-- a member of a list occurs in it
times_at : (xs : List ℕ) (j : ℕ) → j < length xs → 0 < times (get_or xs j 0) xs
times_at [] j within = absurd (omega arith)
times_at (x ∷ xs) zero within = omega (arith, times-cons x x xs, one_same x)
times_at (x ∷ xs) (suc j) within = let r = times_at xs j (omega arith) in omega (arith, r, times-cons (get_or xs j 0) x xs)

-- without repetitions, different places have different numbers
two_places : (xs : List ℕ) (i j : ℕ) → ((x : ℕ) → times x xs ≤ 1) → i < length xs → j < length xs → get_or xs i 0 ≡ get_or xs j 0 → i ≡ j
two_places [] i j differ within within' same = absurd (omega arith)
two_places (x ∷ xs) zero zero differ within within' same = refl
two_places (x ∷ xs) zero (suc j) differ within within' same = let r = times_at xs j (omega arith) in absurd (omega (arith, r, differ x, times-cons x x xs, one_same x, ap (λ (k : ℕ). times k xs) same))
two_places (x ∷ xs) (suc i) zero differ within within' same = let r = times_at xs i (omega arith) in absurd (omega (arith, r, differ x, times-cons x x xs, one_same x, ap (λ (k : ℕ). times k xs) same))
two_places (x ∷ xs) (suc i) (suc j) differ within within' same = ap suc (two_places xs i j (λ y. omega (arith, differ y, times-cons y x xs)) (omega arith) (omega arith) same)

-- ---- the ids to do

-- an id is in the list of ids exactly if an outcome has it
has_ids : (os : List Outcome) (id : ℕ) → has (map (λ o. o.id) os) id ≡ has_id os id
has_ids [] id = refl
has_ids (o ∷ os) id = ap (λ (b : Bool). (o.id == id) || b) (has_ids os id)

-- equal tests filter equal lists
filter_same : (n : ℕ) (f g : ℕ → Bool) → ((k : ℕ) → f k ≡ g k) → filter_below n f ≡ filter_below n g
filter_same zero f g same = refl
filter_same (suc n) f g same = λ i. filter_same n f g same i ++ cond (same n i) (n ∷ []) []

-- taking a prefix twice is taking it once
take_again : (n : ℕ) (xs : List ℕ) → take (length (take n xs)) xs ≡ take n xs
take_again zero xs = refl
take_again (suc n) [] = refl
take_again (suc n) (x ∷ xs) = ap (λ (l : List ℕ). x ∷ l) (take_again n xs)

module _ (parts : Parts) (plan : IsPlan parts) where
  len : ℕ
  len = length parts.todo

  pub todo_is : (drawn : ℕ) (l : List Entry) → todo (machine_of parts drawn l) ≡ parts.todo
  todo_is drawn l =
      let s = parts.job.setting in
      let missing = filter_below (total parts.job) (λ id. not (has_id parts.initial_outcomes id) && is_in_part s.parts s.part id) in
      ap (take (length parts.todo))
      (filter_same (total parts.job) (λ id. not (has (initial_ids parts) id) && is_in_part s.parts s.part id) (λ id. not (has_id parts.initial_outcomes id) && is_in_part s.parts s.part id)
      (λ id. ap (λ (b : Bool). not b && is_in_part s.parts s.part id) (has_ids parts.initial_outcomes id)))
      ∙ ap (λ (xs : List ℕ). take (length xs) missing) plan.todo.1 ∙ take_again plan.todo.0 missing ∙ sym plan.todo.1

  abbrev at : ℕ → ℕ
  at place = get_or parts.todo place 0

  -- a place is open if it is claimed and its id is not posted
  opened : (next : ℕ) (l : List Entry) (j : ℕ) (b c : Bool) → nat_lt j next ≡ b → (times (at j) (ids_of l) == 0) ≡ c → open_at parts next l j ≡ cond (b && c) (Some (at j)) None
  opened next l j b c e f = λ i. cond (e i && f i) (Some (at j)) None

  -- ---- a claim

  open_ids_claimed : (d : ℕ) (l : List Entry) → d < length parts.todo → times (at d) (ids_of l) ≡ 0 → (j : ℕ) → j < length parts.todo
      → cond (j == d) (Some (at d)) (open_at parts (min d (length parts.todo)) l j) ≡ open_at parts (min (d + 1) (length parts.todo)) l j
  open_ids_claimed d l below new j inside = dite (ℕ_discrete j d)
      (λ here. ap (λ (b : Bool). cond b (Some (at d)) (open_at parts (min d (length parts.todo)) l j)) (eq-eqb j d here)
      ∙ ap (λ (k : ℕ). Some (at k)) (sym here)
      ∙ sym (opened (min (d + 1) (length parts.todo)) l j true true (lt-ltb j (min (d + 1) (length parts.todo)) (omega (arith, here, inside)))
      (eq-eqb (times (at j) (ids_of l)) 0 (ap (λ (k : ℕ). times (at k) (ids_of l)) here ∙ new))))
      (λ apart. ap (λ (b : Bool). cond b (Some (at d)) (open_at parts (min d (length parts.todo)) l j)) (ne_eqb j d apart)
      ∙ dite (dec_le d j)
      (λ late. opened (min d (length parts.todo)) l j false (times (at j) (ids_of l) == 0) (le-ltb j (min d (length parts.todo)) (omega arith)) refl
      ∙ sym (opened (min (d + 1) (length parts.todo)) l j false (times (at j) (ids_of l) == 0) (le-ltb j (min (d + 1) (length parts.todo)) (after d j late apart)) refl))
      (λ not_late. let early = lt_of_not-le not_late in
      opened (min d (length parts.todo)) l j true (times (at j) (ids_of l) == 0) (lt-ltb j (min d (length parts.todo)) (omega arith)) refl
      ∙ sym (opened (min (d + 1) (length parts.todo)) l j true (times (at j) (ids_of l) == 0) (lt-ltb j (min (d + 1) (length parts.todo)) (omega arith)) refl)))
    where
      after : (d j : ℕ) → d ≤ j → (j ≡ d → ⊥) → min (d + 1) (length parts.todo) ≤ j
      after d j le differ = dite (dec_le (d + 1) j) (λ more. omega arith) (λ not_more. let less = lt_of_not-le not_more in absurd (differ (omega arith)))

  pub claim_event : (d : ℕ) (l : List Entry) → d < length parts.todo → times (at d) (ids_of l) ≡ 0
      → step (machine_of parts d l) (Claim d) ≡ (machine_of parts (d + 1) l, Claimed (at d))
  claim_event d l below new =
      let m = machine_of parts d l in
      let next : min d (length parts.todo) ≡ d = omega arith in
      let one_more : min d (length parts.todo) + 1 ≡ min (d + 1) (length parts.todo) = omega arith in
      let free : slice_get m.open_ids d ≡ Some None =
      get-map_below (length parts.todo) (open_at parts (min d (length parts.todo)) l) d below
      ∙ ap (λ (o : Option ℕ). Some o) (opened (min d (length parts.todo)) l d false (times (at d) (ids_of l) == 0) (le-ltb d (min d (length parts.todo)) (omega arith)) refl) in
      let is_next : slice_get (todo m) m.next ≡ Some (at d) = ap (λ (xs : List ℕ). slice_get xs m.next) (todo_is d l) ∙ ap (slice_get parts.todo) next ∙ get_in parts.todo d below in
      let open_ids : set m.open_ids d (Some (at d)) ≡ map_below (length parts.todo) (open_at parts (min (d + 1) (length parts.todo)) l) =
      set-map_below (length parts.todo) (open_at parts (min d (length parts.todo)) l) d (Some (at d)) below
      ∙ map_below_same (length parts.todo) _ _ (open_ids_claimed d l below new) in
      ap (claim m d) free ∙ ap (claimed m d) is_next ∙ (λ i. (record m { next = one_more i; open_ids = open_ids i }, Claimed (at d)))

  -- ---- a post

  open_ids_posted : (next p : ℕ) (l : List Entry) (t i : ℕ) (saved : Bool) → p < length parts.todo → i ≡ at p → (j : ℕ) → j < length parts.todo
      → cond (j == p) None (open_at parts next l j) ≡ open_at parts next (l ++ post_of t i saved ∷ []) j
  open_ids_posted next p l t i saved below is j inside =
      let more : times (at j) (ids_of (l ++ post_of t i saved ∷ [])) ≡ times (at j) (ids_of l) + one (at j) i =
      ap (times (at j)) (map-append posted_id l (post_of t i saved ∷ [])) ∙ times_push (at j) (ids_of l) i in
      dite (ℕ_discrete j p)
      (λ here.
      let same : at j ≡ i = ap at here ∙ sym is in
      let some_post : times (at j) (ids_of (l ++ post_of t i saved ∷ [])) ≢ 0 = λ z. absurd (omega (arith, z, more, ap (one (at j)) (sym same), one_same (at j))) in
      ap (λ (b : Bool). cond b None (open_at parts next l j)) (eq-eqb j p here)
      ∙ sym (opened next (l ++ post_of t i saved ∷ []) j (nat_lt j next) false refl (ne_eqb _ 0 some_post)
      ∙ ap (λ (b : Bool). cond b (Some (at j)) None) (and_right (nat_lt j next) false refl)))
      (λ apart.
      let other : one (at j) i ≡ 0 = ap (λ (b : Bool). cond b 1 0) (ne_eqb i (at j) (λ h. apart (two_places parts.todo j p (todo_once parts plan) inside below (sym h ∙ is)))) in
      let as_before : times (at j) (ids_of (l ++ post_of t i saved ∷ [])) ≡ times (at j) (ids_of l) = omega (arith, more, other) in
      ap (λ (b : Bool). cond b None (open_at parts next l j)) (ne_eqb j p apart)
      ∙ ap (λ (k : ℕ). cond (nat_lt j next && (k == 0)) (Some (at j)) None) (sym as_before))

  pub post_event : (d p : ℕ) (l : List Entry) (t i : ℕ) (saved : Bool) → p < min d (length parts.todo) → i ≡ at p → times i (ids_of l) ≡ 0
      → state_after (machine_of parts d l) (post_events p saved) ≡ machine_of parts d (l ++ post_of t i saved ∷ [])
  post_event d p l t i saved below is unposted =
      let m = machine_of parts d l in
      let next = min d (length parts.todo) in
      let inside : p < length parts.todo = omega arith in
      let open_here : slice_get m.open_ids p ≡ Some (Some i) =
      get-map_below (length parts.todo) (open_at parts next l) p inside
      ∙ ap (λ (o : Option ℕ). Some o) (opened next l p true true (lt-ltb p next below) (eq-eqb (times (at p) (ids_of l)) 0 (ap (λ (k : ℕ). times k (ids_of l)) (sym is) ∙ unposted))
      ∙ ap (λ (k : ℕ). Some k) (sym is)) in
      let done_more : (initial_ids parts ++ ids_of l) ++ i ∷ [] ≡ initial_ids parts ++ ids_of (l ++ post_of t i saved ∷ []) =
      append_assoc (initial_ids parts) (ids_of l) (i ∷ []) ∙ ap (λ (ids : List ℕ). initial_ids parts ++ ids) (sym (map-append posted_id l (post_of t i saved ∷ []))) in
      let open_ids : set m.open_ids p None ≡ map_below (length parts.todo) (open_at parts next (l ++ post_of t i saved ∷ [])) =
      set-map_below (length parts.todo) (open_at parts next l) p None inside ∙ map_below_same (length parts.todo) _ _ (open_ids_posted next p l t i saved inside is) in
      by saved (ap (post m p) open_here) done_more open_ids
    where
      by : (s : Bool) → step (machine_of parts d l) (Post p)
          ≡ (record (machine_of parts d l) { done = (initial_ids parts ++ ids_of l) ++ i ∷ []; open_ids = set (machine_of parts d l).open_ids p None }, Posted i)
          → (initial_ids parts ++ ids_of l) ++ i ∷ [] ≡ initial_ids parts ++ ids_of (l ++ post_of t i s ∷ [])
          → set (machine_of parts d l).open_ids p None ≡ map_below (length parts.todo) (open_at parts (min d (length parts.todo)) (l ++ post_of t i s ∷ []))
          → state_after (machine_of parts d l) (post_events p s) ≡ machine_of parts d (l ++ post_of t i s ∷ [])
      by false stepped done_more open_ids =
          let count : saves_made l ≡ saves_made (l ++ post_of t i false ∷ []) = let more = saves-push l (post_of t i false) in omega arith in
          let saved_same : initial_ids parts ++ ids_of (up_to_save (saves_made l) l) ≡ initial_ids parts ++ ids_of (up_to_save (saves_made (l ++ post_of t i false ∷ [])) (l ++ post_of t i false ∷ [])) =
          ap (λ (q : List Entry). initial_ids parts ++ ids_of q)
          (sym (up_to_save-kept l (post_of t i false) (saves_made l) (omega arith)) ∙ ap (λ (n : ℕ). up_to_save n (l ++ post_of t i false ∷ [])) count) in
          ap (λ (r : Machine × Did). r.0) stepped ∙ (λ k. record (machine_of parts d l) { done = done_more k; open_ids = open_ids k; saved = saved_same k })
      by true stepped done_more open_ids =
          let count : saves_made (l ++ post_of t i true ∷ []) ≡ saves_made l + 1 = saves-push l (post_of t i true) in
          let saved_all : (initial_ids parts ++ ids_of l) ++ i ∷ [] ≡ initial_ids parts ++ ids_of (up_to_save (saves_made (l ++ post_of t i true ∷ [])) (l ++ post_of t i true ∷ [])) =
          done_more ∙ ap (λ (q : List Entry). initial_ids parts ++ ids_of q) (sym (up_to_save-all l t i (saves_made (l ++ post_of t i true ∷ [])) count)) in
          ap (λ (r : Machine × Did). (step r.0 Save).0) stepped ∙ (λ k. record (machine_of parts d l) { done = done_more k; open_ids = open_ids k; saved = saved_all k })
