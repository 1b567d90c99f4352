-- Each later save of a run contains the earlier ones, and the number of saves if none failed.
use Rattle.std.proofs.Common.{◌≡◌, ℕ, zero, suc, ◌+◌, ◌*◌, ◌/◌, ◌%◌, ◌<◌, ◌≤◌, ◌==◌, ◌&&◌, ◌||◌, not, Bool, true, false, cond, List, [], ◌∷◌, ◌++◌, take, length, length-append, map, refl, sym, ap, ◌∙◌, subst, append_assoc, All, AllPairs, Contains, IsPermutation, suc-mul, div-add-mod', arith}
use Rattle.std.proofs.lemmas.Bool.{ne_eqb}
use Rattle.std.proofs.lemmas.List.{length-map, length-take, map-append}
use Rattle.std.proofs.lemmas.List.Elements.{All-cons, All-contains_itself, All-head, All-nil, All-tail, Contains-append_left}
use Rattle.std.proofs.lemmas.List.Sorted.{All-permutation, Contains-permutation, length_permutation}
use Rattle.audit_model.specs.Pair.{Pair}
use Rattle.audit_model.specs.Attempts.{Try}
use Rattle.audit_model.specs.declared.outcome.Outcome.{Outcome}
use Rattle.audit_model.specs.Job.{Job}
use Rattle.audit_model.specs.Run.{run_ids}
use Rattle.audit_model.specs.Trajectory.{outcome}
use Rattle.audit_model.specs.declared.place.Place.{Place}
use Rattle.audit_statement.specs.Draw.{draw}
use Rattle.audit_statement.specs.InOrder.{AreSavesFrom, IsSaveOfIds, last_succeeded_from, place_after, taken_in, saves_of}
use Rattle.audit_statement.specs.Chain.{IsContainedIn}
use Rattle.audit_statement.specs.Endings.{AreRunSaves, count_of_saves, first_place}

-- ---- lists

-- a member related to all others, before members related in pairs, gives members related in pairs
pairs_cons : {A : Type 0} (R : A → A → Type 0) (x : A) (xs : List A) → All (R x) xs → AllPairs R xs → AllPairs R (x ∷ xs)
pairs_cons R x xs first rest zero zero d before inside = absurd (omega arith)
pairs_cons R x xs first rest zero (suc j) d before inside = first j d (omega arith)
pairs_cons R x xs first rest (suc i) zero d before inside = absurd (omega arith)
pairs_cons R x xs first rest (suc i) (suc j) d before inside = rest i j d (omega arith) (omega arith)

-- a longer prefix is a shorter one and more
take_more : {A : Type 0} (a b : ℕ) (l : List A) → a ≤ b → (rest : List A) × (take b l ≡ take a l ++ rest)
take_more zero b l le = (take b l, refl)
take_more (suc a) zero l le = absurd (omega arith)
take_more (suc a) (suc b) [] le = ([], refl)
take_more (suc a) (suc b) (x ∷ l) le = let more = take_more a b l (omega arith) in (more.0, ap (λ xs. x ∷ xs) more.1)

-- a larger number of groups has at least as many members
more_groups : (every n m : ℕ) → n ≤ m → n * every ≤ m * every
more_groups every zero m le = (let none : 0 * every ≡ 0 = omega arith in omega (arith, none))
more_groups every (suc n) zero le = absurd (omega arith)
more_groups every (suc n) (suc m) le = let rest = more_groups every n m (omega arith) in omega (arith, rest, suc-mul n every, suc-mul m every)

module _ (job : Job) (initial_outcomes : List Outcome) (every : ℕ) (walked : List ℕ) (some_every : 1 ≤ every) where
  abbrev f : ℕ → Outcome
  f = outcome job (draw job.setting.key)

  abbrev From : ℕ → Place → List Try → Type 0
  From n place ts = AreSavesFrom job initial_outcomes every walked n place ts

  contained_in : (n m : ℕ) (place at : Place) (t u : Try) → n < m → IsSaveOfIds job initial_outcomes place (take (n * every) walked) t → IsSaveOfIds job initial_outcomes at (take (m * every) walked) u
      → (t.succeeded ≡ true → n * every < length walked) → IsContainedIn job t u
  contained_in n m place at t u less first second strict =
      let grows : suc n * every ≤ m * every = more_groups every (suc n) m (omega arith) in
      let le : n * every ≤ m * every = omega (arith, grows, suc-mul n every) in
      let ids = take (n * every) walked in
      let split = take_more (n * every) (m * every) walked le in
      let base = initial_outcomes ++ map f ids in
      let whole : initial_outcomes ++ map f (take (m * every) walked) ≡ base ++ map f split.0 =
      ap (λ l. initial_outcomes ++ map f l) split.1 ∙ ap (λ l. initial_outcomes ++ l) (map-append f ids split.0) ∙ sym (append_assoc initial_outcomes (map f ids) (map f split.0)) in
      let moved : IsPermutation (base ++ map f split.0) (taken_in job initial_outcomes (take (m * every) walked)) =
      subst (λ l. IsPermutation l (taken_in job initial_outcomes (take (m * every) walked))) whole second.all in
      record {
        first = taken_in job initial_outcomes ids;
        first_generation = place.generation;
        first_is = first.sound;
        second = taken_in job initial_outcomes (take (m * every) walked);
        second_generation = at.generation;
        second_is = second.sound;
        kept_outcomes = All-permutation (Contains (taken_in job initial_outcomes (take (m * every) walked))) base (taken_in job initial_outcomes ids) first.all
            (λ k d inside. Contains-permutation (base ++ map f split.0) (taken_in job initial_outcomes (take (m * every) walked)) _ moved
            (Contains-append_left base (map f split.0) _ (All-contains_itself base k d inside)));
        more = λ done.
            let short = strict done in
            let one = length_permutation base (taken_in job initial_outcomes ids) first.all in
            let two = length_permutation (base ++ map f split.0) (taken_in job initial_outcomes (take (m * every) walked)) moved in
            let parted = length-append base (map f split.0) in
            let others = length-map split.0 f in
            let a = length-take (n * every) walked in
            let b = length-take (m * every) walked in
            let c = ap length split.1 ∙ length-append ids split.0 in
            omega (arith, short, one, two, parted, others, a, b, c, grows, some_every, suc-mul n every);
      }

  each_later : (n m : ℕ) (place at : Place) (t : Try) (rest : List Try) → n < m → IsSaveOfIds job initial_outcomes place (take (n * every) walked) t → (t.succeeded ≡ true → 0 < length rest → n * every < length walked)
      → From m at rest → All (IsContainedIn job t) rest
  each_later n m place at t [] less first strict goes = All-nil (IsContainedIn job t)
  each_later n m place at t (u ∷ rest) less first strict goes =
      All-cons (IsContainedIn job t) u rest (contained_in n m place at t u less first goes.0 (λ done. strict done (omega arith)))
      (each_later n (suc m) place (place_after at u) t rest (omega arith) first (λ done some_left. strict done (omega arith)) goes.1)

  -- the number of saves due from the n-th on, with one more unless the last one saved everything
  abbrev Counted : ℕ → Bool → List Try → Type 0
  Counted k c ts = length ts ≡ k + cond {A = ℕ} ((length walked % every == 0) && last_succeeded_from c (take k ts)) 0 1

  at_most_one : (b : Bool) → cond {A = ℕ} b 0 1 ≤ 1
  at_most_one true = omega arith
  at_most_one false = omega arith

  -- if the last due save succeeded and is not the last save, more was walked
  last_left : (succeeded : Bool) (rest : ℕ) → succeeded ≡ true → rest ≡ cond {A = ℕ} ((length walked % every == 0) && succeeded) 0 1 → 0 < rest → length walked / every * every < length walked
  last_left succeeded rest done is some_left = by (length walked % every) refl
    where
      groups : length walked / every * every + length walked % every ≡ length walked
      groups = div-add-mod' (length walked) every

      by : (r : ℕ) → length walked % every ≡ r → length walked / every * every < length walked
      by zero none =
          let all : rest ≡ 0 = is ∙ (λ i. cond {A = ℕ} ((none i == 0) && done i) 0 1) in
          absurd (omega (arith, all, some_left))
      by (suc r) some_more = omega (arith, groups, some_more)

  grow : (n k : ℕ) (c : Bool) (place : Place) (ts : List Try) → n + k ≡ length walked / every + 1 → Counted k c ts → From n place ts → AllPairs (IsContainedIn job) ts
  grow n k c place [] at counted goes = λ i j d before inside. absurd (omega arith)
  grow n zero c place (t ∷ []) at counted goes = pairs_cons (IsContainedIn job) t [] (All-nil (IsContainedIn job t)) (λ i j d before inside. absurd (omega arith))
  grow n zero c place (t ∷ u ∷ rest) at counted goes =
      let most = at_most_one ((length walked % every == 0) && last_succeeded_from c []) in
      absurd (omega (arith, counted, most))
  grow n (suc k) c place (t ∷ rest) at counted goes =
      let left : Counted k t.succeeded rest = omega (arith, counted) in
      pairs_cons (IsContainedIn job) t rest
      (each_later n (suc n) place (place_after place t) t rest (omega arith) goes.0 (λ done some_left. strict k at left done some_left) goes.1)
      (grow (suc n) k t.succeeded (place_after place t) rest (omega (arith, at)) left goes.1)
    where
      strict : (j : ℕ) → n + suc j ≡ length walked / every + 1 → Counted j t.succeeded rest → t.succeeded ≡ true → 0 < length rest → n * every < length walked
      strict zero here left done some_left =
          let is : n ≡ length walked / every = omega (arith, here) in
          subst (λ (x : ℕ). x * every < length walked) (sym is) (last_left t.succeeded (length rest) done (omega (arith, left)) some_left)
      strict (suc j) here left done some_left =
          let grows = more_groups every (suc n) (length walked / every) (omega (arith, here)) in
          omega (arith, grows, suc-mul n every, div-add-mod' (length walked) every, some_every)

  -- ---- the number of saves

  abbrev Done : Try → Type 0
  Done t = t.succeeded ≡ true

  all_done : (ts : List Try) (c : Bool) → c ≡ true → All Done ts → last_succeeded_from c ts ≡ true
  all_done [] c is all = is
  all_done (t ∷ ts) c is all = all_done ts t.succeeded (All-head Done t ts all) (All-tail Done t ts all)

  done_first : (k : ℕ) (ts : List Try) → 0 < k → 0 < length ts → All Done ts → last_succeeded_from false (take k ts) ≡ true
  done_first zero ts some_k some_ts all = absurd (omega arith)
  done_first (suc k) [] some_k some_ts all = absurd (omega arith)
  done_first (suc k) (t ∷ ts) some_k some_ts all = all_done (take k ts) t.succeeded (All-head Done t ts all) (first_done k ts (All-tail Done t ts all))
    where
      first_done : (j : ℕ) (us : List Try) → All Done us → All Done (take j us)
      first_done zero us h = All-nil Done
      first_done (suc j) [] h = All-nil Done
      first_done (suc j) (u ∷ us) h = All-cons Done u (take j us) (All-head Done u us h) (first_done j us (All-tail Done u us h))

  swapped : (b : Bool) → cond {A = ℕ} (b && true) 0 1 ≡ cond {A = ℕ} (false || not b) 1 0
  swapped true = refl
  swapped false = refl

  none_whole : (b : Bool) → cond {A = ℕ} (b && false) 0 1 ≡ 1
  none_whole true = refl
  none_whole false = refl

  either_way : (n : ℕ) → ((n == 0) || not (n == 0)) ≡ true
  either_way zero = refl
  either_way (suc n) = ap (λ (b : Bool). b || not b) (ne_eqb (suc n) 0 (λ e. absurd (omega (arith, e))))

  all_counted : (ts : List Try) → All Done ts → Counted (length walked / every) false ts → length ts ≡ saves_of (length walked) every
  all_counted ts all counted = by (length walked / every) refl
    where
      by : (g : ℕ) → length walked / every ≡ g → length ts ≡ saves_of (length walked) every
      by zero none =
          let groups = div-add-mod' (length walked) every in
          let nothing : length walked / every * every ≡ 0 = ap (λ (k : ℕ). k * every) none ∙ (let z : 0 * every ≡ 0 = omega arith in z) in
          let rest : length walked % every ≡ length walked = omega (arith, groups, nothing) in
          let one : cond {A = ℕ} ((length walked == 0) || not (length walked % every == 0)) 1 0 ≡ 1 =
          ap (λ (k : ℕ). cond {A = ℕ} ((length walked == 0) || not (k == 0)) 1 0) rest ∙ ap (λ (b : Bool). cond {A = ℕ} b 1 0) (either_way (length walked)) in
          let first : cond {A = ℕ} ((length walked % every == 0) && last_succeeded_from false (take (length walked / every) ts)) 0 1 ≡ 1 =
          ap (λ (k : ℕ). cond {A = ℕ} ((length walked % every == 0) && last_succeeded_from false (take k ts)) 0 1) none ∙ none_whole (length walked % every == 0) in
          omega (arith, counted, one, first)
      by (suc g) some_groups =
          let groups = div-add-mod' (length walked) every in
          let one_group : 1 * every ≤ length walked / every * every = more_groups every 1 (length walked / every) (omega (arith, some_groups)) in
          let some_walked : length walked == 0 ≡ false = ne_eqb (length walked) 0 (λ e. absurd (omega (arith, e, groups, one_group, some_every))) in
          let done = done_first (length walked / every) ts (omega (arith, some_groups)) (omega (arith, counted, some_groups)) all in
          counted
          ∙ ap (λ (b : Bool). length walked / every + cond {A = ℕ} ((length walked % every == 0) && b) 0 1) done
          ∙ ap (λ (n : ℕ). length walked / every + n) (swapped (length walked % every == 0))
          ∙ ap (λ (b : Bool). length walked / every + cond {A = ℕ} (b || not (length walked % every == 0)) 1 0) (sym some_walked)

-- ---- the saves of a run

module _ (job : Job) (outcomes : List Outcome) (p : Pair) (attempts : List Try) (some_every : 1 ≤ job.setting.save_every) (s : AreRunSaves job outcomes p attempts) where
  pub later_hold_more : AllPairs (IsContainedIn job) attempts
  later_hold_more =
      grow job outcomes job.setting.save_every s.walked some_every 1 (length s.walked / job.setting.save_every) false (first_place job p) attempts (omega arith) s.exactly.counted s.exactly.each

  pub as_many_as_due : All (λ t. t.succeeded ≡ true) attempts → length attempts ≡ count_of_saves job outcomes
  as_many_as_due all =
      all_counted job outcomes job.setting.save_every s.walked some_every attempts all s.exactly.counted
      ∙ ap (λ (n : ℕ). saves_of n job.setting.save_every) (sym (length_permutation s.walked (run_ids job outcomes job.setting.budget) s.all_walked))
