-- Ranges of the list of all ids, and the outcomes of the trajectories walked so far.
use Rattle.std.proofs.Common.{◌≡◌, ◌∙◌, refl, sym, ap, subst, ℕ, zero, suc, ◌+◌, ◌-◌, ◌<◌, ◌≤◌, inl, inr, min, Bool, true, false, cond, List, [], ◌∷◌, ◌++◌, length, map, take, drop, get_or, Some, All, append-nil, append_assoc, arith}
use Rattle.std.specs.Prelude.{◌==◌, nat_lt, IsPermutation}
use Rattle.std.specs.List.{slice_get, enumerate_from}
use Rattle.std.proofs.lemmas.Bool.{cases_eq, cases_lt, eq-eqb, ne_eqb, lt-ltb, le-ltb, or_left, or_right, or_from}
use Rattle.std.proofs.lemmas.List.{map-append, get_or-drop, get_or-take, length-take, length-drop}
use Rattle.std.proofs.lemmas.List.Folds.{list_any-append}
use Rattle.std.proofs.lemmas.List.Sorted.{All-permutation, IsPermutation-refl, IsPermutation-sym, IsPermutation-append_left, IsPermutation-trans, list_any-IsPermutation}
use Rattle.audit_model.specs.declared.outcome.Outcome.{Outcome}
use Rattle.audit_model.specs.declared.outcome.Stop.{Stop}
use Rattle.audit_model.specs.declared.setting.Ask.{Ask}
use Rattle.audit_model.specs.Below.{filter_below, map_below}
use Rattle.audit_model.specs.Job.{Job}
use Rattle.audit_model.specs.Run.{IsRight, total, has_id, by_id}
use Rattle.audit_model.specs.Stopping.{end_values, known_values, stop_of_known, stop_of, stops_by, stops_of, three_numbers}
use Rattle.audit_model.specs.Trajectory.{Draws, outcome, sequence}
use Rattle.audit_model.proofs.Fitting.{outcome_id}
use Rattle.audit_model.proofs.Below.{length-map_below, get_or-map_below}
use Rattle.claim_counter.specs.Walks.{found, IsTodo}
use Rattle.audit_statement.specs.Draw.{draw}
use Rattle.outcome_book.specs.Booked.{AreApart}
use Rattle.sequential_test.specs.Rounds.{found_below, AreIds, AreDecided, AreDecidedBelow}

-- ---- parts of the ids

-- a slice of the list of all ids has the ids between its bounds
pub ids_between : (n from to : ℕ) (all ids : List ℕ) → all ≡ map_below n (λ id. id) → from ≤ to → to ≤ n → ids ≡ take (to - from) (drop from all) → AreIds from to ids
ids_between n from to all ids whole order few is =
    let long : length all ≡ n = ap length whole ∙ length-map_below n (λ id. id) in
    let count : length ids ≡ to - from = ap length is ∙ omega (arith, length-take (to - from) (drop from all), length-drop from all, long, order, few) in
    record {
      count = omega arith;
      at = λ k d inside.
          let here : k < to - from = omega arith in
          ap (λ xs. get_or xs k d) is
          ∙ get_or-take (to - from) (drop from all) k d here
          ∙ get_or-drop from all k d
          ∙ ap (λ xs. get_or xs (from + k) d) whole
          ∙ get_or-map_below n (λ id. id) (from + k) d (omega arith);
    }

-- the list of all ids below n is the list of all ids below its own length
pub whole_ids : (n : ℕ) (all : List ℕ) → all ≡ map_below n (λ id. id) → all ≡ map_below (length all) (λ id. id)
whole_ids n all is = is ∙ ap (λ k. map_below k (λ id. id)) (let long : n ≡ length all = sym (ap length is ∙ length-map_below n (λ id. id)) in long)

-- ---- outcomes by id

module _ (f : ℕ → Outcome) (same : (id : ℕ) → (f id).id ≡ id) where
  has_true : (n id : ℕ) → id < n → has_id (map_below n f) id ≡ true
  has_true zero id l = absurd (omega (arith, l))
  has_true (suc n) id l = elim (cases_eq id n) [
    | inl e ↦
        list_any-append (λ (o : Outcome). o.id == id) (map_below n f) (f n ∷ [])
        ∙ or_right (has_id (map_below n f) id) (has_id (f n ∷ []) id) (or_left ((f n).id == id) false (eq-eqb (f n).id id (same n ∙ sym e)))
    | inr off ↦
        list_any-append (λ (o : Outcome). o.id == id) (map_below n f) (f n ∷ [])
        ∙ or_left (has_id (map_below n f) id) (has_id (f n ∷ []) id) (has_true n id (omega (arith, l, off)))
  ]

  has_false : (n id : ℕ) → n ≤ id → has_id (map_below n f) id ≡ false
  has_false zero id l = refl
  has_false (suc n) id l =
      list_any-append (λ (o : Outcome). o.id == id) (map_below n f) (f n ∷ [])
      ∙ or_from (has_id (map_below n f) id) (has_id (f n ∷ []) id) (has_false n id (omega (arith, l)))
      (or_from ((f n).id == id) false (ne_eqb (f n).id id (λ e. omega (arith, e, same n, l))) refl)

  has_is : (n id : ℕ) → has_id (map_below n f) id ≡ nat_lt id n
  has_is n id = elim (cases_lt id n) [
    | inl l ↦ has_true n id l ∙ sym (lt-ltb id n l)
    | inr past ↦ has_false n id past ∙ sym (le-ltb id n past)
  ]

  id_at : (n k : ℕ) (d : Outcome) → k < n → (get_or (map_below n f) k d).id ≡ k
  id_at n k d l = ap (λ (o : Outcome). o.id) (get_or-map_below n f k d l) ∙ same k

  below_apart : (n : ℕ) → AreApart (map_below n f)
  below_apart n i j d before inside e =
      let long = length-map_below n f in
      omega (arith, before, inside, long, e, id_at n i d (omega (arith, before, inside, long)), id_at n j d (omega (arith, inside, long)))

  each_found : (n : ℕ) → All (λ o. o ≡ f o.id) (map_below n f)
  each_found n k d inside =
      let l : k < n = omega (arith, inside, length-map_below n f) in
      get_or-map_below n f k d l ∙ ap f (sym (id_at n k d l))

  each_within : (n t : ℕ) → n ≤ t → All (λ o. o.id < t) (map_below n f)
  each_within n t few k d inside =
      let l : k < n = omega (arith, inside, length-map_below n f) in
      let e = id_at n k d l in
      omega (arith, e, l, few)

  -- the outcomes of the next ids extend the table of outcomes
  extend : (ids : List ℕ) (from : ℕ) → ((k d : ℕ) → k < length ids → get_or ids k d ≡ from + k) → map_below from f ++ map f ids ≡ map_below (from + length ids) f
  extend [] from at = append-nil (map_below from f) ∙ ap (λ n. map_below n f) (let e : from ≡ from + 0 = omega arith in e)
  extend (x ∷ rest) from at =
      let first : x ≡ from = at 0 0 (omega arith) ∙ (let e : from + 0 ≡ from = omega arith in e) in
      ap (λ y. map_below from f ++ f y ∷ map f rest) first
      ∙ sym (append_assoc (map_below from f) (f from ∷ []) (map f rest))
      ∙ extend rest (suc from) (λ k d inside. at (suc k) d (omega (arith, inside)) ∙ (let e : from + suc k ≡ suc from + k = omega arith in e))
      ∙ ap (λ n. map_below n f) (let e : suc from + length rest ≡ from + suc (length rest) = omega arith in e)

  kept_below : (to n : ℕ) → map f (filter_below n (λ id. nat_lt id to)) ≡ map_below (min n to) f
  kept_below to zero = ap (λ k. map_below k f) (let e : zero ≡ min zero to = omega arith in e)
  kept_below to (suc n) =
      map-append f (filter_below n (λ id. nat_lt id to)) (cond (nat_lt n to) (n ∷ []) [])
      ∙ ap (λ xs. xs ++ map f (cond (nat_lt n to) (n ∷ []) [])) (kept_below to n)
      ∙ elim (cases_lt n to) [
        | inl l ↦
            ap (λ b. map_below (min n to) f ++ map f (cond b (n ∷ []) [])) (lt-ltb n to l)
            ∙ ap (λ k. map_below k f ++ f n ∷ []) (let e : min n to ≡ n = omega (arith, l) in e)
            ∙ ap (λ k. map_below k f) (let e : suc n ≡ min (suc n) to = omega (arith, l) in e)
        | inr past ↦
            ap (λ b. map_below (min n to) f ++ map f (cond b (n ∷ []) [])) (le-ltb n to past)
            ∙ append-nil (map_below (min n to) f)
            ∙ ap (λ k. map_below k f) (let e : min n to ≡ min (suc n) to = omega (arith, past) in e)
      ]

-- the law of a book: if each outcome is a function of its id, the outcomes by rising id are that function over the ids
abbrev pub AreMapped : Type 0
AreMapped = (n : ℕ) (os : List Outcome) (test : ℕ → Bool) (f : ℕ → Outcome) → All (λ o. o ≡ f o.id) os → ((id : ℕ) → id < n → has_id os id ≡ test id)
    → by_id n os ≡ map f (filter_below n test)

module _ (job : Job) where
  abbrev f : ℕ → Outcome
  f = outcome job (draw job.setting.key)

  same : (id : ℕ) → (f id).id ≡ id
  same id = outcome_id job (draw job.setting.key) id

  -- the next ids can be walked once those before them were walked
  pub may_walk : (from to : ℕ) (ids : List ℕ) (kept : List Outcome) → AreIds from to ids → to ≤ total job → IsPermutation kept (found_below job from) → IsTodo job kept ids
  unfolding found_below
  may_walk from to ids kept are few walked = record {
    apart = λ i j d before inside e.
        let first = are.at i d (omega (arith, before, inside)) in
        let second = are.at j d inside in
        omega (arith, first, second, e, before);
    within = λ k d inside.
        let at = are.at k d inside in
        let count = are.count in
        omega (arith, at, count, inside, few);
    absent = λ k d inside.
        let id : ℕ = get_or ids k d in
        list_any-IsPermutation (λ (o : Outcome). o.id == id) kept (map_below from f) walked
        ∙ has_false f same from id (omega (arith, are.at k d inside));
  }

  -- the outcomes after the next ids are walked
  pub found_more : (from to : ℕ) (ids : List ℕ) (before after : List Outcome) → AreIds from to ids → IsPermutation before (found_below job from)
      → IsPermutation after (before ++ map (found job) ids) → IsPermutation after (found_below job to)
  unfolding found found_below
  found_more from to ids before after are walked moved =
      let all : map_below from f ++ map f ids ≡ map_below to f = extend f same ids from are.at ∙ ap (λ n. map_below n f) are.count in
      IsPermutation-trans after (before ++ map f ids) (map_below to f) moved
      (subst (IsPermutation (before ++ map f ids)) all (IsPermutation-append_left (map f ids) before (map_below from f) walked))

  -- the outcomes walked so far, by rising id
  pub found_sorted : AreMapped → (to : ℕ) (outcomes : List Outcome) → to ≤ total job → IsPermutation outcomes (found_below job to) → by_id (total job) outcomes ≡ found_below job to
  unfolding found_below
  found_sorted law to outcomes few moved =
      law (total job) outcomes (λ id. nat_lt id to) f
      (All-permutation (λ (o : Outcome). o ≡ f o.id) (map_below to f) outcomes (IsPermutation-sym outcomes (map_below to f) moved) (each_found f same to))
      (λ id inside. list_any-IsPermutation (λ (o : Outcome). o.id == id) outcomes (map_below to f) moved ∙ has_is f same to id)
      ∙ kept_below f same to (total job)
      ∙ ap (λ n. map_below n f) (let e : min (total job) to ≡ to = omega (arith, few) in e)

  pub found_apart : (to : ℕ) → AreApart (found_below job to)
  unfolding found_below
  found_apart to = below_apart f same to

  pub found_right : (to : ℕ) → to ≤ total job → IsRight job (draw job.setting.key) (found_below job to)
  unfolding found_below
  found_right to few = record { apart = below_apart f same to; below = each_within f same to (total job) few; found = each_found f same to }

  pub found_there : (to j : ℕ) → j < to → has_id (found_below job to) j ≡ true
  unfolding found_below
  found_there to j l = has_true f same to j l

-- ---- every ask is decided

-- the law of tests: if no endpoint is missing, each test has stopped
abbrev pub AllEndsDecide : Type 0
AllEndsDecide = (job : Job) (place : ℕ) (ask : Ask) (enough : ℕ) (outcomes : List Outcome)
    → ((j : ℕ) → j < job.setting.ends → has_id outcomes (job.setting.walks + j) ≡ true)
    → stop_of_known job (place, ask) enough outcomes ≡ Some (stop_of job (place, ask) (known_values job place outcomes) enough)

-- the outcomes of all endpoints decide every ask
pub all_decided : AllEndsDecide → (job : Job) → AreDecided job (found_below job (job.setting.walks + job.setting.ends))
all_decided law job place ask at =
    let outcomes = found_below job (job.setting.walks + job.setting.ends) in (
      stop_of job (place, ask) (known_values job place outcomes) job.setting.stop,
      law job place ask job.setting.stop outcomes (λ j l. found_there job (job.setting.walks + job.setting.ends) (job.setting.walks + j) (omega (arith, l))),
    )

-- the stops of the asks, one after the other
numbers_of : (g : ℕ × Ask → List ℕ) (asks : List Ask) (n : ℕ) (stops : List (List ℕ)) → length asks ≤ length stops
    → ((place : ℕ) (ask : Ask) → place < length asks → slice_get asks place ≡ Some ask → get_or stops place [] ≡ g (n + place, ask))
    → take (length asks) stops ≡ map g (enumerate_from n asks)
numbers_of g [] n stops enough each = refl
numbers_of g (ask ∷ asks) n [] enough each = absurd (omega arith)
numbers_of g (ask ∷ asks) n (s ∷ stops) enough each =
    ap (λ x. x ∷ take (length asks) stops) (each 0 ask (omega arith) refl ∙ ap (λ k. g (k, ask)) (let e : n + 0 ≡ n = omega arith in e))
    ∙ ap (λ xs. g (n, ask) ∷ xs) (numbers_of g asks (n + 1) stops (omega (arith, enough)) (λ place a inside at.
    each (suc place) a (omega (arith, inside)) at ∙ ap (λ k. g (k, a)) (let e : n + suc place ≡ n + 1 + place = omega arith in e)))

-- the law of tests: a stop that correct outcomes decide is the stop of all endpoints
abbrev pub AreFinal : Type 0
AreFinal = (job : Job) (draws : Draws) (place : ℕ) (ask : Ask) (enough : ℕ) (outcomes : List Outcome) (s : Stop) → IsRight job draws outcomes
    → stop_of_known job (place, ask) enough outcomes ≡ Some s → s ≡ stop_of job (place, ask) (end_values job place (sequence job draws)) enough

-- the stops decided for every ask are the stops of all endpoints
pub final_stops : AreFinal → (job : Job) (draws : Draws) (outcomes : List Outcome) (stops : List (List ℕ)) → IsRight job draws outcomes → 1 ≤ job.setting.stop
    → length job.setting.asks ≤ length stops → AreDecidedBelow job outcomes (length job.setting.asks) stops
    → take (length job.setting.asks) stops ≡ stops_of job (sequence job draws)
final_stops law job draws outcomes stops right some enough decided_so = by job.setting.stop refl some
  where
    by : (h : ℕ) → job.setting.stop ≡ h → 1 ≤ h → take (length job.setting.asks) stops ≡ stops_by h job (sequence job draws)
    by zero e some = absurd (omega (arith, some))
    by (suc h) e some = numbers_of (λ ask. three_numbers (stop_of job ask (end_values job ask.0 (sequence job draws)) (suc h))) job.setting.asks 0 stops enough (λ place ask inside at.
        let s = decided_so place ask inside at in
        s.numbers_are
        ∙ ap three_numbers (law job draws place ask job.setting.stop outcomes s.stop right s.decided_stop
        ∙ ap (λ n. stop_of job (place, ask) (end_values job place (sequence job draws)) n) e)
        ∙ ap (λ k. three_numbers (stop_of job (k, ask) (end_values job k (sequence job draws)) (suc h))) (let z : place ≡ 0 + place = omega arith in z))

-- ---- the first walks

-- no ids have no outcomes
pub found_none : (job : Job) → found_below job 0 ≡ []
unfolding found_below
found_none job = refl

-- an empty book has the outcomes from before the first walk
pub none_walked : (job : Job) (outcomes : List Outcome) → outcomes ≡ [] → IsPermutation outcomes (found_below job 0)
none_walked job outcomes none = subst (λ (xs : List Outcome). IsPermutation xs (found_below job 0)) (sym none)
    (subst (IsPermutation []) (sym (found_none job)) (IsPermutation-refl []))
