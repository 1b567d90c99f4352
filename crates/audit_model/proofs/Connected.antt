-- The test of connectedness decides if any two units have a path.
use Rattle.std.proofs.Common.{◌≡◌, ℕ, zero, suc, ◌+◌, ◌-◌, ◌<◌, ◌≤◌, Bool, true, false, cond, ◌&&◌, ◌||◌, List, [], ◌∷◌, ◌++◌, refl, sym, ◌∙◌, subst, inl, inr, arith}
use Rattle.std.specs.Prelude.{◌==◌, ◌⊎◌}
use Rattle.std.specs.List.{list_any, list_all}
use Rattle.std.proofs.lemmas.Bool.{and_parts, or_cases, and_from, or_left, or_right, cases_Bool, cases_eq, cond-true, cond-false, eqb-true, eq-eqb, false≢true, both_ways}
use Rattle.audit_model.specs.Below.{filter_below, count_below}
use Rattle.audit_model.specs.Graph.{Graph, has, adjacent, IsIn}
use Rattle.audit_model.specs.Path.{IsPath, HasPath, IsConnected, members, one_step_from, within_steps, reached, all_joined, is_connected}
use Rattle.audit_model.proofs.Below.{count_below_le}
use Rattle.audit_model.proofs.Every.{all_from_each, each_from_all, some_from_any, any_from_has}

-- ---- membership in lists

-- a member of the first list is a member of the appended list
pub has-append_left : (xs ys : List ℕ) (n : ℕ) → has xs n ≡ true → has (xs ++ ys) n ≡ true
has-append_left [] ys n h = absurd (false≢true h)
has-append_left (x ∷ xs) ys n h = elim (or_cases (x == n) (has xs n) h) [
  | inl e ↦ or_left (x == n) (has (xs ++ ys) n) e
  | inr e ↦ or_right (x == n) (has (xs ++ ys) n) (has-append_left xs ys n e)
]

-- a member of the second list is a member of the appended list
pub has-append_right : (xs ys : List ℕ) (n : ℕ) → has ys n ≡ true → has (xs ++ ys) n ≡ true
has-append_right [] ys n h = h
has-append_right (x ∷ xs) ys n h = or_right (x == n) (has (xs ++ ys) n) (has-append_right xs ys n h)

-- a member of the appended list is one of either list
pub has-append_parts : (xs ys : List ℕ) (n : ℕ) → has (xs ++ ys) n ≡ true → (has xs n ≡ true) ⊎ (has ys n ≡ true)
has-append_parts [] ys n h = inr h
has-append_parts (x ∷ xs) ys n h = elim (or_cases (x == n) (has (xs ++ ys) n) h) [
  | inl e ↦ inl (or_left (x == n) (has xs n) e)
  | inr e ↦ elim (has-append_parts xs ys n e) [
    | inl f ↦ inl (or_right (x == n) (has xs n) f)
    | inr f ↦ inr f
  ]
]

-- a member of a list of at most one number is that number
has_last : (b : Bool) (n m : ℕ) → has (cond b (n ∷ []) []) m ≡ true → (b ≡ true) × (n ≡ m)
has_last true n m h = elim (or_cases (n == m) false h) [
  | inl e ↦ (refl, eqb-true n m e)
  | inr e ↦ absurd (false≢true e)
]
has_last false n m h = absurd (false≢true h)

-- a kept number is below the bound and passes the test
pub has-filter_below : (bound : ℕ) (test : ℕ → Bool) (n : ℕ) → has (filter_below bound test) n ≡ true → (n < bound) × (test n ≡ true)
has-filter_below zero test n h = absurd (false≢true h)
has-filter_below (suc bound) test n h = elim (has-append_parts (filter_below bound test) (cond (test bound) (bound ∷ []) []) n h) [
  | inl e ↦ let found = has-filter_below bound test n e in (omega (arith, found.0), found.1)
  | inr e ↦ let last = has_last (test bound) bound n e in (omega (arith, last.1), subst (λ m. test m ≡ true) last.1 last.0)
]

-- a number that is kept is a member
last_has : (b : Bool) (n : ℕ) → b ≡ true → has (cond b (n ∷ []) []) n ≡ true
last_has true n h = or_left (n == n) false (eq-eqb n n refl)
last_has false n h = absurd (false≢true h)

-- a number below the bound that passes is kept
pub filter_below-has : (bound : ℕ) (test : ℕ → Bool) (n : ℕ) → n < bound → test n ≡ true → has (filter_below bound test) n ≡ true
filter_below-has zero test n l h = absurd (omega arith)
filter_below-has (suc bound) test n l h = elim (cases_eq n bound) [
  | inl e ↦ has-append_right (filter_below bound test) (cond (test bound) (bound ∷ []) []) n
      (subst (λ m. has (cond (test bound) (bound ∷ []) []) m ≡ true) (sym e) (last_has (test bound) bound (subst (λ m. test m ≡ true) e h)))
  | inr e ↦ has-append_left (filter_below bound test) (cond (test bound) (bound ∷ []) []) n (filter_below-has bound test n (omega arith) h)
]

-- ---- counts

-- a weaker test has a greater count, or agrees below the bound
pub grows : (n : ℕ) (p q : ℕ → Bool) → ((v : ℕ) → v < n → p v ≡ true → q v ≡ true)
    → (count_below n p < count_below n q) ⊎ ((count_below n p ≤ count_below n q) × ((v : ℕ) → v < n → q v ≡ true → p v ≡ true))
unfolding count_below
grows zero p q weaker = inr (omega arith, λ v l h. absurd (omega arith))
grows (suc n) p q weaker = elim (cases_Bool (p n)) [
  | inl yes-p ↦
      let e : cond {A = ℕ} (p n) 1 0 ≡ 1 = cond-true {A = ℕ} (p n) 1 0 yes-p in
      let f : cond {A = ℕ} (q n) 1 0 ≡ 1 = cond-true {A = ℕ} (q n) 1 0 (weaker n (omega arith) yes-p) in
      elim (grows n p q (λ v l h. weaker v (omega arith) h)) [
        | inl more ↦ inl (omega (arith, e, f))
        | inr same ↦ inr (
          omega (arith, same.0, e, f),
          λ v l h. elim (cases_eq v n) [
            | inl at ↦ subst (λ w. p w ≡ true) (sym at) yes-p
            | inr off ↦ same.1 v (omega arith) h
          ],
        )
      ]
  | inr no-p ↦ elim (cases_Bool (q n)) [
    | inl yes-q ↦
        let e : cond {A = ℕ} (p n) 1 0 ≡ 0 = cond-false {A = ℕ} (p n) 1 0 no-p in
        let f : cond {A = ℕ} (q n) 1 0 ≡ 1 = cond-true {A = ℕ} (q n) 1 0 yes-q in
        elim (grows n p q (λ v l h. weaker v (omega arith) h)) [
          | inl more ↦ inl (omega (arith, e, f))
          | inr same ↦ inl (omega (arith, same.0, e, f))
        ]
    | inr no-q ↦
        let e : cond {A = ℕ} (p n) 1 0 ≡ 0 = cond-false {A = ℕ} (p n) 1 0 no-p in
        let f : cond {A = ℕ} (q n) 1 0 ≡ 0 = cond-false {A = ℕ} (q n) 1 0 no-q in
        elim (grows n p q (λ v l h. weaker v (omega arith) h)) [
          | inl more ↦ inl (omega (arith, e, f))
          | inr same ↦ inr (
            omega (arith, same.0, e, f),
            λ v l h. elim (cases_eq v n) [
              | inl at ↦ absurd (both_ways (q n) no-q (subst (λ w. q w ≡ true) at h))
              | inr off ↦ same.1 v (omega arith) h
            ],
          )
        ]
  ]
]

-- ---- one more step

module _ (g : Graph) (inside : ℕ → Bool) where
  -- a unit after the step is in the set, and among the units before or adjacent to one
  one_step_parts : (units : List ℕ) (v : ℕ) → has (one_step_from g inside units) v ≡ true
      → IsIn g inside v × ((has units v ≡ true) ⊎ (list_any (λ u. adjacent g u v) units ≡ true))
  one_step_parts units v h =
      let found = has-filter_below g.units (λ w. inside w && (has units w || list_any (λ u. adjacent g u w) units)) v h in
      let both = and_parts (inside v) (has units v || list_any (λ u. adjacent g u v) units) found.1 in
      ((found.0, both.0), or_cases (has units v) (list_any (λ u. adjacent g u v) units) both.1)

  one_step_keeps : (units : List ℕ) (v : ℕ) → IsIn g inside v → has units v ≡ true → has (one_step_from g inside units) v ≡ true
  one_step_keeps units v i h = filter_below-has g.units (λ w. inside w && (has units w || list_any (λ u. adjacent g u w) units)) v i.0
      (and_from (inside v) _ i.1 (or_left (has units v) (list_any (λ u. adjacent g u v) units) h))

  -- some unit of the list is adjacent
  adjacent_from : (units : List ℕ) (u v : ℕ) → has units u ≡ true → adjacent g u v ≡ true → list_any (λ w. adjacent g w v) units ≡ true
  adjacent_from [] u v h a = absurd (false≢true h)
  adjacent_from (x ∷ xs) u v h a = elim (or_cases (x == u) (has xs u) h) [
    | inl e ↦ or_left (adjacent g x v) (list_any (λ w. adjacent g w v) xs) (subst (λ w. adjacent g w v ≡ true) (sym (eqb-true x u e)) a)
    | inr e ↦ or_right (adjacent g x v) (list_any (λ w. adjacent g w v) xs) (adjacent_from xs u v e a)
  ]

  adjacent_to : (units : List ℕ) (v : ℕ) → list_any (λ w. adjacent g w v) units ≡ true → (u : ℕ) × (has units u ≡ true) × (adjacent g u v ≡ true)
  adjacent_to [] v h = absurd (false≢true h)
  adjacent_to (x ∷ xs) v h = elim (or_cases (adjacent g x v) (list_any (λ w. adjacent g w v) xs) h) [
    | inl e ↦ (x, or_left (x == x) (has xs x) (eq-eqb x x refl), e)
    | inr e ↦ let found = adjacent_to xs v e in (found.0, or_right (x == found.0) (has xs found.0) found.1, found.2)
  ]

  one_step_reaches : (units : List ℕ) (u v : ℕ) → IsIn g inside v → has units u ≡ true → adjacent g u v ≡ true → has (one_step_from g inside units) v ≡ true
  one_step_reaches units u v i h a = filter_below-has g.units (λ w. inside w && (has units w || list_any (λ u. adjacent g u w) units)) v i.0
      (and_from (inside v) _ i.1 (or_right (has units v) (list_any (λ w. adjacent g w v) units) (adjacent_from units u v h a)))

  -- more units before the step give more units after it
  one_step_more : (units others : List ℕ) → ((u : ℕ) → has units u ≡ true → has others u ≡ true)
      → (v : ℕ) → has (one_step_from g inside units) v ≡ true → has (one_step_from g inside others) v ≡ true
  one_step_more units others more v h =
      let parts = one_step_parts units v h in
      elim parts.1 [
        | inl e ↦ one_step_keeps others v parts.0 (more v e)
        | inr e ↦ let found = adjacent_to units v e in one_step_reaches others found.0 v parts.0 (more found.0 found.1) found.2
      ]

  -- ---- paths

  -- extending a path by one unit
  pub path_more : (units : List ℕ) (x u v : ℕ) → IsPath g inside units x u → IsIn g inside v → adjacent g u v ≡ true → IsPath g inside (units ++ v ∷ []) x v
  path_more [] x u v p i a = absurd p
  path_more (y ∷ []) x u v p i a = (p.0, p.2, subst (λ w. adjacent g w v ≡ true) (sym p.1) a, (refl, refl, i))
  path_more (y ∷ z ∷ rest) x u v p i a = (p.0, p.1, p.2, path_more (z ∷ rest) z u v p.3 i a)

  module _ (x : ℕ) where
    -- each unit found has a path
    found_has_path : (steps v : ℕ) → has (within_steps g inside x steps) v ≡ true → HasPath g inside x v
    found_has_path zero v h =
        let found = has-filter_below g.units (λ w. inside w && (w == x)) v h in
        let both = and_parts (inside v) (v == x) found.1 in
        (v ∷ [], (eqb-true v x both.1, refl, (found.0, both.0)))
    found_has_path (suc steps) v h =
        let parts = one_step_parts (within_steps g inside x steps) v h in
        elim parts.1 [
          | inl e ↦ found_has_path steps v e
          | inr e ↦
              let found = adjacent_to (within_steps g inside x steps) v e in
              let path = found_has_path steps found.0 found.1 in
              (path.0 ++ v ∷ [], path_more path.0 x found.0 v path.1 parts.0 found.2)
        ]

    found_is_in : (steps v : ℕ) → has (within_steps g inside x steps) v ≡ true → IsIn g inside v
    found_is_in zero v h =
        let found = has-filter_below g.units (λ w. inside w && (w == x)) v h in
        (found.0, (and_parts (inside v) (v == x) found.1).0)
    found_is_in (suc steps) v h = (one_step_parts (within_steps g inside x steps) v h).0

    start_found : IsIn g inside x → has (within_steps g inside x 0) x ≡ true
    start_found i = filter_below-has g.units (λ w. inside w && (w == x)) x i.0 (and_from (inside x) (x == x) i.1 (eq-eqb x x refl))

    found_more : (steps v : ℕ) → has (within_steps g inside x steps) v ≡ true → has (within_steps g inside x (suc steps)) v ≡ true
    found_more steps v h = one_step_keeps (within_steps g inside x steps) v (found_is_in steps v h) h

    -- if a path continues from a unit found, its end is found
    path_found : (units : List ℕ) (u v steps : ℕ) → IsPath g inside units u v → has (within_steps g inside x steps) u ≡ true
        → (more : ℕ) × (has (within_steps g inside x more) v ≡ true)
    path_found [] u v steps p h = absurd p
    path_found (y ∷ []) u v steps p h = (steps, subst (λ w. has (within_steps g inside x steps) w ≡ true) (sym p.0 ∙ p.1) h)
    path_found (y ∷ z ∷ rest) u v steps p h =
        path_found (z ∷ rest) z v (suc steps) p.3
        (one_step_reaches (within_steps g inside x steps) y z (first_in z rest v p.3) (subst (λ w. has (within_steps g inside x steps) w ≡ true) (sym p.0) h) p.2)
      where
        first_in : (z : ℕ) (rest : List ℕ) (v : ℕ) → IsPath g inside (z ∷ rest) z v → IsIn g inside z
        first_in z [] v q = q.2
        first_in z (w ∷ rest) v q = q.1

    -- ---- no path needs more steps than there are units

    -- one more step finds nothing new
    IsSaturated : ℕ → Type 0
    IsSaturated steps = (v : ℕ) → has (within_steps g inside x (suc steps)) v ≡ true → has (within_steps g inside x steps) v ≡ true

    saturated_next : (steps : ℕ) → IsSaturated steps → IsSaturated (suc steps)
    unfolding IsSaturated
    saturated_next steps saturated v h = one_step_more (within_steps g inside x (suc steps)) (within_steps g inside x steps) saturated v h

    -- equal numbers of steps find equal units
    steps_same : (j k v : ℕ) → j ≡ k → has (within_steps g inside x j) v ≡ true → has (within_steps g inside x k) v ≡ true
    steps_same j k v e h = subst (λ i. has (within_steps g inside x i) v ≡ true) e h

    saturated_same : (j k : ℕ) → j ≡ k → IsSaturated j → IsSaturated k
    saturated_same j k e h = subst IsSaturated e h

    saturated_on : (steps more : ℕ) → IsSaturated steps → IsSaturated (more + steps)
    saturated_on steps zero saturated = saturated_same steps (zero + steps) (omega arith) saturated
    saturated_on steps (suc more) saturated = saturated_same (suc (more + steps)) (suc more + steps) (omega arith) (saturated_next (more + steps) (saturated_on steps more saturated))

    found_early : (steps more v : ℕ) → IsSaturated steps → has (within_steps g inside x (more + steps)) v ≡ true → has (within_steps g inside x steps) v ≡ true
    unfolding IsSaturated
    found_early steps zero v saturated h = steps_same (zero + steps) steps v (omega arith) h
    found_early steps (suc more) v saturated h =
        found_early steps more v saturated (saturated_on steps more saturated v (steps_same (suc more + steps) (suc (more + steps)) v (omega arith) h))

    found_later : (steps more v : ℕ) → has (within_steps g inside x steps) v ≡ true → has (within_steps g inside x (more + steps)) v ≡ true
    found_later steps zero v h = steps_same steps (zero + steps) v (omega arith) h
    found_later steps (suc more) v h = steps_same (suc (more + steps)) (suc more + steps) v (omega arith) (found_more (more + steps) v (found_later steps more v h))

    -- the test of being found after some steps
    test_at : ℕ → ℕ → Bool
    test_at zero v = inside v && (v == x)
    test_at (suc steps) v = inside v && (has (within_steps g inside x steps) v || list_any (λ u. adjacent g u v) (within_steps g inside x steps))

    found_by_test : (steps : ℕ) → within_steps g inside x steps ≡ filter_below g.units (test_at steps)
    unfolding test_at
    found_by_test zero = refl
    found_by_test (suc steps) = refl

    found_passes : (steps v : ℕ) → has (within_steps g inside x steps) v ≡ true → test_at steps v ≡ true
    found_passes steps v h = (has-filter_below g.units (test_at steps) v (subst (λ l. has l v ≡ true) (found_by_test steps) h)).1

    passes_found : (steps v : ℕ) → v < g.units → test_at steps v ≡ true → has (within_steps g inside x steps) v ≡ true
    passes_found steps v l h = subst (λ l. has l v ≡ true) (sym (found_by_test steps)) (filter_below-has g.units (test_at steps) v l h)

    -- either fewer steps find all, or at least as many units are found as steps were taken
    saturates_or_grows : (steps : ℕ) → ((k : ℕ) × (k < steps) × IsSaturated k) ⊎ (steps ≤ count_below g.units (test_at steps))
    unfolding IsSaturated
    saturates_or_grows zero = inr (omega arith)
    saturates_or_grows (suc steps) = elim (saturates_or_grows steps) [
      | inl s ↦ inl (s.0, omega (arith, s.1), s.2)
      | inr grown ↦ elim (grows g.units (test_at steps) (test_at (suc steps))
          (λ v l h. found_passes (suc steps) v (found_more steps v (passes_found steps v l h)))) [
            | inl more ↦ inr (omega arith)
            | inr same ↦ inl (
              steps,
              omega arith,
              λ v h.
                  passes_found steps v (found_is_in (suc steps) v h).0 (same.1 v (found_is_in (suc steps) v h).0 (found_passes (suc steps) v h)),
            )
          ]
    ]

    saturates : (k : ℕ) × (k ≤ g.units) × IsSaturated k
    saturates = elim (saturates_or_grows (suc g.units)) [
      | inl s ↦ (s.0, omega (arith, s.1), s.2)
      | inr grown ↦ absurd (omega (arith, count_below_le g.units (test_at (suc g.units))))
    ]

    -- units found after any number of steps are found after as many steps as there are units
    found_reached : (steps v : ℕ) → has (within_steps g inside x steps) v ≡ true → has (reached g inside x) v ≡ true
    found_reached steps v h =
        let s = saturates in
        let early : has (within_steps g inside x s.0) v ≡ true = found_early s.0 steps v s.2
        (steps_same (s.0 + steps) (steps + s.0) v (omega arith) (found_later steps s.0 v h)) in
        steps_same (g.units - s.0 + s.0) g.units v (omega (arith, s.1)) (found_later s.0 (g.units - s.0) v early)

  -- a unit is reached exactly if a path leads to it
  pub reached_has_path : (x v : ℕ) → has (reached g inside x) v ≡ true → HasPath g inside x v
  reached_has_path x v h = found_has_path x g.units v h

  pub path_is_reached : (x v : ℕ) → IsIn g inside x → HasPath g inside x v → has (reached g inside x) v ≡ true
  path_is_reached x v i path =
      let found = path_found x path.0 x v 0 path.1 (start_found x i) in found_reached x found.0 v found.1

  -- ---- the two tests

  pub connected_passes : IsConnected g inside → is_connected g inside ≡ true
  connected_passes c =
      let units = members g inside in
      let member : (u : ℕ) → has units u ≡ true → IsIn g inside u = λ u h. has-filter_below g.units inside u h in
      and_from (list_any (λ u. inside u) units) (all_joined g inside units)
      (any_from_has (λ u. inside u) units c.inhabited.0 (filter_below-has g.units inside c.inhabited.0 c.inhabited.1.0 c.inhabited.1.1) c.inhabited.1.1)
      (all_from_each (λ x. list_all (λ y. has (reached g inside x) y) units) units
      (λ x hx. all_from_each (λ y. has (reached g inside x) y) units
      (λ y hy. path_is_reached x y (member x hx) (c.joined x y (member x hx) (member y hy)))))

  pub passes_connected : is_connected g inside ≡ true → IsConnected g inside
  passes_connected h =
      let units = members g inside in
      let parts = and_parts (list_any (λ u. inside u) units) (all_joined g inside units) h in
      let some = some_from_any (λ u. inside u) units parts.0 in
      record {
        inhabited = (some.0, has-filter_below g.units inside some.0 some.1);
        joined = λ x y ix iy. reached_has_path x y
            (each_from_all (λ y. has (reached g inside x) y) units y
            (each_from_all (λ x. list_all (λ y. has (reached g inside x) y) units) units x parts.1 (filter_below-has g.units inside x ix.0 ix.1))
            (filter_below-has g.units inside y iy.0 iy.1));
      }
