-- Outcomes of different places, and the outcomes missing from a book.
use Rattle.std.proofs.Common.{◌≡◌, ◌∙◌, refl, sym, ap, subst, ℕ, zero, suc, ◌+◌, ◌<◌, ◌≤◌, ◌⊎◌, inl, inr, Bool, true, false, cond, ◌||◌, List, [], ◌∷◌, ◌++◌, length, map, get_or, All, AllPairs, arith}
use Rattle.std.specs.Prelude.{◌≢◌, ◌==◌, nat_lt, slice_index, IsFalse, IsPermutation}
use Rattle.std.specs.List.{range_with_len}
use Rattle.std.proofs.lemmas.Bool.{cases_order, ne_eqb}
use Rattle.std.proofs.lemmas.List.{map-append, get_or-map, length-map}
use Rattle.std.proofs.lemmas.List.Elements.{All-map}
use Rattle.std.proofs.lemmas.List.Folds.{list_any-append, list_any_none}
use Rattle.std.proofs.lemmas.List.Sorted.{IsPermutation-append_right, IsPermutation-map}
use Rattle.audit_model.specs.declared.outcome.Outcome.{Outcome}
use Rattle.audit_model.specs.Job.{Job}
use Rattle.audit_model.specs.Run.{total, has_id}
use Rattle.audit_model.specs.Trajectory.{outcome, outcome_by}
use Rattle.audit_model.specs.Times.{times, once_below}
use Rattle.audit_model.proofs.Times.{one_same, times-cons, times-append}
use Rattle.audit_statement.specs.Draw.{draw}
use Rattle.outcome_book.specs.Booked.{AreApart}
use Rattle.claim_counter.specs.Records.{AreDifferentBelow}
use Rattle.claim_counter.specs.Walks.{found, found_at, IsTodo, IsWithin}

-- no outcome is kept for the ids at the other places
abbrev pub Misses : List Outcome → List ℕ → List ℕ → Type 0
Misses kept todo places = (k : ℕ) → k < length todo → times k places ≡ 0 → IsFalse (has_id kept (slice_index todo k))

-- ---- lists in which no number stands twice

-- a member of a list occurs in it
times_at : (xs : List ℕ) (j d : ℕ) → j < length xs → 1 ≤ times (get_or xs j d) xs
times_at [] j d inside = absurd (omega arith)
times_at (x ∷ xs) zero d inside = omega (arith, times-cons x x xs, one_same x)
times_at (x ∷ xs) (suc j) d inside = omega (arith, times-cons (get_or xs j d) x xs, times_at xs j d (omega arith))

-- numbers that occur at most once differ
once_differ : (xs : List ℕ) → ((x : ℕ) → times x xs ≤ 1) → AllPairs (λ a b. a ≢ b) xs
once_differ [] once i j d before inside same = absurd (omega arith)
once_differ (x ∷ xs) once zero zero d before inside same = absurd (omega arith)
once_differ (x ∷ xs) once zero (suc j) d before inside same =
    let again : 1 ≤ times x xs = subst (λ k. 1 ≤ times k xs) (sym same) (times_at xs j d (omega arith)) in
    absurd (omega (arith, once x, times-cons x x xs, one_same x))
once_differ (x ∷ xs) once (suc i) zero d before inside same = absurd (omega arith)
once_differ (x ∷ xs) once (suc i) (suc j) d before inside same =
    once_differ xs (λ y. omega (arith, once y, times-cons y x xs)) i j d (omega arith) (omega arith) same

module _ (n : ℕ) (xs : List ℕ) (different : AreDifferentBelow n xs) where
  different_once : (x : ℕ) → times x xs ≤ 1
  different_once x = let most : once_below x n ≤ 1 = grind arith in omega (arith, different x)

  different_below : (j d : ℕ) → j < length xs → get_or xs j d < n
  different_below j d inside = by (nat_lt (get_or xs j d) n) refl
    where
      by : (b : Bool) → nat_lt (get_or xs j d) n ≡ b → get_or xs j d < n
      by true e = grind (arith, e)
      by false e =
          let none : once_below (get_or xs j d) n ≡ 0 = ap (λ (b : Bool). cond {A = ℕ} b 1 0) e in
          absurd (omega (arith, different (get_or xs j d), times_at xs j d inside))

-- a list of different numbers has each at one place
one_place : (xs : List ℕ) → AllPairs (λ a b. a ≢ b) xs → (a b : ℕ) → a < length xs → b < length xs → get_or xs a 0 ≡ get_or xs b 0 → a ≡ b
one_place xs apart a b first second same = by (cases_order a b)
  where
    by : (a ≡ b) ⊎ ((a < b) ⊎ (b < a)) → a ≡ b
    by (inl e) = e
    by (inr (inl before)) = absurd (apart a b 0 before second same)
    by (inr (inr after)) = absurd (apart b a 0 after first (sym same))

-- ---- what is found at places of todo

-- the outcome found for an id is its trajectory's outcome
pub found_is : (job : Job) (id : ℕ) → found job id ≡ outcome job (draw job.setting.key) id
unfolding found
found_is job id = refl

-- an outcome found for an id has that id
pub found_id : (job : Job) (id : ℕ) → (found job id).id ≡ id
unfolding found
found_id job id = by (nat_lt id job.setting.walks) job.setting.shift
  where
    by : (b bins : Bool) → (outcome_by b bins job (draw job.setting.key) id).id ≡ id
    by true bins = refl
    by false bins = refl

-- a worker's list with one more outcome
pub shared_more : (job : Job) (todo places more : List ℕ) (place : ℕ) (share longer : List Outcome) (o : Outcome)
    → share ≡ map (found_at job todo) places → more ≡ places ++ place ∷ [] → longer ≡ share ++ o ∷ []
    → o ≡ outcome job (draw job.setting.key) (get_or todo place 0) → longer ≡ map (found_at job todo) more
unfolding found
shared_more job todo places more place share longer o shared drawn appended is =
    appended
    ∙ ap (λ (xs : List Outcome). xs ++ o ∷ []) shared
    ∙ ap (λ (x : Outcome). map (found_at job todo) places ++ x ∷ []) is
    ∙ sym (ap (map (found_at job todo)) drawn ∙ map-append (found_at job todo) places (place ∷ []))

module _ (job : Job) (todo places : List ℕ) (different : AreDifferentBelow (length todo) places) where
  pub share_within : IsWithin job todo → All (λ o. o.id < total job) (map (found_at job todo) places)
  share_within within = All-map (λ (o : Outcome). o.id < total job) (found_at job todo) places
      (λ k d inside. subst (λ id. id < total job) (sym (found_id job (get_or todo (get_or places k d) 0)))
      (within (get_or places k d) 0 (different_below (length todo) places different k d inside)))

  pub share_apart : AllPairs (λ a b. a ≢ b) todo → AreApart (map (found_at job todo) places)
  share_apart apart i j d before inside same =
      let within : j < length places = omega (arith, inside, length-map places (found_at job todo)) in
      let here : i < length places = omega arith in
      once_differ places (different_once (length todo) places different) i j 0 before within
      (one_place todo apart (get_or places i 0) (get_or places j 0)
      (different_below (length todo) places different i 0 here) (different_below (length todo) places different j 0 within)
      (id_at i here ∙ same ∙ sym (id_at j within)))
    where
      id_at : (k : ℕ) → k < length places → get_or todo (get_or places k 0) 0 ≡ (get_or (map (found_at job todo) places) k d).id
      id_at k l = sym (ap (λ (o : Outcome). o.id) (get_or-map (found_at job todo) places k 0 d l) ∙ found_id job (get_or todo (get_or places k 0) 0))

  -- a book with the outcomes at these places has none for the other places
  pub misses_others : (kept : List Outcome) → IsTodo job kept todo → Misses (kept ++ map (found_at job todo) places) todo places
  misses_others kept is k inside none =
      let id = get_or todo k 0 in
      list_any-append (λ (o : Outcome). o.id == id) kept (map (found_at job todo) places)
      ∙ ap (λ b. b || has_id (map (found_at job todo) places) id) (is.absent k 0 inside)
      ∙ list_any_none (λ (o : Outcome). o.id == id) (map (found_at job todo) places)
      (All-map (λ (o : Outcome). (o.id == id) ≡ false) (found_at job todo) places (λ j d l.
      ne_eqb (found_at job todo (get_or places j d)).id id (λ same.
      let at : get_or places j d ≡ k = one_place todo is.apart (get_or places j d) k (different_below (length todo) places different j d l) inside
      (sym (found_id job (get_or todo (get_or places j d) 0)) ∙ same) in
      let stands : 1 ≤ times k places = subst (λ p. 1 ≤ times p places) at (times_at places j d l) in
      absurd (omega arith))))

-- a book has no outcome of a list whose places are others
pub share_absent : (job : Job) (todo before places : List ℕ) (kept : List Outcome) → AreDifferentBelow (length todo) (before ++ places)
    → AreDifferentBelow (length todo) places → Misses kept todo before → All (λ o. IsFalse (has_id kept o.id)) (map (found_at job todo) places)
share_absent job todo before places kept together different missing = All-map (λ (o : Outcome). has_id kept o.id ≡ false) (found_at job todo) places (λ k d inside.
    let place = get_or places k d in
    let none : times place before ≡ 0 =
    omega (arith, times-append place before places, different_once (length todo) (before ++ places) together place, times_at places k d inside) in
    subst (λ id. has_id kept id ≡ false) (sym (found_id job (get_or todo place 0)))
    (missing place (different_below (length todo) places different k d inside) none))

-- ---- all places

-- a function of the places is a function of the list's members
map_over_range : {A : Type 0} (g : ℕ → A) (f : ℕ → A) (xs : List ℕ) (a : ℕ) → ((k : ℕ) → k < length xs → g (a + k) ≡ f (get_or xs k 0))
    → map g (range_with_len a (length xs)) ≡ map f xs
map_over_range g f [] a same = refl
map_over_range g f (x ∷ xs) a same =
    let here : g a ≡ f x = ap g (let e : a ≡ a + 0 = omega arith in e) ∙ same 0 (omega arith) in
    ap (λ y. y ∷ map g (range_with_len (a + 1) (length xs))) here
    ∙ ap (λ ys. f x ∷ ys) (map_over_range g f xs (a + 1) (λ k l. ap g (let e : a + 1 + k ≡ a + suc k = omega arith in e) ∙ same (suc k) (omega arith)))

-- once all places are drawn, the outcomes found are those of all ids to do
pub all_found : (job : Job) (todo places : List ℕ) (kept : List Outcome) (n : ℕ) → IsPermutation places (range_with_len 0 n) → n ≡ length todo
    → IsPermutation (kept ++ map (found_at job todo) places) (kept ++ map (found job) todo)
all_found job todo places kept n all is =
    let each : map (found_at job todo) (range_with_len 0 n) ≡ map (found job) todo =
    ap (λ k. map (found_at job todo) (range_with_len 0 k)) is
    ∙ map_over_range (found_at job todo) (found job) todo 0 (λ k l. ap (found_at job todo) (let e : 0 + k ≡ k = omega arith in e)) in
    IsPermutation-append_right kept (map (found_at job todo) places) (map (found job) todo)
    (subst (IsPermutation (map (found_at job todo) places)) each (IsPermutation-map (found_at job todo) places (range_with_len 0 n) all))
