-- Laws of tests and counts below a bound.
use Rattle.std.proofs.Common.{◌≡◌, ℕ, zero, suc, ◌+◌, ◌<◌, ◌≤◌, Bool, true, false, cond, not, ◌&&◌, refl, sym, ap, ◌∙◌, subst, inl, inr, arith, add-one, [], ◌∷◌, length, length-append, ◌++◌, append-nil, get_or, List}
use Rattle.std.specs.Prelude.{◌==◌}
use Rattle.std.proofs.lemmas.Bool.{and_parts, and_from, and_right, cases_Bool, cases_eq, cond-true, cond-false, eq-eqb, ne_eqb, not_from_true, not_from_false, or_cases, false≢true, or_left, or_right, or_from}
use Rattle.audit_model.specs.Below.{all_below, count_below, any_below, sum_below, filter_below, map_below}
use Rattle.std.proofs.lemmas.List.{get_or_append_left, get_or_push}

-- if all numbers pass, each does
pub all_below_at : (n : ℕ) (test : ℕ → Bool) (k : ℕ) → all_below n test ≡ true → k < n → test k ≡ true
all_below_at zero test k all l = absurd (omega arith)
all_below_at (suc n) test k all l =
    let parts = and_parts (all_below n test) (test n) all in
    elim (cases_eq k n) [
      | inl e ↦ subst (λ m. test m ≡ true) (sym e) parts.1
      | inr e ↦ all_below_at n test k parts.0 (omega arith)
    ]

-- if each number passes, all do
pub all_below_from : (n : ℕ) (test : ℕ → Bool) → ((k : ℕ) → k < n → test k ≡ true) → all_below n test ≡ true
all_below_from zero test each = refl
all_below_from (suc n) test each = and_from (all_below n test) (test n) (all_below_from n test (λ k l. each k (omega arith))) (each n (omega arith))

-- tests that agree below the bound have equal counts
pub count_below_same : (n : ℕ) (p q : ℕ → Bool) → ((k : ℕ) → k < n → p k ≡ q k) → count_below n p ≡ count_below n q
unfolding count_below
count_below_same zero p q same = refl
count_below_same (suc n) p q same =
    ap (λ m. m + cond (p n) 1 0) (count_below_same n p q (λ k l. same k (omega arith)))
    ∙ ap (λ b. count_below n q + cond b 1 0) (same n (omega arith))

-- a count without one number that passes is one less
pub count_below_without : (n : ℕ) (test : ℕ → Bool) (x : ℕ) → x < n → test x ≡ true → count_below n test ≡ count_below n (λ k. test k && not (k == x)) + 1
unfolding count_below
count_below_without zero test x l h = absurd (omega arith)
count_below_without (suc n) test x l h = elim (cases_eq n x) [
  | inl e ↦
      let same : count_below n test ≡ count_below n (λ k. test k && not (k == x)) =
      count_below_same n test (λ k. test k && not (k == x)) (λ k below. sym (kept (test k) (k == x) (ne_eqb k x (λ at. omega (arith, at))))) in
      let one : cond {A = ℕ} (test n) 1 0 ≡ 1 = cond-true {A = ℕ} (test n) 1 0 (subst (λ m. test m ≡ true) (sym e) h) in
      let none : cond {A = ℕ} (test n && not (n == x)) 1 0 ≡ 0 = cond-false {A = ℕ} (test n && not (n == x)) 1 0
      (and_right (test n) (not (n == x)) (not_from_true (n == x) (eq-eqb n x e))) in
      omega (arith, same, one, none)
  | inr off ↦
      let before = count_below_without n test x (omega arith) h in
      let last : cond {A = ℕ} (test n && not (n == x)) 1 0 ≡ cond {A = ℕ} (test n) 1 0 = ap (λ b. cond {A = ℕ} b 1 0) (kept (test n) (n == x) (ne_eqb n x off)) in
      omega (arith, before, last)
]
  where
    kept : (a b : Bool) → b ≡ false → (a && not b) ≡ a
    kept true b e = not_from_false b e
    kept false b e = refl

-- an injection from the numbers that pass p into those that pass q bounds the count of p
pub count_below_into : (n m : ℕ) (p q : ℕ → Bool) (f : ℕ → ℕ)
    → ((k : ℕ) → k < n → p k ≡ true → (f k < m) × (q (f k) ≡ true))
    → ((j k : ℕ) → j < n → k < n → p j ≡ true → p k ≡ true → f j ≡ f k → j ≡ k)
    → count_below n p ≤ count_below m q
unfolding count_below
count_below_into zero m p q f into apart = omega arith
count_below_into (suc n) m p q f into apart = elim (cases_Bool (p n)) [
  | inr none-p ↦
      let before = count_below_into n m p q f (λ k l h. into k (omega arith) h) (λ j k lj lk hj hk e. apart j k (omega arith) (omega arith) hj hk e) in
      let none : cond {A = ℕ} (p n) 1 0 ≡ 0 = cond-false {A = ℕ} (p n) 1 0 none-p in
      omega (arith, before, none)
  | inl yes-p ↦
      let target = into n (omega arith) yes-p in
      let others : ℕ → Bool = λ k. q k && not (k == f n) in
      let before : count_below n p ≤ count_below m others = count_below_into n m p others f
      (λ k l h. (
        (into k (omega arith) h).0,
        and_from (q (f k)) (not (f k == f n)) (into k (omega arith) h).1
            (not_from_false (f k == f n) (ne_eqb (f k) (f n) (λ e. let at : k ≡ n = apart k n (omega arith) (omega arith) h yes-p e in omega (arith, at)))),
      ))
      (λ j k lj lk hj hk e. apart j k (omega arith) (omega arith) hj hk e) in
      let one : cond {A = ℕ} (p n) 1 0 ≡ 1 = cond-true {A = ℕ} (p n) 1 0 yes-p in
      omega (arith, before, one, count_below_without m q (f n) target.0 target.1)
]

-- if some number passes, one can be named
pub any_below_some : (n : ℕ) (test : ℕ → Bool) → any_below n test ≡ true → (k : ℕ) × (k < n) × (test k ≡ true)
any_below_some zero test h = absurd (false≢true h)
any_below_some (suc n) test h = elim (or_cases (any_below n test) (test n) h) [
  | inl e ↦ let found = any_below_some n test e in (found.0, omega (arith, found.1), found.2)
  | inr e ↦ (n, omega arith, e)
]

-- a number that passes is some number that passes
pub any_below_from : (n : ℕ) (test : ℕ → Bool) (k : ℕ) → k < n → test k ≡ true → any_below n test ≡ true
any_below_from zero test k l h = absurd (omega arith)
any_below_from (suc n) test k l h = elim (cases_eq k n) [
  | inl e ↦ or_right (any_below n test) (test n) (subst (λ m. test m ≡ true) e h)
  | inr e ↦ or_left (any_below n test) (test n) (any_below_from n test k (omega arith) h)
]

-- if none passes, no number passes
pub any_below_none : (n : ℕ) (test : ℕ → Bool) → ((k : ℕ) → k < n → test k ≡ false) → any_below n test ≡ false
any_below_none zero test none = refl
any_below_none (suc n) test none = or_from (any_below n test) (test n) (any_below_none n test (λ k l. none k (omega arith))) (none n (omega arith))

-- if none passes, the count is 0
pub count_below_none : (n : ℕ) (test : ℕ → Bool) → ((k : ℕ) → k < n → test k ≡ false) → count_below n test ≡ 0
unfolding count_below
count_below_none zero test none = refl
count_below_none (suc n) test none =
    let before = count_below_none n test (λ k l. none k (omega arith)) in
    let last : cond {A = ℕ} (test n) 1 0 ≡ 0 = cond-false {A = ℕ} (test n) 1 0 (none n (omega arith)) in
    omega (arith, before, last)

-- a stronger test has a smaller count
pub count_below_more : (n : ℕ) (p q : ℕ → Bool) → ((k : ℕ) → p k ≡ true → q k ≡ true) → count_below n p ≤ count_below n q
count_below_more n p q more = count_below_into n n p q (λ k. k) (λ k l h. (l, more k h)) (λ j k lj lk hj hk e. e)

-- a sum of greater terms is no smaller
pub sum_below_more : (n : ℕ) (f g : ℕ → ℕ) → ((k : ℕ) → f k ≤ g k) → sum_below n f ≤ sum_below n g
sum_below_more zero f g more = omega arith
sum_below_more (suc n) f g more = let before = sum_below_more n f g more in let last = more n in omega (arith, before, last)

-- a count is at most the bound
pub count_below_le : (n : ℕ) (test : ℕ → Bool) → count_below n test ≤ n
unfolding count_below
count_below_le zero test = omega arith
count_below_le (suc n) test = elim (cases_Bool (test n)) [
  | inl e ↦ omega (arith, count_below_le n test, cond-true {A = ℕ} (test n) 1 0 e)
  | inr e ↦ omega (arith, count_below_le n test, cond-false {A = ℕ} (test n) 1 0 e)
]

-- a sum of more terms is no smaller
pub sum_below_longer : (n m : ℕ) (f : ℕ → ℕ) → n ≤ m → sum_below n f ≤ sum_below m f
sum_below_longer n zero f l = elim (cases_eq n 0) [ inl e ↦ omega (arith, ap (λ (k : ℕ). sum_below k f) e) | inr off ↦ absurd (omega (arith, off)) ]
sum_below_longer n (suc m) f l = elim (cases_eq n (suc m)) [
  | inl e ↦ omega (arith, ap (λ (k : ℕ). sum_below k f) e)
  | inr off ↦ omega (arith, sum_below_longer n m f (omega (arith, off)))
]

-- a test that always fails has the count 0
pub count_none : (n : ℕ) → count_below n (λ _. false) ≡ 0
unfolding count_below
count_none zero = refl
count_none (suc n) = ap (λ (m : ℕ). m + 0) (count_none n)

-- the count below 0 is 0
pub counted_none : (test : ℕ → Bool) → 0 ≡ count_below 0 test
unfolding count_below
counted_none test = refl

-- a number that passes adds one to the count
pub counted_on : (n count : ℕ) (test : ℕ → Bool) → count ≡ count_below n test → test n ≡ true → count + 1 ≡ count_below (n + 1) test
unfolding count_below
counted_on n count test so_far passes =
    let last : cond {A = ℕ} (test n) 1 0 ≡ 1 = cond-true {A = ℕ} (test n) 1 0 passes in
    let more : count_below (n + 1) test ≡ count_below n test + cond {A = ℕ} (test n) 1 0 = rw add-one refl in
    omega (arith, so_far, last, more)

-- a number that fails adds nothing to the count
pub counted_off : (n count : ℕ) (test : ℕ → Bool) → count ≡ count_below n test → test n ≡ false → count ≡ count_below (n + 1) test
unfolding count_below
counted_off n count test so_far fails =
    let last : cond {A = ℕ} (test n) 1 0 ≡ 0 = cond-false {A = ℕ} (test n) 1 0 fails in
    let more : count_below (n + 1) test ≡ count_below n test + cond {A = ℕ} (test n) 1 0 = rw add-one refl in
    omega (arith, so_far, last, more)

-- at most all numbers are kept
pub length-filter_below : (n : ℕ) (test : ℕ → Bool) → length (filter_below n test) ≤ n
length-filter_below zero test = omega arith
length-filter_below (suc n) test = omega (arith, length-filter_below n test, length-append (filter_below n test) (cond (test n) (n ∷ []) []), one (test n))
  where
    one : (b : Bool) → length (cond b (n ∷ []) []) ≤ 1
    one true = omega arith
    one false = omega arith

-- tests that agree below the bound keep equal lists
pub filter_below_same : (n : ℕ) (p q : ℕ → Bool) → ((k : ℕ) → k < n → p k ≡ q k) → filter_below n p ≡ filter_below n q
filter_below_same zero p q same = refl
filter_below_same (suc n) p q same =
    ap (λ xs. xs ++ cond (p n) (n ∷ []) []) (filter_below_same n p q (λ k l. same k (omega arith)))
    ∙ ap (λ b. filter_below n q ++ cond b (n ∷ []) []) (same n (omega arith))

-- if none between two bounds passes, both keep equal lists
pub filter_below_cut : (test : ℕ → Bool) (a b : ℕ) → a ≤ b → ((k : ℕ) → a ≤ k → k < b → test k ≡ false) → filter_below b test ≡ filter_below a test
filter_below_cut test a zero l none = let e : zero ≡ a = omega arith in ap (λ n. filter_below n test) e
filter_below_cut test a (suc n) l none = elim (cases_eq a (suc n)) [
  | inl e ↦ ap (λ m. filter_below m test) (sym e)
  | inr off ↦
      let inside : a ≤ n = omega arith in
      let last : test n ≡ false = none n inside (omega arith) in
      ap (λ (b : Bool). filter_below n test ++ cond b (n ∷ []) []) last ∙ append-nil (filter_below n test)
      ∙ filter_below_cut test a n inside (λ k m r. none k m (omega arith))
]

-- the list of values below a bound has the bound as its length
pub length-map_below : {A : Type 0} → (n : ℕ) (f : ℕ → A) → length (map_below n f) ≡ n
length-map_below zero f = refl
length-map_below (suc n) f = omega (arith, length-append (map_below n f) (f n ∷ []), length-map_below n f)

-- the item at a position is the function's value there
pub get_or-map_below : {A : Type 0} → (n : ℕ) (f : ℕ → A) (u : ℕ) (d : A) → u < n → get_or (map_below n f) u d ≡ f u
get_or-map_below zero f u d l = absurd (omega arith)
get_or-map_below (suc n) f u d l = elim (cases_eq u n) [
  | inl e ↦ get_or_push (map_below n f) (f n) d u (length-map_below n f ∙ sym e) ∙ ap f (sym e)
  | inr off ↦ get_or_append_left (map_below n f) (f n ∷ []) d u (omega (arith, length-map_below n f)) ∙ get_or-map_below n f u d (omega arith)
]

-- functions that agree below the bound have equal lists of values
pub map_below_same : {A : Type 0} (n : ℕ) (f g : ℕ → A) → ((k : ℕ) → k < n → f k ≡ g k) → map_below n f ≡ map_below n g
map_below_same zero f g same = refl
map_below_same {A} (suc n) f g same =
    ap (λ (xs : List A). xs ++ f n ∷ []) (map_below_same n f g (λ k l. same k (omega (arith, l)))) ∙ ap (λ x. map_below n g ++ x ∷ []) (same n (omega arith))

-- the count below 0 is 0
pub count_below_zero : (test : ℕ → Bool) → count_below 0 test ≡ 0
unfolding count_below
count_below_zero test = refl

-- appending the next value extends the list of values
pub map_below_more : {A : Type 0} (n : ℕ) (f : ℕ → A) (xs ys : List A) (x : A) → xs ≡ map_below n f → x ≡ f n → ys ≡ xs ++ x ∷ [] → ys ≡ map_below (n + 1) f
map_below_more {A} n f xs ys x before here is =
    let at : suc n ≡ n + 1 = omega arith in
    is ∙ ap (λ (l : List A). l ++ x ∷ []) before ∙ ap (λ a. map_below n f ++ a ∷ []) here ∙ ap (λ m. map_below m f) at
