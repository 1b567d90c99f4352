-- Values up to a stop decide it; later values change nothing.
use Rattle.std.proofs.Common.{◌≡◌, ℕ, zero, suc, ◌+◌, ◌<◌, ◌≤◌, Bool, true, false, cond, List, [], ◌∷◌, ◌++◌, length, take, Option, Some, None, refl, sym, ap, ◌∙◌, subst, inl, inr, arith, length-append}
use Rattle.std.specs.Prelude.{◌==◌, count_by, sum_by, ℤ}
use Rattle.std.specs.Option.{option_or}
use Rattle.std.proofs.lemmas.Bool.{cases_lt, cond-true, eq-eqb}
use Rattle.std.proofs.lemmas.List.Sums.{sum_by-cons}
use Rattle.std.proofs.lemmas.List.{take-append-le}
use Rattle.std.proofs.lemmas.Option.{none-some}
use Rattle.audit_model.specs.declared.setting.Tail.{Tail}
use Rattle.audit_model.specs.First.{first_below}
use Rattle.audit_model.specs.Stopping.{count_in_tail, stop, stopped_at}
use Rattle.audit_model.specs.Trajectory.{in_tail}
use Rattle.audit_model.proofs.First.{first_below_same}
use Rattle.audit_model.proofs.ListFacts.{take_own}

-- ---- the first of several

-- a result below a bound is the result below a greater one
first_below_more : (n more : ℕ) (test : ℕ → Bool) (k : ℕ) → first_below n test ≡ Some k → first_below (more + n) test ≡ Some k
first_below_more n zero test k h = let e : n ≡ zero + n = omega arith in subst (λ m. first_below m test ≡ Some k) e h
first_below_more n (suc more) test k h =
    let e : suc (more + n) ≡ suc more + n = omega arith in
    subst (λ m. first_below m test ≡ Some k) e (ap (λ o. option_or o (cond (test (more + n)) (Some (more + n)) None)) (first_below_more n more test k h))

-- one more number, by the result before it
one_more : (n k : ℕ) (test : ℕ → Bool) (o : Option ℕ) → first_below n test ≡ o → k < suc n → test k ≡ true
    → (k < n → (j : ℕ) × (first_below n test ≡ Some j)) → (j : ℕ) × (first_below (suc n) test ≡ Some j)
one_more n k test (Some j) e l h before = (j, ap (λ o. option_or o (cond (test n) (Some n) None)) e)
one_more n k test None e l h before = elim (cases_lt k n) [
  | inl less ↦ let found = before less in absurd (none-some found.0 (sym e ∙ found.1))
  | inr past ↦
      let at : k ≡ n = omega (arith, past, l) in
      (n, ap (λ o. option_or o (cond (test n) (Some n) None)) e ∙ cond-true (test n) (Some n) None (subst (λ m. test m ≡ true) at h))
]

-- if a number passes, a least one is found
some_first_below : (n : ℕ) (test : ℕ → Bool) (k : ℕ) → k < n → test k ≡ true → (j : ℕ) × (first_below n test ≡ Some j)
some_first_below zero test k l h = absurd (omega arith)
some_first_below (suc n) test k l h = one_more n k test (first_below n test) refl l h (λ less. some_first_below n test k less h)

-- ---- counts of longer and longer prefixes

module _ (p : ℤ → Bool) where
  one : ℤ → ℕ
  one x = cond (p x) 1 0

  few : (x : ℤ) → one x ≤ 1
  unfolding one
  few x = by (p x)
    where
      by : (b : Bool) → cond {A = ℕ} b 1 0 ≤ 1
      by true = omega arith
      by false = omega arith

  count_one_more : (xs : List ℤ) (n : ℕ) → sum_by one (take (suc n) xs) ≤ sum_by one (take n xs) + 1
  count_one_more [] zero = omega arith
  count_one_more [] (suc n) = omega arith
  count_one_more (x ∷ xs) zero = let at = sum_by-cons one x [] in let small = few x in omega (arith, at, small)
  count_one_more (x ∷ xs) (suc n) =
      let rest = count_one_more xs n in
      let longer = sum_by-cons one x (take (suc n) xs) in
      let shorter = sum_by-cons one x (take n xs) in
      omega (arith, rest, longer, shorter)

  -- a count that is reached at all is the count of some prefix
  reaches : (xs : List ℤ) (enough n : ℕ) → enough ≤ count_by p (take n xs) → (k : ℕ) × (k ≤ n) × (count_by p (take k xs) ≡ enough)
  unfolding one
  reaches xs enough zero h = (zero, omega arith, omega (arith, h))
  reaches xs enough (suc n) h = elim (cases_lt enough (count_by p (take (suc n) xs))) [
    | inl more ↦ let step = count_one_more xs n in let rest = reaches xs enough n (omega (arith, more, step)) in (rest.0, omega (arith, rest.1), rest.2)
    | inr few ↦ (suc n, omega arith, omega (arith, h, few))
  ]

module _ (tail : Tail) (start : ℤ) (values later : List ℤ) (enough : ℕ) (h : enough ≤ count_in_tail tail start values) where
  inside : ℤ → Bool
  inside v = in_tail tail v start

  whole_test : ℕ → Bool
  whole_test n = count_in_tail tail start (take n (values ++ later)) == enough

  front_test : ℕ → Bool
  front_test n = count_in_tail tail start (take n values) == enough

  front_found : (j : ℕ) × (first_below (length values + 1) front_test ≡ Some j)
  unfolding front_test
  front_found =
      let at = reaches (λ v. in_tail tail v start) values enough (length values)
      (subst (λ xs. enough ≤ count_by (λ v. in_tail tail v start) xs) (sym (take_own values)) h) in
      some_first_below (length values + 1) front_test at.0 (omega (arith, at.1))
      (eq-eqb (count_in_tail tail start (take at.0 values)) enough at.2)

  same : (n : ℕ) → n < length values + 1 → whole_test n ≡ front_test n
  unfolding front_test whole_test
  same n l = ap (λ xs. count_in_tail tail start xs == enough) (take-append-le n values later (omega arith))

  whole_found : first_below (length (values ++ later) + 1) whole_test ≡ Some front_found.0
  whole_found =
      let longer = length-append values later in
      let at : length later + (length values + 1) ≡ length (values ++ later) + 1 = omega (arith, longer) in
      subst (λ m. first_below m whole_test ≡ Some front_found.0) at
      (first_below_more (length values + 1) (length later) whole_test front_found.0
      (first_below_same (length values + 1) whole_test front_test same ∙ front_found.1))

  -- once enough values are in the tail, later values do not change the stop
  pub stop_is_decided : stop tail start (values ++ later) enough ≡ stop tail start values enough
  unfolding front_test whole_test
  stop_is_decided =
      ap (stopped_at enough tail start (values ++ later)) whole_found ∙ sym (ap (stopped_at enough tail start values) front_found.1)
