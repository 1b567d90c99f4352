-- Rising lists, and counts over the neighbors of a unit.
use Rattle.std.proofs.Common.{ℕ, suc, ◌<◌, List, length, get_or, ◌∷◌, arith, ◌≡◌, true, false, [], inl, inr, subst, add-one, ◌+◌, Bool, cond, not, ◌&&◌, ◌||◌, refl, sym, ap, ◌∙◌, ◌==◌, take, ◌≤◌}
use Rattle.std.specs.Prelude.{nat_lt, count_by}
use Rattle.std.proofs.lemmas.Bool.{eqb-true, or_cases, false≢true, cases_eq, cases_Bool, eq-eqb, ne_eqb, cond-true, cond-false, lt-ltb, ltb-true, or_left, and_parts, and_from, false_from_ne_true, not_from_true, not_from_false, and_right, or_right}
use Rattle.audit_model.specs.Graph.{has, Graph, IsGraph, adjacent, count_edges}
use Rattle.audit_model.specs.Below.{count_below, sum_below}
use Rattle.audit_model.proofs.Below.{count_below_same, count_below_without, count_none, count_below_more, sum_below_more, sum_below_longer}
use Rattle.audit_model.proofs.Bools.{and_true}
use Rattle.std.proofs.lemmas.List.Sums.{sum_by-cons, count_by_more_yes, count_by_more_no}
use Rattle.std.specs.List.{slice_index_or}

pub record IsRising (xs : List ℕ) : Type 0 where
  pub rises : (i : ℕ) → suc i < length xs → get_or xs i 0 < get_or xs (suc i) 0

-- a rising list without its first number rises
pub tail_rises : (x : ℕ) (xs : List ℕ) → IsRising (x ∷ xs) → IsRising xs
tail_rises x xs r = record { rises = λ i l. r.rises (suc i) (omega arith) }

-- the first number is below the others
pub above : (x : ℕ) (xs : List ℕ) → IsRising (x ∷ xs) → (v : ℕ) → has xs v ≡ true → x < v
above x [] r v h = absurd (false≢true h)
above x (y ∷ ys) r v h =
    let step : x < y = r.rises 0 (omega arith) in
    elim (or_cases (y == v) (has ys v) h) [
      | inl e ↦ omega (arith, step, eqb-true y v e)
      | inr e ↦ omega (arith, step, above y ys (tail_rises x (y ∷ ys) r) v e)
    ]

-- the neighbors of a unit rise
pub row_rises : (g : Graph) (unit : ℕ) → IsGraph g → IsRising (slice_index_or g.neighbours unit [])
row_rises g unit sound = record {
  rises = λ i l. subst (λ (j : ℕ). get_or (slice_index_or g.neighbours unit []) i 0 < get_or (slice_index_or g.neighbours unit []) j 0) (add-one i)
      (sound.rising unit i (omega (arith, l)));
}

-- counting the items of a rising list is counting numbers below the bound
pub count_rising : (n : ℕ) (test : ℕ → Bool) (xs : List ℕ) → IsRising xs → count_by (λ u. nat_lt u n && test u) xs ≡ count_below n (λ u. has xs u && test u)
count_rising n test [] r = sym (count_none n)
count_rising n test (x ∷ xs) r =
    let rest : count_by (λ u. nat_lt u n && test u) xs ≡ count_below n (λ u. has xs u && test u) = count_rising n test xs (tail_rises x xs r) in
    let counted : count_by (λ u. nat_lt u n && test u) (x ∷ xs) ≡ cond {A = ℕ} (nat_lt x n && test x) 1 0 + count_by (λ u. nat_lt u n && test u) xs =
    sum_by-cons (λ u. cond {A = ℕ} (nat_lt u n && test u) 1 0) x xs in
    elim (cases_Bool (nat_lt x n && test x)) [
      | inl passes ↦
          let parts = and_parts (nat_lt x n) (test x) passes in
          let with_x : ℕ → Bool = λ u. has (x ∷ xs) u && test u in
          let without = count_below_without n with_x x (ltb-true x n parts.0) (and_from (has (x ∷ xs) x) (test x) (or_left (x == x) (has xs x) (eq-eqb x x refl)) parts.1) in
          let same : count_below n (λ k. with_x k && not (k == x)) ≡ count_below n (λ k. has xs k && test k) =
          count_below_same n (λ k. with_x k && not (k == x)) (λ k. has xs k && test k) (λ k l. left_out k) in
          let one : cond {A = ℕ} (nat_lt x n && test x) 1 0 ≡ 1 = cond-true {A = ℕ} (nat_lt x n && test x) 1 0 passes in
          omega (arith, counted, rest, without, same, one)
      | inr fails ↦
          let same : count_below n (λ u. has (x ∷ xs) u && test u) ≡ count_below n (λ u. has xs u && test u) =
          count_below_same n (λ u. has (x ∷ xs) u && test u) (λ u. has xs u && test u) (λ k l. not_counted fails k l) in
          let none : cond {A = ℕ} (nat_lt x n && test x) 1 0 ≡ 0 = cond-false {A = ℕ} (nat_lt x n && test x) 1 0 fails in
          omega (arith, counted, rest, same, none)
    ]
  where
    absent : has xs x ≡ false
    absent = false_from_ne_true (has xs x) (λ h. let l : x < x = above x xs r x h in omega (arith, l))

    other : (k : ℕ) → (k ≡ x → ⊥) → (has (x ∷ xs) k && test k) ≡ (has xs k && test k)
    other k off = ap (λ b. (b || has xs k) && test k) (ne_eqb x k (λ e. off (sym e)))

    left_out : (k : ℕ) → ((has (x ∷ xs) k && test k) && not (k == x)) ≡ (has xs k && test k)
    left_out k = elim (cases_eq k x) [
      | inl e ↦
          and_right (has (x ∷ xs) k && test k) (not (k == x)) (not_from_true (k == x) (eq-eqb k x e))
          ∙ sym (ap (λ b. b && test k) (ap (has xs) e ∙ absent))
      | inr off ↦ and_true (has (x ∷ xs) k && test k) (not (k == x)) (not_from_false (k == x) (ne_eqb k x off)) ∙ other k off
    ]

    not_counted : (nat_lt x n && test x) ≡ false → (k : ℕ) → k < n → (has (x ∷ xs) k && test k) ≡ (has xs k && test k)
    not_counted out k l = elim (cases_eq k x) [
      | inl e ↦
          let failed : test k ≡ false = ap test e ∙ (sym (ap (λ b. b && test x) (lt-ltb x n (subst (λ m. m < n) e l))) ∙ out) in
          and_right (has (x ∷ xs) k) (test k) failed ∙ sym (and_right (has xs k) (test k) failed)
      | inr off ↦ other k off
    ]

-- a bound that holds of all items may be added to the test
pub inside_counted : (n : ℕ) (test : ℕ → Bool) (xs : List ℕ) → ((v : ℕ) → has xs v ≡ true → v < n) → count_by test xs ≡ count_by (λ v. nat_lt v n && test v) xs
inside_counted n test [] inside = refl
inside_counted n test (x ∷ xs) inside =
    let first : count_by test (x ∷ xs) ≡ cond {A = ℕ} (test x) 1 0 + count_by test xs = sum_by-cons (λ v. cond {A = ℕ} (test v) 1 0) x xs in
    let other : count_by (λ v. nat_lt v n && test v) (x ∷ xs) ≡ cond {A = ℕ} (nat_lt x n && test x) 1 0 + count_by (λ v. nat_lt v n && test v) xs =
    sum_by-cons (λ v. cond {A = ℕ} (nat_lt v n && test v) 1 0) x xs in
    let same : cond {A = ℕ} (nat_lt x n && test x) 1 0 ≡ cond {A = ℕ} (test x) 1 0 =
    ap (λ b. cond {A = ℕ} (b && test x) 1 0) (lt-ltb x n (inside x (or_left (x == x) (has xs x) (eq-eqb x x refl)))) in
    let rest = inside_counted n test xs (λ v h. inside v (or_right (x == v) (has xs v) h)) in
    omega (arith, first, other, same, rest)

-- counting the neighbors that pass a test
pub row_counted : (g : Graph) (u : ℕ) (test : ℕ → Bool) → IsGraph g
    → count_by test (slice_index_or g.neighbours u []) ≡ count_below g.units (λ v. adjacent g u v && test v)
row_counted g u test sound =
    inside_counted g.units test (slice_index_or g.neighbours u []) (λ v h. sound.below u v h)
    ∙ count_rising g.units test (slice_index_or g.neighbours u []) (row_rises g u sound)

-- a count over one more neighbor
pub counted_more : (test : ℕ → Bool) (row : List ℕ) (i : ℕ) → i < length row → count_by test (take (i + 1) row) ≡ count_by test (take i row) + cond {A = ℕ} (test (get_or row i 0)) 1 0
counted_more test row i lt = elim (cases_Bool (test (get_or row i 0))) [
  | inl passes ↦
      let more = count_by_more_yes test row i 0 lt passes in
      let one : cond {A = ℕ} (test (get_or row i 0)) 1 0 ≡ 1 = cond-true {A = ℕ} (test (get_or row i 0)) 1 0 passes in
      omega (arith, more, one)
  | inr fails ↦
      let same = count_by_more_no test row i 0 lt fails in
      let none : cond {A = ℕ} (test (get_or row i 0)) 1 0 ≡ 0 = cond-false {A = ℕ} (test (get_or row i 0)) 1 0 fails in
      omega (arith, same, none)
]

-- the edges of the first units that pass a test are at most all edges
pub counted_edges_le : (g : Graph) (test : ℕ → ℕ → Bool) (unit : ℕ) → unit ≤ g.units
    → sum_below unit (λ v. count_below v (λ u. adjacent g u v && test u v)) ≤ count_edges g (λ u v. true)
counted_edges_le g test unit l =
    let longer = sum_below_longer unit g.units (λ v. count_below v (λ u. adjacent g u v && test u v)) l in
    let more = sum_below_more g.units (λ v. count_below v (λ u. adjacent g u v && test u v)) (λ v. count_below v (λ u. adjacent g u v && true))
    (λ v. count_below_more v (λ u. adjacent g u v && test u v) (λ u. adjacent g u v && true)
    (λ u h. and_from (adjacent g u v) true (and_parts (adjacent g u v) (test u v) h).0 refl)) in
    omega (arith, longer, more)
