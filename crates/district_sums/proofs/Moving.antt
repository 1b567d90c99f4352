-- The change of sums, counts and edges when one unit moves.
use Rattle.std.proofs.Common.{◌≡◌, ℕ, zero, suc, ◌+◌, ◌<◌, ◌≤◌, Bool, false, cond, refl, ap, ◌∙◌, inl, inr, arith}
use Rattle.std.proofs.lemmas.Bool.{cases_eq, cond-false}
use Rattle.audit_model.specs.Below.{count_below, sum_below}
use Rattle.audit_model.proofs.Below.{count_below_same}
use Rattle.dual_graph.proofs.Counting.{sum_below_same}

-- sums of functions that differ at one number only
pub sum_below_but_one : (n u : ℕ) (f h : ℕ → ℕ) → u < n → ((k : ℕ) → k < n → (k ≡ u → ⊥) → f k ≡ h k) → sum_below n f + h u ≡ sum_below n h + f u
sum_below_but_one zero u f h l same = absurd (omega arith)
sum_below_but_one (suc n) u f h l same = elim (cases_eq n u) [
  | inl e ↦
      let before = sum_below_same n f h (λ k under. same k (omega arith) (λ at. omega (arith, at, e))) in
      let one : f n ≡ f u = ap f e in
      let other : h n ≡ h u = ap h e in
      omega (arith, before, one, other)
  | inr off ↦
      let before = sum_below_but_one n u f h (omega (arith, off)) (λ k under. same k (omega arith)) in
      let last = same n (omega arith) off in
      omega (arith, before, last)
]

-- a count is a sum of ones
count_below_sum : (n : ℕ) (p : ℕ → Bool) → count_below n p ≡ sum_below n (λ k. cond {A = ℕ} (p k) 1 0)
unfolding count_below
count_below_sum zero p = refl
count_below_sum (suc n) p = ap (λ (m : ℕ). m + cond {A = ℕ} (p n) 1 0) (count_below_sum n p)

-- counts of tests that differ at one number only
pub count_below_but_one : (n u : ℕ) (p q : ℕ → Bool) → u < n → ((k : ℕ) → k < n → (k ≡ u → ⊥) → p k ≡ q k)
    → count_below n p + cond {A = ℕ} (q u) 1 0 ≡ count_below n q + cond {A = ℕ} (p u) 1 0
count_below_but_one n u p q l same =
    let sums = sum_below_but_one n u (λ k. cond {A = ℕ} (p k) 1 0) (λ k. cond {A = ℕ} (q k) 1 0) l (λ k under off. ap (λ b. cond {A = ℕ} b 1 0) (same k under off)) in
    omega (arith, sums, count_below_sum n p, count_below_sum n q)

-- a count up to one more number grows by one if that number passes
pub count_below_more : (n : ℕ) (p : ℕ → Bool) → count_below (suc n) p ≡ count_below n p + cond {A = ℕ} (p n) 1 0
unfolding count_below
count_below_more n p = refl

-- the pairs of numbers below a bound that pass a test, each counted at its greater number
abbrev pub pairs_below : ℕ → (ℕ → ℕ → Bool) → ℕ
pairs_below n p = sum_below n (λ v. count_below v (λ a. p a v))

-- the tests agree on all pairs without the unit u
pub record AgreeBut (u : ℕ) (p q : ℕ → ℕ → Bool) : Type 0 where
  pub same : (a b : ℕ) → (a ≡ u → ⊥) → (b ≡ u → ⊥) → p a b ≡ q a b
  pub turned : (a : ℕ) → p a u ≡ p u a
  pub other_turned : (a : ℕ) → q a u ≡ q u a
  pub none : p u u ≡ false
  pub other_none : q u u ≡ false

-- such tests count equally many pairs below u
pairs_before : (m u : ℕ) (p q : ℕ → ℕ → Bool) → AgreeBut u p q → m ≤ u → pairs_below m p ≡ pairs_below m q
pairs_before zero u p q agree l = refl
pairs_before (suc m) u p q agree l =
    let before = pairs_before m u p q agree (omega arith) in
    let last = count_below_same m (λ a. p a m) (λ a. q a m) (λ a under. agree.same a m (λ e. omega (arith, e)) (λ e. omega (arith, e))) in
    omega (arith, before, last)

-- the counts of all pairs differ by as much as the counts of u's own pairs
pub pairs_but_one : (m u : ℕ) (p q : ℕ → ℕ → Bool) → AgreeBut u p q → u < m → pairs_below m p + count_below m (q u) ≡ pairs_below m q + count_below m (p u)
pairs_but_one zero u p q agree l = absurd (omega arith)
pairs_but_one (suc m) u p q agree l = elim (cases_eq m u) [
  | inl e ↦
      let before = pairs_before m u p q agree (omega (arith, e)) in
      let row : count_below m (λ a. p a m) ≡ count_below m (p u) = ap (λ (v : ℕ). count_below m (λ a. p a v)) e ∙ count_below_same m (λ a. p a u) (p u) (λ a under. agree.turned a) in
      let other_row : count_below m (λ a. q a m) ≡ count_below m (q u) = ap (λ (v : ℕ). count_below m (λ a. q a v)) e ∙ count_below_same m (λ a. q a u) (q u) (λ a under. agree.other_turned a) in
      let none : cond {A = ℕ} (p u m) 1 0 ≡ 0 = cond-false {A = ℕ} (p u m) 1 0 (ap (p u) e ∙ agree.none) in
      let other_none : cond {A = ℕ} (q u m) 1 0 ≡ 0 = cond-false {A = ℕ} (q u m) 1 0 (ap (q u) e ∙ agree.other_none) in
      omega (arith, before, row, other_row, none, other_none, count_below_more m (p u), count_below_more m (q u))
  | inr off ↦
      let before = pairs_but_one m u p q agree (omega (arith, off)) in
      let last = count_below_but_one m u (λ a. p a m) (λ a. q a m) (omega (arith, off)) (λ a under apart. agree.same a m apart off) in
      let one : cond {A = ℕ} (p u m) 1 0 ≡ cond {A = ℕ} (p u m) 1 0 = refl in
      omega (arith, before, last, one, count_below_more m (p u), count_below_more m (q u))
]
