-- A graph whose edges are pairs has one edge per pair.
use Rattle.std.proofs.Common.{◌≡◌, ℕ, zero, suc, ◌+◌, ◌<◌, Bool, true, false, cond, ◌&&◌, ◌||◌, List, [], ◌∷◌, length, refl, sym, ap, ◌∙◌, subst, inl, inr, arith}
use Rattle.std.specs.Prelude.{◌==◌, ◌↔◌}
use Rattle.std.proofs.lemmas.Bool.{and_parts, and_from, and_left, and_right, cases_eq, cond-true, cond-false, eq-eqb, eqb-true, ne_eqb, false≢true}
use Rattle.audit_model.specs.Below.{count_below, sum_below}
use Rattle.audit_model.specs.Graph.{Graph, adjacent, count_edges}
use Rattle.audit_model.proofs.Below.{count_below_same, count_below_none}
use Rattle.dual_graph.specs.Pairs.{pair_at, has_pair, IsBefore, ArePairs, Joins}
use Rattle.dual_graph.proofs.Ordered.{is_one, pair_is, pair_found, found_pair, before_trans, not_before_itself}

-- ---- sums and counts

-- sums of equal terms are equal
pub sum_below_same : (n : ℕ) (f g : ℕ → ℕ) → ((k : ℕ) → k < n → f k ≡ g k) → sum_below n f ≡ sum_below n g
sum_below_same zero f g same = refl
sum_below_same (suc n) f g same = omega (arith, sum_below_same n f g (λ k l. same k (omega arith)), same n (omega arith))

-- a sum of zeros is zero
pub sum_below_none : (n : ℕ) (f : ℕ → ℕ) → ((k : ℕ) → k < n → f k ≡ 0) → sum_below n f ≡ 0
sum_below_none zero f none = refl
sum_below_none (suc n) f none = omega (arith, sum_below_none n f (λ k l. none k (omega arith)), none n (omega arith))

-- a sum of a single 1 and zeros is 1
pub sum_below_one : (n b : ℕ) (f : ℕ → ℕ) → b < n → f b ≡ 1 → ((k : ℕ) → k < n → (k ≡ b → ⊥) → f k ≡ 0) → sum_below n f ≡ 1
sum_below_one zero b f l one none = absurd (omega arith)
sum_below_one (suc n) b f l one none = elim (cases_eq n b) [
  | inl e ↦
      let last : f n ≡ 1 = ap f e ∙ one in
      omega (arith, last, sum_below_none n f (λ k under. none k (omega arith) (λ same. omega (arith, same, e))))
  | inr off ↦ omega (arith, none n (omega arith) off, sum_below_one n b f (omega arith) one (λ k under. none k (omega arith)))
]

-- a sum of sums splits into two sums
pub sum_below_plus : (n : ℕ) (f g : ℕ → ℕ) → sum_below n (λ k. f k + g k) ≡ sum_below n f + sum_below n g
sum_below_plus zero f g = refl
sum_below_plus (suc n) f g = omega (arith, sum_below_plus n f g)

-- a count is 1 if exactly one number passes
pub count_below_one : (n a : ℕ) (test : ℕ → Bool) → a < n → test a ≡ true → ((k : ℕ) → k < n → (k ≡ a → ⊥) → test k ≡ false) → count_below n test ≡ 1
unfolding count_below
count_below_one zero a test l one none = absurd (omega arith)
count_below_one (suc n) a test l one none = elim (cases_eq n a) [
  | inl e ↦
      let last : cond {A = ℕ} (test n) 1 0 ≡ 1 = cond-true {A = ℕ} (test n) 1 0 (ap test e ∙ one) in
      omega (arith, last, count_below_none n test (λ k under. none k (omega arith) (λ same. omega (arith, same, e))))
  | inr off ↦
      let last : cond {A = ℕ} (test n) 1 0 ≡ 0 = cond-false {A = ℕ} (test n) 1 0 (none n (omega arith) off) in
      omega (arith, last, count_below_one n a test (omega arith) one (λ k under. none k (omega arith)))
]

-- a disjunction of two exclusive tests counts as their sum
one_or_other : (p q : Bool) → (p ≡ true → q ≡ true → ⊥) → cond {A = ℕ} (p || q) 1 0 ≡ cond {A = ℕ} p 1 0 + cond {A = ℕ} q 1 0
one_or_other true true apart = absurd (apart refl refl)
one_or_other true false apart = refl
one_or_other false true apart = refl
one_or_other false false apart = refl

-- counts of two exclusive tests add up
pub count_below_or : (n : ℕ) (p q : ℕ → Bool) → ((k : ℕ) → k < n → p k ≡ true → q k ≡ true → ⊥) → count_below n (λ k. p k || q k) ≡ count_below n p + count_below n q
unfolding count_below
count_below_or zero p q apart = refl
count_below_or (suc n) p q apart =
    let last : cond {A = ℕ} (p n || q n) 1 0 ≡ cond {A = ℕ} (p n) 1 0 + cond {A = ℕ} (q n) 1 0 = one_or_other (p n) (q n) (apart n (omega arith)) in
    omega (arith, last, count_below_or n p q (λ k l. apart k (omega arith)))

-- ---- pairs

-- the first of rising pairs is before each later one
first_before : (p : ℕ × ℕ) (pairs : List (ℕ × ℕ)) → ((k : ℕ) → k + 1 < length (p ∷ pairs) → IsBefore (pair_at (p ∷ pairs) k) (pair_at (p ∷ pairs) (k + 1)))
    → (k : ℕ) → k < length pairs → IsBefore p (pair_at pairs k)
first_before p pairs rising zero l = rising 0 (omega arith)
first_before p pairs rising (suc k) l =
    let at : suc k + 1 ≡ suc (suc k) = omega arith in
    let next : IsBefore (pair_at pairs k) (pair_at pairs (suc k)) = subst (λ (j : ℕ). IsBefore (pair_at pairs k) (pair_at (p ∷ pairs) j)) at (rising (suc k) (omega arith)) in
    before_trans p (pair_at pairs k) (pair_at pairs (suc k)) (first_before p pairs rising k (omega arith)) next

-- rising pairs without their first still rise
later_pairs : (n : ℕ) (p : ℕ × ℕ) (pairs : List (ℕ × ℕ)) → ArePairs n (p ∷ pairs) → ArePairs n pairs
later_pairs n p pairs are = record {
  small = λ k l. are.small (suc k) (omega arith);
  below = λ k l. are.below (suc k) (omega arith);
  rising = λ k l.
      let at : suc k + 1 ≡ suc (k + 1) = omega arith in
      subst (λ (j : ℕ). IsBefore (pair_at pairs k) (pair_at (p ∷ pairs) j)) at (are.rising (suc k) (omega arith));
}

-- one pair is counted once
one_counted : (n : ℕ) (p : ℕ × ℕ) → p.0 < p.1 → p.1 < n → sum_below n (λ v. count_below v (λ u. is_one p u v)) ≡ 1
one_counted n p small below = sum_below_one n p.1 (λ v. count_below v (λ u. is_one p u v)) below
    (count_below_one p.1 p.0 (λ u. is_one p u p.1) small (and_from (p.0 == p.0) (p.1 == p.1) (eq-eqb p.0 p.0 refl) (eq-eqb p.1 p.1 refl))
    (λ u l off. and_left (p.0 == u) (p.1 == p.1) (ne_eqb p.0 u (λ e. off (sym e)))))
    (λ v l off. count_below_none v (λ u. is_one p u v) (λ u under. and_right (p.0 == u) (p.1 == v) (ne_eqb p.1 v (λ e. off (sym e)))))

-- counting pairs unit by unit gives the length of the list
pub pairs_counted : (n : ℕ) (pairs : List (ℕ × ℕ)) → ArePairs n pairs → sum_below n (λ v. count_below v (λ u. has_pair pairs u v)) ≡ length pairs
pairs_counted n [] are = sum_below_none n (λ v. count_below v (λ u. false)) (λ v l. count_below_none v (λ u. false) (λ u under. refl))
pairs_counted n (p ∷ pairs) are =
    let split = sum_below_same n (λ v. count_below v (λ u. has_pair (p ∷ pairs) u v)) (λ v. count_below v (λ u. is_one p u v) + count_below v (λ u. has_pair pairs u v))
    (λ v l. count_below_or v (λ u. is_one p u v) (λ u. has_pair pairs u v) (λ u under here there.
    let parts = and_parts (p.0 == u) (p.1 == v) here in
    let found = pair_found pairs u v there in
    not_before_itself p (pair_at pairs found.0) (first_before p pairs are.rising found.0 found.1)
    (eqb-true p.0 u parts.0 ∙ sym found.2) (eqb-true p.1 v parts.1 ∙ sym found.3))) in
    let plus = sum_below_plus n (λ v. count_below v (λ u. is_one p u v)) (λ v. count_below v (λ u. has_pair pairs u v)) in
    let small : p.0 < p.1 = are.small 0 (omega arith) in
    let below : p.1 < n = are.below 0 (omega arith) in
    omega (arith, split, plus, one_counted n p small below, pairs_counted n pairs (later_pairs n p pairs are))

-- tests that imply each other are equal
same_test : (a b : Bool) → (a ≡ true → b ≡ true) → (b ≡ true → a ≡ true) → (a && true) ≡ b
same_test true b f g = sym (f refl)
same_test false true f g = absurd (false≢true (g refl))
same_test false false f g = refl

-- a graph whose edges are the pairs has one edge per pair
pub edges_counted : (g : Graph) (pairs : List (ℕ × ℕ)) → ArePairs g.units pairs → ((u v : ℕ) → (adjacent g u v ≡ true) ↔ Joins pairs u v)
    → count_edges g (λ u v. true) ≡ length pairs
edges_counted g pairs are same =
    sum_below_same g.units (λ v. count_below v (λ u. adjacent g u v && true)) (λ v. count_below v (λ u. has_pair pairs u v))
    (λ v l. count_below_same v (λ u. adjacent g u v && true) (λ u. has_pair pairs u v) (λ u under. same_test (adjacent g u v) (has_pair pairs u v)
    (λ h.
    let joins = (same u v).0 h in
    elim joins.2 [
      | inl e ↦ found_pair pairs joins.0 u v joins.1 (ap (λ p. p.0) e) (ap (λ p. p.1) e)
      | inr e ↦
          let small = are.small joins.0 joins.1 in
          let a : (pair_at pairs joins.0).0 ≡ v = ap (λ p. p.0) e in
          let b : (pair_at pairs joins.0).1 ≡ u = ap (λ p. p.1) e in
          absurd (omega (arith, small, a, b, under))
    ])
    (λ h.
    let found = pair_found pairs u v h in
    (same u v).1 (found.0, found.1, inl (pair_is (pair_at pairs found.0) u v found.2 found.3)))))
    ∙ pairs_counted g.units pairs are
