-- Membership and order of pairs.
use Rattle.std.proofs.Common.{◌≡◌, refl, ℕ, zero, suc, ◌+◌, ◌<◌, Bool, true, ◌&&◌, List, [], ◌∷◌, length, sym, ap, ◌∙◌, subst, inl, inr, arith, nat_cmp, Ordering, Less, Equal, Greater}
use Rattle.std.specs.Cmp.{IsTotalOrder, ranks, tied_then, unsigned_ties}
use Rattle.std.specs.List.{dedup, Contains}
use Rattle.std.specs.List.Sorted.{IsSorted, IsStrictlySortedBy}
use Rattle.std.specs.Ordering.{MatchOrdering, ordering_then, eq_by_cmp}
use Rattle.std.specs.Prelude.{◌==◌, ◌↔◌, nat_eq}
use Rattle.std.proofs.lemmas.Bool.{and_parts, and_from, or_cases, or_left, or_right, cases_eq, eq-eqb, eqb-true, false≢true}
use Rattle.std.proofs.lemmas.Cmp.{nat_cmp_total, on_total, then_total, nat_eq_equiv, on_equiv, and_equiv}
use Rattle.std.proofs.lemmas.List.{get_or_default}
use Rattle.std.proofs.lemmas.List.Kept.{Contains-dedup, Contains-from_dedup, IsStrictlySortedBy-dedup}
use Rattle.std.proofs.lemmas.Map.Keys.{Less-from_sorted}
use Rattle.dual_graph.specs.Pairs.{pair_at, has_pair, IsBefore, ArePairsRising}

-- a pair is determined by its two parts
pub pair_is : (p : ℕ × ℕ) (u v : ℕ) → p.0 ≡ u → p.1 ≡ v → p ≡ (u, v)
pair_is (a, b) u v e f = ap (λ (t : ℕ). let q : ℕ × ℕ = (t, b) in q) e ∙ ap (λ (t : ℕ). let q : ℕ × ℕ = (u, t) in q) f

-- ---- membership

abbrev pub is_one : ℕ × ℕ → ℕ → ℕ → Bool
is_one p u v = (p.0 == u) && (p.1 == v)

-- a member stands at some position of the list
pub pair_found : (pairs : List (ℕ × ℕ)) (u v : ℕ) → has_pair pairs u v ≡ true → (k : ℕ) × (k < length pairs) × ((pair_at pairs k).0 ≡ u) × ((pair_at pairs k).1 ≡ v)
pair_found [] u v h = absurd (false≢true h)
pair_found (p ∷ pairs) u v h = elim (or_cases (is_one p u v) (has_pair pairs u v) h) [
  | inl e ↦ let parts = and_parts (p.0 == u) (p.1 == v) e in (zero, omega arith, eqb-true p.0 u parts.0, eqb-true p.1 v parts.1)
  | inr e ↦ let found = pair_found pairs u v e in (suc found.0, omega (arith, found.1), found.2, found.3)
]

-- a pair at a position is a member
pub found_pair : (pairs : List (ℕ × ℕ)) (k u v : ℕ) → k < length pairs → (pair_at pairs k).0 ≡ u → (pair_at pairs k).1 ≡ v → has_pair pairs u v ≡ true
found_pair [] k u v l e f = absurd (omega arith)
found_pair (p ∷ pairs) zero u v l e f = or_left (is_one p u v) (has_pair pairs u v) (and_from (p.0 == u) (p.1 == v) (eq-eqb p.0 u e) (eq-eqb p.1 v f))
found_pair (p ∷ pairs) (suc k) u v l e f = or_right (is_one p u v) (has_pair pairs u v) (found_pair pairs k u v (omega arith) e f)

-- the pair at each position is a member
pub pair_there : (pairs : List (ℕ × ℕ)) (k : ℕ) → k < length pairs → has_pair pairs (pair_at pairs k).0 (pair_at pairs k).1 ≡ true
pair_there pairs k l = found_pair pairs k (pair_at pairs k).0 (pair_at pairs k).1 l refl refl

-- ---- the order of pairs

abbrev pub pair_cmp : ℕ × ℕ → ℕ × ℕ → Ordering
pair_cmp p q = ordering_then (nat_cmp p.0 q.0) (nat_cmp p.1 q.1)

abbrev pub pair_eq : ℕ × ℕ → ℕ × ℕ → Bool
pair_eq p q = nat_eq p.0 q.0 && nat_eq p.1 q.1

-- the order of pairs is total
pub pair_total : IsTotalOrder pair_cmp
pair_total = then_total (on_total (λ (t : ℕ × ℕ). t.0) nat_cmp_total) (on_total (λ (t : ℕ × ℕ). t.1) nat_cmp_total)

-- the order of two pairs: before, equal or after
pub pair_ranks : (p q : ℕ × ℕ) → MatchOrdering (pair_cmp p q) (IsBefore p q) ((p.0 ≡ q.0) × (p.1 ≡ q.1)) (IsBefore q p)
pair_ranks p q = go (nat_cmp p.0 q.0) (nat_cmp p.1 q.1) (ranks p.0 q.0) (ranks p.1 q.1)
  where
    go : (a b : Ordering) → MatchOrdering a (p.0 < q.0) (p.0 ≡ q.0) (q.0 < p.0) → MatchOrdering b (p.1 < q.1) (p.1 ≡ q.1) (q.1 < p.1)
        → MatchOrdering (ordering_then a b) (IsBefore p q) ((p.0 ≡ q.0) × (p.1 ≡ q.1)) (IsBefore q p)
    go Less b l h = inl l
    go Equal Less e l = inr (e, l)
    go Equal Equal e f = (e, f)
    go Equal Greater e l = inr (sym e, l)
    go Greater b l h = inl l

-- a pair that is less in the order is before the other
pub less_before : (p q : ℕ × ℕ) → pair_cmp p q ≡ Less → IsBefore p q
less_before p q less = subst (λ (o : Ordering). MatchOrdering o (IsBefore p q) ((p.0 ≡ q.0) × (p.1 ≡ q.1)) (IsBefore q p)) less (pair_ranks p q)

-- the order of pairs is transitive
pub before_trans : (p q r : ℕ × ℕ) → IsBefore p q → IsBefore q r → IsBefore p r
before_trans p q r one two = elim one [
  | inl a ↦ elim two [ inl b ↦ inl (omega (arith, a, b)) | inr b ↦ let e = b.0 in inl (omega (arith, a, e)) ]
  | inr a ↦ elim two [
    | inl b ↦ let e = a.0 in inl (omega (arith, e, b))
    | inr b ↦ let e = a.0 in let f = b.0 in let g = a.1 in let h = b.1 in inr (omega (arith, e, f), omega (arith, g, h))
  ]
]

-- no pair is before an equal one
pub not_before_itself : (p q : ℕ × ℕ) → IsBefore p q → p.0 ≡ q.0 → p.1 ≡ q.1 → ⊥
not_before_itself p q before e f = elim before [ inl l ↦ omega (arith, l, e) | inr l ↦ let g = l.1 in omega (arith, g, f) ]

-- each of rising pairs is before all later ones
pub far_before : (xs : List (ℕ × ℕ)) → ArePairsRising xs → (i j : ℕ) → i < j → j < length xs → IsBefore (pair_at xs i) (pair_at xs j)
far_before xs rising i zero l b = absurd (omega (arith, l))
far_before xs rising i (suc j) l b = elim (cases_eq i j) [
  | inl e ↦
      let next : i + 1 ≡ suc j = omega (arith, e) in
      subst (λ (t : ℕ). IsBefore (pair_at xs i) (pair_at xs t)) next (rising i (omega (arith, e, b)))
  | inr off ↦
      let next : j + 1 ≡ suc j = omega arith in
      before_trans (pair_at xs i) (pair_at xs j) (pair_at xs (suc j)) (far_before xs rising i j (omega (arith, l, off)) (omega (arith, b)))
      (subst (λ (t : ℕ). IsBefore (pair_at xs j) (pair_at xs t)) next (rising j (omega (arith, b))))
]

-- ---- sorted and without duplicates

-- two pairs are equal exactly if the order has them tied
tied : (p q : ℕ × ℕ) → pair_eq p q ≡ eq_by_cmp pair_cmp p q
tied p q = ap (λ (b : Bool). b && nat_eq p.1 q.1) (unsigned_ties p.0 q.0) ∙ ap (λ (b : Bool). eq_by_cmp nat_cmp p.0 q.0 && b) (unsigned_ties p.1 q.1)
    ∙ tied_then (nat_cmp p.0 q.0) (nat_cmp p.1 q.1)

-- sorted pairs without duplicates rise strictly
pub dedup_rises : (xs ys : List (ℕ × ℕ)) → IsSorted pair_cmp xs → ys ≡ dedup pair_eq xs → ArePairsRising ys
dedup_rises xs ys sorted is k l =
    let strict : IsStrictlySortedBy pair_cmp ys = subst (λ (t : List (ℕ × ℕ)). IsStrictlySortedBy pair_cmp t) (sym is) (IsStrictlySortedBy-dedup pair_total tied xs sorted) in
    less_before (pair_at ys k) (pair_at ys (k + 1)) (Less-from_sorted pair_cmp ys k (k + 1) (0, 0) strict (omega arith) l)

-- a member is contained in the list
contained : (xs : List (ℕ × ℕ)) (u v : ℕ) → has_pair xs u v ≡ true → Contains xs (u, v)
contained xs u v h = let at = pair_found xs u v h in (at.0, at.1, get_or_default xs at.0 (u, v) (0, 0) at.1 ∙ pair_is (pair_at xs at.0) u v at.2 at.3)

-- a contained pair is a member
has_contained : (xs : List (ℕ × ℕ)) (u v : ℕ) → Contains xs (u, v) → has_pair xs u v ≡ true
has_contained xs u v c =
    let is : pair_at xs c.0 ≡ (u, v) = get_or_default xs c.0 (0, 0) (u, v) c.1 ∙ c.2 in
    found_pair xs c.0 u v c.1 (ap (λ (p : ℕ × ℕ). p.0) is) (ap (λ (p : ℕ × ℕ). p.1) is)

-- pairs with equal parts are equal
exact : (p q : ℕ × ℕ) → pair_eq p q ≡ true → p ≡ q
exact p q h = let parts = and_parts (nat_eq p.0 q.0) (nat_eq p.1 q.1) h in pair_is p q.0 q.1 (eqb-true p.0 q.0 parts.0) (eqb-true p.1 q.1 parts.1)

-- removing duplicates keeps the members
pub dedup_same : (xs ys : List (ℕ × ℕ)) → ys ≡ dedup pair_eq xs → (u v : ℕ) → (has_pair ys u v ≡ true) ↔ (has_pair xs u v ≡ true)
dedup_same xs ys is u v = (
  λ h. has_contained xs u v (Contains-from_dedup pair_eq xs (u, v) (contained (dedup pair_eq xs) u v (subst (λ (t : List (ℕ × ℕ)). has_pair t u v ≡ true) is h))),
  λ h. subst (λ (t : List (ℕ × ℕ)). has_pair t u v ≡ true) (sym is)
      (has_contained (dedup pair_eq xs) u v (Contains-dedup (and_equiv (on_equiv (λ (t : ℕ × ℕ). t.0) nat_eq_equiv) (on_equiv (λ (t : ℕ × ℕ). t.1) nat_eq_equiv)) exact xs (u, v) (contained xs u v h))),
)
