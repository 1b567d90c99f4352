-- Labels of units that are equal along edges: each edge removes at most one root.
use Rattle.std.proofs.Common.{◌≡◌, ℕ, zero, suc, ◌+◌, ◌<◌, ◌≤◌, Bool, true, false, cond, not, ◌&&◌, List, [], ◌∷◌, refl, sym, ap, ◌∙◌, subst, inl, inr, arith}
use Rattle.std.specs.Prelude.{◌==◌, ◌⊎◌}
use Rattle.std.proofs.lemmas.Bool.{and_parts, and_from, cases_Bool, cases_eq, cond-true, cond-false, eq-eqb, eqb-true, ne_eqb, not_from_false, not-true, eqb-false, both_ways, cases_lt}
use Rattle.audit_model.specs.Below.{count_below, sum_below}
use Rattle.audit_model.specs.Graph.{Graph, adjacent, IsIn, count_edges}
use Rattle.audit_model.specs.Path.{IsPath}
use Rattle.audit_model.proofs.Below.{count_below_into, count_below_without, count_below_more, sum_below_more}
use Rattle.audit_model.proofs.Paths.{first_in}

-- ---- counts

-- a test that passes one more number counts more
pub count_less : (n : ℕ) (p q : ℕ → Bool) (x : ℕ) → x < n → ((k : ℕ) → p k ≡ true → q k ≡ true) → q x ≡ true → p x ≡ false
    → count_below n p + 1 ≤ count_below n q
count_less n p q x l weaker has-x missing-x =
    let rest = count_below_more n p (λ k. q k && not (k == x)) (λ k h. and_from (q k) (not (k == x)) (weaker k h)
    (not_from_false (k == x) (ne_eqb k x (λ e. both_ways (p x) missing-x (subst (λ m. p m ≡ true) e h))))) in
    omega (arith, rest, count_below_without n q x l has-x)

-- a sum with one smaller term, and none greater, is smaller
pub sum_less : (n : ℕ) (f h : ℕ → ℕ) (k : ℕ) → k < n → ((j : ℕ) → f j ≤ h j) → f k + 1 ≤ h k → sum_below n f + 1 ≤ sum_below n h
sum_less zero f h k l each less = absurd (omega arith)
sum_less (suc n) f h k l each less = elim (cases_eq k n) [
  | inl e ↦ let last : f n + 1 ≤ h n = subst (λ m. f m + 1 ≤ h m) e less in omega (arith, sum_below_more n f h each, last)
  | inr off ↦ omega (arith, sum_less n f h k (omega arith) each less, each n)
]

-- a positive count has a number that passes
pub counted : (n : ℕ) (p : ℕ → Bool) → 0 < count_below n p → (k : ℕ) × (k < n) × (p k ≡ true)
unfolding count_below
counted zero p some = absurd (omega arith)
counted (suc n) p some = elim (cases_Bool (p n)) [
  | inl yes-p ↦ (n, omega arith, yes-p)
  | inr no-p ↦
      let before = counted n p (omega (arith, some, cond-false {A = ℕ} (p n) 1 0 no-p)) in
      (before.0, omega (arith, before.1), before.2)
]

-- a count of at least two has two numbers that pass
pub two_counted : (n : ℕ) (p : ℕ → Bool) → 2 ≤ count_below n p
    → (j : ℕ) × (k : ℕ) × (j < n) × (k < n) × (p j ≡ true) × (p k ≡ true) × (j ≡ k → ⊥)
two_counted n p two =
    let first = counted n p (omega (arith, two)) in
    let j = first.0 in
    let second = counted n (λ k. p k && not (k == j)) (omega (arith, two, count_below_without n p j first.1 first.2)) in
    let both = and_parts (p second.0) (not (second.0 == j)) second.2 in
    (j, second.0, first.1, second.1, first.2, both.0, λ e. eqb-false second.0 j (not-true (second.0 == j) both.1) (sym e))

-- ---- a set with fewer edges

-- one edge fewer
pub edges_less : (g : Graph) (t less : ℕ → ℕ → Bool) (a b : ℕ) → a < b → b < g.units → adjacent g a b ≡ true → t a b ≡ true → less a b ≡ false
    → ((v w : ℕ) → less v w ≡ true → t v w ≡ true) → count_edges g less + 1 ≤ count_edges g t
edges_less g t less a b ab bound near has-edge missing-edge weaker =
    sum_less g.units (λ v. count_below v (λ w. adjacent g w v && less w v)) (λ v. count_below v (λ w. adjacent g w v && t w v)) b bound
    (λ v. count_below_more v (λ w. adjacent g w v && less w v) (λ w. adjacent g w v && t w v) (λ w h. more w v h))
    (count_less b (λ w. adjacent g w b && less w b) (λ w. adjacent g w b && t w b) a ab (λ w h. more w b h)
    (and_from (adjacent g a b) (t a b) near has-edge) (never (adjacent g a b) (less a b) missing-edge))
  where
    more : (w v : ℕ) → (adjacent g w v && less w v) ≡ true → (adjacent g w v && t w v) ≡ true
    more w v h = let parts = and_parts (adjacent g w v) (less w v) h in and_from (adjacent g w v) (t w v) parts.0 (weaker w v parts.1)

    never : (p q : Bool) → q ≡ false → (p && q) ≡ false
    never true q e = e
    never false q e = refl

-- ---- labels

-- equal labels before are equal labels after
pub Coarser : (ℕ → ℕ) → (ℕ → ℕ) → Type 0
Coarser old new = (x y : ℕ) → old x ≡ old y → new x ≡ new y

-- the number of units of the set that are their own labels
abbrev pub count_roots : ℕ → (ℕ → Bool) → (ℕ → ℕ) → ℕ
count_roots n set label = count_below n (λ k. set k && (label k == k))

-- the label of p is replaced by that of q
merged : (ℕ → ℕ) → ℕ → ℕ → ℕ → ℕ
merged label p q v = cond (label v == label p) (label q) (label v)

-- a unit with the replaced label has the other one
merged_on : (label : ℕ → ℕ) (p q v : ℕ) → label v ≡ label p → merged label p q v ≡ label q
unfolding merged
merged_on label p q v e = cond-true {A = ℕ} (label v == label p) (label q) (label v) (eq-eqb (label v) (label p) e)

-- a unit with any third label keeps it
merged_off : (label : ℕ → ℕ) (p q v : ℕ) → (label v ≡ label p → ⊥) → merged label p q v ≡ label v
unfolding merged
merged_off label p q v off = cond-false {A = ℕ} (label v == label p) (label q) (label v) (ne_eqb (label v) (label p) off)

-- merging keeps equal labels equal
merged_coarser : (label : ℕ → ℕ) (p q : ℕ) → Coarser label (merged label p q)
unfolding Coarser
merged_coarser label p q x y e = elim (cases_eq (label x) (label p)) [
  | inl at ↦ merged_on label p q x at ∙ sym (merged_on label p q y (sym e ∙ at))
  | inr off ↦ merged_off label p q x off ∙ e ∙ sym (merged_off label p q y (λ h. off (e ∙ h)))
]

-- merging makes both labels equal
merged_joins : (label : ℕ → ℕ) (p q : ℕ) → merged label p q p ≡ merged label p q q
merged_joins label p q = merged_on label p q p refl ∙ elim (cases_eq (label q) (label p)) [
  | inl at ↦ sym (merged_on label p q q at)
  | inr off ↦ sym (merged_off label p q q off)
]

-- merging removes at most one root
merged_roots : (n : ℕ) (set : ℕ → Bool) (label : ℕ → ℕ) (p q : ℕ) → count_roots n set label ≤ count_roots n set (merged label p q) + 1
merged_roots n set label p q = elim (cases_Bool (here (label p))) [
  | inl yes-h ↦ elim (below_or (label p)) [
    | inl l ↦ omega (arith, count_below_without n here (label p) l yes-h, count_below_more n (λ k. here k && not (k == label p)) there others)
    | inr l ↦ omega (arith, count_below_into n n here there (λ k. k) (λ k b h. (b, stays k h (λ e. omega (arith, l, b, e)))) (λ j k lj lk hj hk e. e))
  ]
  | inr no-h ↦ omega (arith, count_below_more n here there (λ k h. stays k h (λ e. both_ways (here (label p)) no-h (subst (λ m. here m ≡ true) e h))))
]
  where
    here : ℕ → Bool
    here k = set k && (label k == k)

    there : ℕ → Bool
    there k = set k && (merged label p q k == k)

    below_or : (k : ℕ) → (k < n) ⊎ (n ≤ k)
    below_or k = cases_lt k n

    stays : (k : ℕ) → here k ≡ true → (k ≡ label p → ⊥) → there k ≡ true
    stays k h off =
        let parts = and_parts (set k) (label k == k) h in
        let own = eqb-true (label k) k parts.1 in
        and_from (set k) (merged label p q k == k) parts.0
        (eq-eqb (merged label p q k) k (merged_off label p q k (λ e. off (sym own ∙ e)) ∙ own))

    others : (k : ℕ) → (here k && not (k == label p)) ≡ true → there k ≡ true
    others k h =
        let parts = and_parts (here k) (not (k == label p)) h in
        stays k parts.0 (λ e. both_ways (k == label p) (not-true (k == label p) parts.1) (eq-eqb k (label p) e))

-- ---- labels that are equal along the edges that pass a test; the edge of v and w is at (at v w) and (at w v)

module _ (at : ℕ → ℕ → ℕ) (n : ℕ) (set : ℕ → Bool) where
  -- the edges from w to smaller units
  row_labels : (w m : ℕ) (test : ℕ → Bool) (label : ℕ → ℕ)
      → (new : ℕ → ℕ) × Coarser label new × ((v : ℕ) → v < m → test v ≡ true → new (at v w) ≡ new (at w v))
      × (count_roots n set label ≤ count_roots n set new + count_below m test)
  unfolding Coarser count_below
  row_labels w zero test label = (label, λ x y e. e, λ v l h. absurd (omega (arith, l)), omega arith)
  row_labels w (suc m) test label = let (old, finer, same, roots) = row_labels w m test label in elim (cases_Bool (test m)) [
    | inl yes-t ↦ (
      merged old (at m w) (at w m),
      λ x y e. merged_coarser old (at m w) (at w m) x y (finer x y e),
      λ v l h. elim (cases_eq v m) [
        | inl e ↦ subst (λ k. merged old (at m w) (at w m) (at k w) ≡ merged old (at m w) (at w m) (at w k)) (sym e) (merged_joins old (at m w) (at w m))
        | inr off ↦ merged_coarser old (at m w) (at w m) (at v w) (at w v) (same v (omega (arith, l, off)) h)
      ],
      omega (arith, roots, merged_roots n set old (at m w) (at w m), cond-true {A = ℕ} (test m) 1 0 yes-t),
    )
    | inr no-t ↦ (
      old,
      finer,
      λ v l h. elim (cases_eq v m) [
        | inl e ↦ absurd (both_ways (test m) no-t (subst (λ k. test k ≡ true) e h))
        | inr off ↦ same v (omega (arith, l, off)) h
      ],
      omega (arith, roots, cond-false {A = ℕ} (test m) 1 0 no-t),
    )
  ]

  -- all edges among the first units
  pub edge_labels : (m : ℕ) (test : ℕ → ℕ → Bool)
      → (new : ℕ → ℕ) × ((v w : ℕ) → v < w → w < m → test v w ≡ true → new (at v w) ≡ new (at w v))
      × (count_below n set ≤ count_roots n set new + sum_below m (λ w. count_below w (λ v. test v w)))
  unfolding Coarser
  edge_labels zero test = (
    λ k. k,
    λ v w a b h. absurd (omega (arith, b)),
    omega (
      arith,
      count_below_more n set (λ k. set k && (k == k))
          (λ k h. and_from (set k) (k == k) h (eq-eqb k k refl)),
    ),
  )
  edge_labels (suc m) test =
      let (old, same, roots) = edge_labels m test in
      let (new, finer, row, fewer) = row_labels m m (λ v. test v m) old in (
        new,
        λ v w a b h. elim (cases_eq w m) [
          | inl e ↦ subst (λ k. new (at v k) ≡ new (at k v)) (sym e) (row v (omega (arith, a, e)) (subst (λ k. test v k ≡ true) e h))
          | inr off ↦ finer (at v w) (at w v) (same v w a (omega (arith, b, off)) h)
        ],
        omega (arith, roots, fewer),
      )

-- ---- labels along paths

-- labels that are equal along each edge of a set are equal along a path
pub path_same : (g : Graph) (inside : ℕ → Bool) (label : ℕ → ℕ)
    → ((v w : ℕ) → IsIn g inside v → IsIn g inside w → adjacent g v w ≡ true → label v ≡ label w)
    → (units : List ℕ) (x y : ℕ) → IsPath g inside units x y → label x ≡ label y
path_same g inside label step [] x y p = absurd p
path_same g inside label step (w ∷ []) x y p = ap label (sym p.0 ∙ p.1)
path_same g inside label step (w ∷ v ∷ rest) x y p =
    ap label (sym p.0) ∙ step w v p.1 (first_in g inside v rest v y p.3) p.2 ∙ path_same g inside label step (v ∷ rest) v y p.3
