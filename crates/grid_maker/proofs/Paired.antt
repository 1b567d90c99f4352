-- The pairs of the grid rise, and join each unit to the one on its right and the one below.
use Rattle.std.proofs.Common.{◌≡◌, ℕ, zero, suc, ◌+◌, ◌*◌, ◌%◌, ◌<◌, ◌≤◌, Bool, true, false, cond, List, [], ◌∷◌, ◌++◌, length, Option, Some, None, refl, sym, ap, ◌∙◌, subst, inl, inr, arith, length-append}
use Rattle.std.specs.Prelude.{◌⊎◌, nat_lt, unwrap_or}
use Rattle.std.proofs.lemmas.Bool.{cases_lt, cases_eq, ltb-true, both_ways}
use Rattle.std.proofs.lemmas.List.{get_or_append_left, get_or_push}
use Rattle.dual_graph.specs.Pairs.{pair_at, IsBefore, ArePairs, Joins}
use Rattle.dual_graph.proofs.Ordered.{before_trans}
use Rattle.grid_maker.specs.Beside.{right, below}
use Rattle.grid_maker.specs.Pairs.{extended, pairs_until}
use Rattle.grid_maker.proofs.Neighbours.{last_ends}

-- ---- the unit to the right and the unit below

-- an option that depends on a test has a value only if the test is true
observed : (b : Bool) (a v : ℕ) → cond {A = Option ℕ} b (Some a) None ≡ Some v → (b ≡ true) × (v ≡ a)
observed true a v e = (refl, sym (ap (λ (o : Option ℕ). unwrap_or o 0) e))
observed false a v e = cc e

-- the unit to the right is the next one, and the unit is not the last of its row
pub right_is : (side u v : ℕ) → right side u ≡ Some v → (nat_lt (u % side + 1) side ≡ true) × (v ≡ u + 1)
right_is side u v e = observed (nat_lt (u % side + 1) side) (u + 1) v e

-- the unit below is one width further, and inside the grid
pub below_is : (side u v : ℕ) → below side u ≡ Some v → (nat_lt (u + side) (side * side) ≡ true) × (v ≡ u + side)
below_is side u v e = observed (nat_lt (u + side) (side * side)) (u + side) v e

-- the unit to the right is greater and inside the grid
right_inside : (side u v : ℕ) → 0 < side → u < side * side → right side u ≡ Some v → (v ≡ u + 1) × (u < v) × (v < side * side)
right_inside side u v some l e =
    let is = right_is side u v e in
    let next = is.1 in
    elim (cases_eq (u + 1) (side * side)) [
      | inl last ↦ absurd (both_ways (nat_lt (u % side + 1) side) (last_ends side u some last) is.0)
      | inr off ↦ (next, omega (arith, next), omega (arith, next, l, off))
    ]

-- the unit below is greater and inside the grid
below_inside : (side u v : ℕ) → 0 < side → below side u ≡ Some v → (v ≡ u + side) × (u < v) × (v < side * side)
below_inside side u v some e =
    let is = below_is side u v e in
    let next = is.1 in
    let under = ltb-true (u + side) (side * side) is.0 in
    (next, omega (arith, next, some), omega (arith, next, under))

-- ---- rising pairs

-- the pairs rise, and all are before `top`
record Rises (n : ℕ) (pairs : List (ℕ × ℕ)) (top : ℕ × ℕ) : Type 0 where
  are : ArePairs n pairs
  under : (k : ℕ) → k < length pairs → IsBefore (pair_at pairs k) top

-- a greater upper bound is an upper bound
rises_on : (n : ℕ) (pairs : List (ℕ × ℕ)) (p q : ℕ × ℕ) → Rises n pairs p → IsBefore p q → Rises n pairs q
rises_on n pairs p q r b = record { are = r.are; under = λ k l. before_trans (pair_at pairs k) p q (r.under k l) b }

-- a property of all pairs and of one more holds of the extended list
each_push : (P : ℕ × ℕ → Type 0) (pairs : List (ℕ × ℕ)) (p : ℕ × ℕ) → ((k : ℕ) → k < length pairs → P (pair_at pairs k)) → P p
    → (k : ℕ) → k < length (pairs ++ p ∷ []) → P (pair_at (pairs ++ p ∷ []) k)
each_push P pairs p old new k l = elim (cases_lt k (length pairs)) [
  | inl inside ↦ subst P (sym (get_or_append_left pairs (p ∷ []) (0, 0) k inside)) (old k inside)
  | inr past ↦ subst P (sym (get_or_push pairs p (0, 0) k (omega (arith, past, l, length-append pairs (p ∷ []))))) new
]

-- appending a greater pair keeps the pairs rising
rises_push : (n : ℕ) (pairs : List (ℕ × ℕ)) (p q : ℕ × ℕ) → Rises n pairs p → p.0 < p.1 → p.1 < n → IsBefore p q → Rises n (pairs ++ p ∷ []) q
rises_push n pairs p q r up inside b = record {
  are = record {
    small = each_push (λ (x : ℕ × ℕ). x.0 < x.1) pairs p r.are.small up;
    below = each_push (λ (x : ℕ × ℕ). x.1 < n) pairs p r.are.below inside;
    rising = λ k l. elim (cases_lt (k + 1) (length pairs)) [
      | inl early ↦
          subst (λ (x : ℕ × ℕ). IsBefore x (pair_at (pairs ++ p ∷ []) (k + 1))) (sym (get_or_append_left pairs (p ∷ []) (0, 0) k (omega (arith, early))))
          (subst (λ (y : ℕ × ℕ). IsBefore (pair_at pairs k) y) (sym (get_or_append_left pairs (p ∷ []) (0, 0) (k + 1) early)) (r.are.rising k early))
      | inr past ↦
          let end : length pairs ≡ k + 1 = omega (arith, past, l, length-append pairs (p ∷ [])) in
          subst (λ (x : ℕ × ℕ). IsBefore x (pair_at (pairs ++ p ∷ []) (k + 1))) (sym (get_or_append_left pairs (p ∷ []) (0, 0) k (omega (arith, end))))
          (subst (λ (y : ℕ × ℕ). IsBefore (pair_at pairs k) y) (sym (get_or_push pairs p (0, 0) (k + 1) end)) (r.under k (omega (arith, end))))
    ];
  };
  under = each_push (λ (x : ℕ × ℕ). IsBefore x q) pairs p (λ k l. before_trans (pair_at pairs k) p q (r.under k l) b) b;
}

-- appending the pair of one more neighbor keeps the pairs rising
rises_extended : (n : ℕ) (pairs : List (ℕ × ℕ)) (u : ℕ) (o : Option ℕ) (w : ℕ) (q : ℕ × ℕ) → Rises n pairs (u, w)
    → ((v : ℕ) → o ≡ Some v → (v ≡ w) × (u < v) × (v < n)) → IsBefore (u, w) q → Rises n (extended pairs u o) q
rises_extended n pairs u None w q r inside b = rises_on n pairs (u, w) q r b
rises_extended n pairs u (Some v) w q r inside b =
    let is = inside v refl in
    let e = is.0 in
    let up = is.1 in
    let few = is.2 in
    subst (λ (x : ℕ). Rises n (pairs ++ (u, x) ∷ []) q) (sym e) (rises_push n pairs (u, w) q r (omega (arith, e, up)) (omega (arith, e, few)) b)

-- the pairs of the units before one rise
rises_until : (side i : ℕ) → 2 ≤ side → i ≤ side * side → Rises (side * side) (pairs_until side i) (i, i + 1)
rises_until side zero wide few = record {
  are = record { small = λ k l. absurd (omega (arith, l)); below = λ k l. absurd (omega (arith, l)); rising = λ k l. absurd (omega (arith, l)) };
  under = λ k l. absurd (omega (arith, l));
}
rises_until side (suc u) wide few =
    let l : u < side * side = omega (arith, few) in
    let some : 0 < side = omega (arith, wide) in
    let one = rises_extended (side * side) (pairs_until side u) u (right side u) (u + 1) (u, u + side) (rises_until side u wide (omega (arith, few)))
    (λ v e. right_inside side u v some l e) (inr (refl, omega (arith, wide))) in
    rises_extended (side * side) (extended (pairs_until side u) u (right side u)) u (below side u) (u + side) (suc u, suc u + 1) one
    (λ v e. below_inside side u v some e) (inl (omega arith))

-- the pairs of the grid rise
pub pairs_rise : (side : ℕ) → 2 ≤ side → ArePairs (side * side) (pairs_until side (side * side))
pairs_rise side wide = (rises_until side (side * side) wide (omega arith)).are

-- ---- the number of pairs

-- at most one pair is appended
length-extended : (pairs : List (ℕ × ℕ)) (u : ℕ) (o : Option ℕ) → length (extended pairs u o) ≤ length pairs + 1
length-extended pairs u None = omega arith
length-extended pairs u (Some v) = omega (arith, length-append pairs ((u, v) ∷ []))

-- there are at most two pairs per unit
pub length-until : (side i : ℕ) → length (pairs_until side i) ≤ 2 * i
length-until side zero = omega arith
length-until side (suc u) =
    let one = length-extended (pairs_until side u) u (right side u) in
    let two = length-extended (extended (pairs_until side u) u (right side u)) u (below side u) in
    omega (arith, one, two, length-until side u)

-- ---- membership

-- some pair has these units
HasPair : List (ℕ × ℕ) → ℕ → ℕ → Type 0
HasPair pairs u v = (k : ℕ) × (k < length pairs) × (pair_at pairs k ≡ (u, v))

-- v is to the right of u or below it
abbrev pub IsNext : ℕ → ℕ → ℕ → Type 0
IsNext side u v = (right side u ≡ Some v) ⊎ (below side u ≡ Some v)

-- appending keeps the pairs
had : (pairs : List (ℕ × ℕ)) (w : ℕ) (o : Option ℕ) (u v : ℕ) → HasPair pairs u v → HasPair (extended pairs w o) u v
unfolding HasPair
had pairs w None u v h = h
had pairs w (Some x) u v h =
    let l = h.1 in
    (h.0, omega (arith, l, length-append pairs ((w, x) ∷ [])), get_or_append_left pairs ((w, x) ∷ []) (0, 0) h.0 h.1 ∙ h.2)

-- the appended pair is a member
has_new : (pairs : List (ℕ × ℕ)) (u v : ℕ) (o : Option ℕ) → o ≡ Some v → HasPair (extended pairs u o) u v
unfolding HasPair
has_new pairs u v o e = subst (λ (p : Option ℕ). HasPair (extended pairs u p) u v) (sym e)
    (length pairs, omega (arith, length-append pairs ((u, v) ∷ [])), get_or_push pairs (u, v) (0, 0) (length pairs) refl)

-- each member is an older one or the appended pair
had_or_new : (pairs : List (ℕ × ℕ)) (w : ℕ) (o : Option ℕ) (u v : ℕ) → HasPair (extended pairs w o) u v → HasPair pairs u v ⊎ ((u ≡ w) × (o ≡ Some v))
unfolding HasPair
had_or_new pairs w None u v h = inl h
had_or_new pairs w (Some x) u v h =
    let l = h.1 in
    elim (cases_lt h.0 (length pairs)) [
      | inl inside ↦ inl (h.0, inside, sym (get_or_append_left pairs ((w, x) ∷ []) (0, 0) h.0 inside) ∙ h.2)
      | inr past ↦
          let is : ◌≡◌ {A = ℕ × ℕ} (w, x) (u, v) = sym (get_or_push pairs (w, x) (0, 0) h.0 (omega (arith, past, l, length-append pairs ((w, x) ∷ [])))) ∙ h.2 in
          inr (sym (ap (λ (p : ℕ × ℕ). p.0) is), ap (λ (p : ℕ × ℕ). Some p.1) is)
    ]

-- each pair joins a unit to the one on its right or below
until_has : (side i u v : ℕ) → HasPair (pairs_until side i) u v → (u < i) × IsNext side u v
unfolding HasPair
until_has side zero u v h = let l = h.1 in absurd (omega (arith, l))
until_has side (suc w) u v h = elim (had_or_new (extended (pairs_until side w) w (right side w)) w (below side w) u v h) [
  | inl one ↦ elim (had_or_new (pairs_until side w) w (right side w) u v one) [
    | inl old ↦ let is = until_has side w u v old in let l = is.0 in (omega (arith, l), is.1)
    | inr new ↦ let e = new.0 in (omega (arith, e), inl (ap (right side) e ∙ new.1))
  ]
  | inr new ↦ let e = new.0 in (omega (arith, e), inr (ap (below side) e ∙ new.1))
]

-- each unit has a pair with the one on its right and with the one below
has_until : (side i u v : ℕ) → u < i → IsNext side u v → HasPair (pairs_until side i) u v
has_until side zero u v l next = absurd (omega (arith, l))
has_until side (suc w) u v l next = elim (cases_eq u w) [
  | inl e ↦ subst (λ (x : ℕ). HasPair (pairs_until side (suc x)) u v) e (elim next [
    | inl r ↦ had (extended (pairs_until side u) u (right side u)) u (below side u) u v (has_new (pairs_until side u) u v (right side u) r)
    | inr b ↦ has_new (extended (pairs_until side u) u (right side u)) u v (below side u) b
  ])
  | inr off ↦ had (extended (pairs_until side w) w (right side w)) w (below side w) u v
      (had (pairs_until side w) w (right side w) u v (has_until side w u v (omega (arith, l, off)) next))
]

-- units joined by a pair are next to each other, in one order or the other
pub joins_next : (side n u v : ℕ) → Joins (pairs_until side n) u v → ((u < n) × IsNext side u v) ⊎ ((v < n) × IsNext side v u)
unfolding HasPair
joins_next side n u v j = elim j.2 [
  | inl e ↦ inl (until_has side n u v (j.0, j.1, e))
  | inr e ↦ inr (until_has side n v u (j.0, j.1, e))
]

-- a unit and the next one are joined by a pair
pub next_joins : (side n u v : ℕ) → u < n → IsNext side u v → Joins (pairs_until side n) u v
unfolding HasPair
next_joins side n u v l next = let h = has_until side n u v l next in (h.0, h.1, inl h.2)

-- joining is symmetric
pub next_joins_back : (side n u v : ℕ) → v < n → IsNext side v u → Joins (pairs_until side n) u v
unfolding HasPair
next_joins_back side n u v l next = let h = has_until side n v u l next in (h.0, h.1, inr h.2)

-- the next unit is greater and inside the grid
pub next_inside : (side u v : ℕ) → 0 < side → u < side * side → IsNext side u v → (u < v) × (v < side * side)
next_inside side u v some l next = elim next [
  | inl r ↦ let is = right_inside side u v some l r in (is.1, is.2)
  | inr b ↦ let is = below_inside side u v some b in (is.1, is.2)
]
