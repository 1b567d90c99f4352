-- Lengths of edges: the places of directed edges, and bounds on sums of lengths.
use Rattle.std.proofs.Common.{◌≡◌, ℕ, zero, suc, ◌+◌, ◌*◌, ◌^◌, ◌<◌, ◌≤◌, Bool, true, cond, not, ◌&&◌, ◌==◌, List, [], ◌∷◌, length, get_or, refl, sym, ap, ◌∙◌, inl, inr, arith}
use Rattle.std.specs.Prelude.{nat_lt, count_by}
use Rattle.std.specs.List.{All, slice_index_or}
use Rattle.std.proofs.lemmas.Bool.{cases_Bool, cases_lt, cond-true, cond-false, and_left, lt-ltb, le-ltb}
use Rattle.std.proofs.lemmas.List.{get_or_past}
use Rattle.std.proofs.lemmas.List.Sums.{sum_by-cons}
use Rattle.audit_model.specs.Below.{count_below, sum_below}
use Rattle.audit_model.specs.Graph.{Graph, IsGraph, has, adjacent, count_edges}
use Rattle.audit_model.specs.Length.{AreLengths, arc_at, cut_length, degree, edge_length}
use Rattle.audit_model.proofs.Below.{count_below_le, count_below_same}
use Rattle.audit_model.proofs.Bools.{and_true}
use Rattle.audit_model.proofs.ListFacts.{at_has}
use Rattle.audit_model.proofs.Rows.{IsRising, above, counted_edges_le, count_rising, row_rises, tail_rises}

-- ---- places in a rising list

-- a rising list has no item below a bound that its first item reaches
none_below : (x : ℕ) (xs : List ℕ) (n : ℕ) → IsRising (x ∷ xs) → n ≤ x → count_by (λ u. nat_lt u n && true) (x ∷ xs) ≡ 0
none_below x [] n r le =
    let counted = sum_by-cons (λ u. cond {A = ℕ} (nat_lt u n && true) 1 0) x [] in
    let none : cond {A = ℕ} (nat_lt x n && true) 1 0 ≡ 0 = cond-false {A = ℕ} (nat_lt x n && true) 1 0 (and_left (nat_lt x n) true (le-ltb x n le)) in
    omega (arith, counted, none)
none_below x (y ∷ ys) n r le =
    let counted = sum_by-cons (λ u. cond {A = ℕ} (nat_lt u n && true) 1 0) x (y ∷ ys) in
    let none : cond {A = ℕ} (nat_lt x n && true) 1 0 ≡ 0 = cond-false {A = ℕ} (nat_lt x n && true) 1 0 (and_left (nat_lt x n) true (le-ltb x n le)) in
    let step : x < y = r.rises 0 (omega arith) in
    let rest = none_below y ys n (tail_rises x (y ∷ ys) r) (omega (arith, le, step)) in
    omega (arith, counted, none, rest)

-- as many items of a rising list are below its item at a place as stand before it
before_place : (xs : List ℕ) (k : ℕ) → IsRising xs → k < length xs → count_by (λ u. nat_lt u (get_or xs k 0) && true) xs ≡ k
before_place [] k r l = absurd (omega arith)
before_place (x ∷ xs) zero r l = none_below x xs x r (omega arith)
before_place (x ∷ xs) (suc k) r l =
    let n : ℕ = get_or xs k 0 in
    let counted = sum_by-cons (λ u. cond {A = ℕ} (nat_lt u n && true) 1 0) x xs in
    let one : cond {A = ℕ} (nat_lt x n && true) 1 0 ≡ 1 =
    cond-true {A = ℕ} (nat_lt x n && true) 1 0 (and_true (nat_lt x n) true refl ∙ lt-ltb x n (above x xs r n (at_has xs k (omega arith)))) in
    let rest = before_place xs k (tail_rises x xs r) (omega arith) in
    omega (arith, counted, one, rest)

-- the place of an item of a rising list is the number of items below it
pub place_in : (xs : List ℕ) (k : ℕ) → IsRising xs → k < length xs → count_below (get_or xs k 0) (has xs) ≡ k
place_in xs k r l =
    count_below_same (get_or xs k 0) (has xs) (λ u. has xs u && true) (λ u under. sym (and_true (has xs u) true refl))
    ∙ sym (count_rising (get_or xs k 0) (λ u. true) xs r) ∙ before_place xs k r l

-- ---- places of directed edges

-- the directed edge to the neighbor at a place of a row
pub arc_to : (g : Graph) (u k : ℕ) → IsGraph g → k < degree g u → arc_at g u (get_or (slice_index_or g.neighbours u []) k 0) ≡ sum_below u (degree g) + k
arc_to g u k sound l = ap (λ (n : ℕ). sum_below u (degree g) + n) (place_in (slice_index_or g.neighbours u []) k (row_rises g u sound) l)

-- the sum up to a number is at most the whole sum
pub sums_within : (n u : ℕ) (f : ℕ → ℕ) → u < n → sum_below u f + f u ≤ sum_below n f
sums_within zero u f l = absurd (omega arith)
sums_within (suc n) u f l = elim (cases_lt u n) [
  | inl under ↦ let rest = sums_within n u f under in omega (arith, rest)
  | inr past ↦
      let e : u ≡ n = omega (arith, l, past) in
      let same : sum_below u f ≡ sum_below n f = ap (λ (k : ℕ). sum_below k f) e in
      let last : f u ≡ f n = ap f e in
      omega (arith, same, last)
]

-- a unit has at most as many neighbors as there are units
pub degree_few : (g : Graph) (u : ℕ) → IsGraph g → degree g u ≤ g.units
degree_few g u sound = elim (cases_lt g.units (degree g u)) [
  | inr le ↦ le
  | inl lt ↦
      let row : List ℕ = slice_index_or g.neighbours u [] in
      let place = place_in row g.units (row_rises g u sound) lt in
      let inside : get_or row g.units 0 < g.units = sound.below u (get_or row g.units 0) (at_has row g.units lt) in
      let few = count_below_le (get_or row g.units 0) (has row) in
      absurd (omega (arith, place, inside, few))
]

-- ---- bounds

-- each length is below 2 ^ 32
pub length_small : (g : Graph) (lengths : List ℕ) (u v : ℕ) → All (λ l. l < 2 ^ 32) lengths → edge_length g lengths u v ≤ 4294967295
length_small g lengths u v small = elim (cases_lt (arc_at g u v) (length lengths)) [
  | inl l ↦ let below : edge_length g lengths u v < 2 ^ 32 = small (arc_at g u v) 0 l in omega (arith, below)
  | inr past ↦ let none : edge_length g lengths u v ≡ 0 = get_or_past lengths (arc_at g u v) 0 past in omega (arith, none)
]

-- a sum of lengths for those that pass a test is at most the greatest length times their count
sum_by_count : (n : ℕ) (test : ℕ → Bool) (f : ℕ → ℕ) → ((k : ℕ) → f k ≤ 4294967295) → sum_below n (λ k. cond {A = ℕ} (test k) (f k) 0) ≤ 4294967295 * count_below n test
unfolding count_below
sum_by_count zero test f each = omega arith
sum_by_count (suc n) test f each =
    let rest = sum_by_count n test f each in
    elim (cases_Bool (test n)) [
      | inl e ↦
          let one : cond {A = ℕ} (test n) 1 0 ≡ 1 = cond-true {A = ℕ} (test n) 1 0 e in
          let last : cond {A = ℕ} (test n) (f n) 0 ≡ f n = cond-true {A = ℕ} (test n) (f n) 0 e in
          omega (arith, rest, last, one, each n)
      | inr e ↦
          let none : cond {A = ℕ} (test n) 1 0 ≡ 0 = cond-false {A = ℕ} (test n) 1 0 e in
          let last : cond {A = ℕ} (test n) (f n) 0 ≡ 0 = cond-false {A = ℕ} (test n) (f n) 0 e in
          omega (arith, rest, last, none)
    ]

-- the sum of the lengths of edges up to a unit is at most the greatest length times their number
pub sum_edges_few : (g : Graph) (lengths : List ℕ) (test : ℕ → ℕ → Bool) (m : ℕ) → All (λ l. l < 2 ^ 32) lengths
    → sum_below m (λ v. sum_below v (λ u. cond {A = ℕ} (adjacent g u v && test u v) (edge_length g lengths u v) 0))
    ≤ 4294967295 * sum_below m (λ v. count_below v (λ u. adjacent g u v && test u v))
sum_edges_few g lengths test zero small = omega arith
sum_edges_few g lengths test (suc m) small =
    let rest = sum_edges_few g lengths test m small in
    let last = sum_by_count m (λ u. adjacent g u m && test u m) (λ u. edge_length g lengths u m) (λ u. length_small g lengths u m small) in
    omega (arith, rest, last)

-- no plan's cut edges are longer in all than 400,000 edges of the greatest length
pub cut_length_few : (g : Graph) (lengths plan : List ℕ) → All (λ l. l < 2 ^ 32) lengths → count_edges g (λ u v. true) ≤ 400000
    → cut_length g lengths plan ≤ 1717986918000000
cut_length_few g lengths plan small few =
    let test : ℕ → ℕ → Bool = λ u v. not (get_or plan u 0 == get_or plan v 0) in
    let sum = sum_edges_few g lengths test g.units small in
    let count = counted_edges_le g test g.units (omega arith) in
    omega (arith, sum, count, few)

-- ---- lists of lengths

-- no lengths are lengths for any graph
pub none_lengths : (g : Graph) (lengths : List ℕ) → lengths ≡ [] → AreLengths g lengths
none_lengths g lengths none = record {
  width = inl none;
  small = λ k d l. absurd (omega (arith, l, ap (λ (xs : List ℕ). length xs) none));
  symmetric = λ u v near.
      ap (λ (xs : List ℕ). edge_length g xs u v) none ∙ nothing (arc_at g u v) (arc_at g v u) ∙ ap (λ (xs : List ℕ). edge_length g xs v u) (sym none);
}
  where
    nothing : (j k : ℕ) → get_or {A = ℕ} [] j 0 ≡ get_or {A = ℕ} [] k 0
    nothing j k = get_or_past [] j 0 (omega arith) ∙ sym (get_or_past [] k 0 (omega arith))
