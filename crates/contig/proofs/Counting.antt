-- Counts over the neighbors and the corners of a unit.
use Rattle.std.proofs.Common.{◌≡◌, ℕ, zero, suc, ◌+◌, ◌<◌, ◌≤◌, Bool, true, false, cond, List, [], ◌∷◌, length, get_or, map, take, refl, sym, ap, ◌∙◌, subst, inl, inr, arith}
use Rattle.std.specs.Prelude.{count_by}
use Rattle.std.proofs.lemmas.List.{take_all}
use Rattle.std.proofs.lemmas.List.Sums.{sum_by_more, sum_by-cons}
use Rattle.std.specs.List.{slice_index_or}
use Rattle.std.proofs.lemmas.Bool.{cases_eq, cases_lt, false_from_ne_true}
use Rattle.audit_model.specs.Apart.{AllApart}
use Rattle.audit_model.specs.Graph.{Graph, IsGraph, has}
use Rattle.audit_model.proofs.ListFacts.{apart_le}
use Rattle.audit_model.proofs.Rows.{IsRising, tail_rises, above, row_rises}

-- a rising list has no repetitions
rising_apart : (xs : List ℕ) → IsRising xs → AllApart xs
rising_apart [] r = tt
rising_apart (x ∷ xs) r = (
  false_from_ne_true (has xs x) (λ h. let l : x < x = above x xs r x h in omega (arith, l)),
  rising_apart xs (tail_rises x xs r),
)

-- a unit has at most as many neighbors as there are units
pub row_short : (g : Graph) (u : ℕ) → IsGraph g → length (slice_index_or g.neighbours u []) ≤ g.units
row_short g u sound = apart_le g.units (slice_index_or g.neighbours u []) (rising_apart (slice_index_or g.neighbours u []) (row_rises g u sound)) (λ v h. sound.below u v h)

-- in a rising list, an item at an earlier position is smaller
rising_less : (xs : List ℕ) → IsRising xs → (i j : ℕ) → i < j → j < length xs → get_or xs i 0 < get_or xs j 0
rising_less xs r i zero less l = absurd (omega (arith, less))
rising_less xs r i (suc j) less l = elim (cases_eq i j) [
  | inl e ↦ subst (λ t. get_or xs t 0 < get_or xs (suc j) 0) (sym e) (r.rises j l)
  | inr off ↦ let before : get_or xs i 0 < get_or xs j 0 = rising_less xs r i j (omega (arith, less, off)) (omega (arith, l)) in omega (arith, before, r.rises j l)
]

-- in a rising list, equal items have equal positions
pub rising_once : (xs : List ℕ) → IsRising xs → (i j : ℕ) → i < length xs → j < length xs → get_or xs i 0 ≡ get_or xs j 0 → i ≡ j
rising_once xs r i j li lj e = elim (cases_lt i j) [
  | inl less ↦ let l : get_or xs i 0 < get_or xs j 0 = rising_less xs r i j less lj in absurd (omega (arith, l, e))
  | inr not_less ↦ elim (cases_eq i j) [
    | inl same ↦ same
    | inr off ↦ let l : get_or xs j 0 < get_or xs i 0 = rising_less xs r j i (omega (arith, not_less, off)) li in absurd (omega (arith, l, e))
  ]
]

-- ---- counting item by item

-- the count with one more item
pub counted_more : {X : Type 0} (p : X → Bool) (xs : List X) (k : ℕ) (d : X) (count new : ℕ) (b : Bool)
    → k < length xs → b ≡ p (get_or xs k d) → count ≡ count_by p (take k xs) → new ≡ count + cond b 1 0 → new ≡ count_by p (take (k + 1) xs)
counted_more p xs k d count new b lt is was more =
    more ∙ ap (λ (t : ℕ). t + cond {A = ℕ} b 1 0) was ∙ ap (λ (t : Bool). count_by p (take k xs) + cond {A = ℕ} t 1 0) is
    ∙ sym (sum_by_more (λ y. cond (p y) 1 0) xs k d lt)

-- a count grows by at most one
pub few_more : (k count new : ℕ) (b : Bool) → count ≤ k → new ≡ count + cond b 1 0 → new ≤ k + 1
few_more k count new true few more = omega (arith, few, more)
few_more k count new false few more = omega (arith, few, more)

-- counting by a value of each item is counting the values
count_mapped : {X Y : Type 0} (q : Y → Bool) (f : X → Y) (xs : List X) → count_by (λ x. q (f x)) xs ≡ count_by q (map f xs)
count_mapped q f [] = refl
count_mapped q f (x ∷ xs) =
    sum_by-cons (λ y. cond (q (f y)) 1 0) x xs ∙ ap (λ (t : ℕ). cond {A = ℕ} (q (f x)) 1 0 + t) (count_mapped q f xs) ∙ sym (sum_by-cons (λ y. cond (q y) 1 0) (f x) (map f xs))

-- the count after the last item
pub counted_all : {X Y : Type 0} (q : Y → Bool) (f : X → Y) (xs : List X) (k count : ℕ) (ys : List Y)
    → length xs ≤ k → map f xs ≡ ys → count ≡ count_by (λ x. q (f x)) (take k xs) → count ≡ count_by q ys
counted_all q f xs k count ys all is was = was ∙ ap (count_by (λ x. q (f x))) (take_all k xs all) ∙ count_mapped q f xs ∙ ap (count_by q) is
