-- Sums over a list when one item changes, and lists with equal counts.
use Rattle.std.proofs.Common.{◌≡◌, ℕ, zero, suc, ◌+◌, ◌<◌, ◌≤◌, ◌==◌, min, Bool, cond, List, [], ◌∷◌, ◌++◌, set, sym, refl, ap, ◌∙◌, subst, ⊎_elim, length, length-append, arith, All, map}
use mathlib.Core.Logic.{dite}
use native.Mathlib.Decide.{ℕ_discrete}
use mathlib.Core.Option.{some, some-injective, some-ne-none}
use lib.ListN.{get_elem?}
use Rattle.std.specs.List.{sum_by, flat_map, range_with_len}
use Rattle.std.proofs.lemmas.List.Concat.{flat_map-cons}
use Rattle.std.specs.List.Sorted.{IsPermutation}
use Rattle.std.proofs.lemmas.List.Sums.{sum_by-cons, sum_by-append, sum_by_push}
use Rattle.std.proofs.lemmas.List.Sorted.{sum_by-IsPermutation, IsPermutation-refl, IsPermutation-cons, IsPermutation-sym, IsPermutation-trans, IsPermutation-middle}
use Rattle.std.proofs.lemmas.Bool.{eq-eqb, ne_eqb, lt-ltb, le-ltb}
use Rattle.std.proofs.lemmas.Bool.Decides.{eqb_tells}
use Rattle.audit_model.specs.Times.{times, once_below}

module _ {A : Type 0} where
  pub sum_set : (f : A → ℕ) (xs : List A) (i : ℕ) (v w : A) → get_elem? xs i ≡ some v → sum_by f (set xs i w) + f v ≡ sum_by f xs + f w
  sum_set f [] i v w e = absurd (some-ne-none v (sym e))
  sum_set f (x ∷ xs) zero v w e = let is : f x ≡ f v = ap f (some-injective x v e) in omega (arith, sum_by-cons f w xs, sum_by-cons f x xs)
  sum_set f (x ∷ xs) (suc i) v w e = let r = sum_set f xs i v w e in omega (arith, sum_by-cons f x (set xs i w), sum_by-cons f x xs)

  pub sum_at : (f : A → ℕ) (xs : List A) (i : ℕ) (v : A) → get_elem? xs i ≡ some v → f v ≤ sum_by f xs
  sum_at f [] i v e = absurd (some-ne-none v (sym e))
  sum_at f (x ∷ xs) zero v e = let is : f x ≡ f v = ap f (some-injective x v e) in omega (arith, sum_by-cons f x xs)
  sum_at f (x ∷ xs) (suc i) v e = let r = sum_at f xs i v e in omega (arith, sum_by-cons f x xs)

  pub sum_le : (f g : A → ℕ) (xs : List A) → ((i : ℕ) (v : A) → get_elem? xs i ≡ some v → f v ≤ g v) → sum_by f xs ≤ sum_by g xs
  sum_le f g [] below = omega arith
  sum_le f g (x ∷ xs) below = let r = sum_le f g xs (λ i. below (suc i)) in let here = below zero x refl in omega (arith, sum_by-cons f x xs, sum_by-cons g x xs)

  pub sum_none : (f g : A → ℕ) (xs : List A) → ((i : ℕ) (v : A) → get_elem? xs i ≡ some v → g v ≡ 0 → f v ≡ 0) → sum_by g xs ≡ 0 → sum_by f xs ≡ 0
  sum_none f g [] zeros none = refl
  sum_none f g (x ∷ xs) zeros none = let cut = sum_by-cons g x xs in let r = sum_none f g xs (λ i. zeros (suc i)) (omega arith) in let here = zeros zero x refl (omega arith) in omega (arith, sum_by-cons f x xs)

  -- if v has all of g, and f is 0 wherever g is, v has all of f
  pub sum_sole : (f g : A → ℕ) (xs : List A) (i : ℕ) (v : A) → ((i : ℕ) (v : A) → get_elem? xs i ≡ some v → g v ≡ 0 → f v ≡ 0) → get_elem? xs i ≡ some v → g v ≡ sum_by g xs
      → sum_by f xs ≡ f v
  sum_sole f g [] i v zeros e all = absurd (some-ne-none v (sym e))
  sum_sole f g (x ∷ xs) zero v zeros e all = let is : x ≡ v = some-injective x v e in let isf = ap f is in let isg = ap g is in let cut = sum_by-cons g x xs in
      let r = sum_none f g xs (λ i. zeros (suc i)) (omega arith) in omega (arith, sum_by-cons f x xs)
  sum_sole f g (x ∷ xs) (suc i) v zeros e all = let cut = sum_by-cons g x xs in let least = sum_at g xs i v e in let here = zeros zero x refl (omega arith) in
      let r = sum_sole f g xs i v (λ i. zeros (suc i)) e (omega arith) in omega (arith, sum_by-cons f x xs)

abbrev pub one : ℕ → ℕ → ℕ
one x y = cond (y == x) 1 0

-- occurrences in a list, by its first item and the rest
pub times-cons : (x y : ℕ) (ys : List ℕ) → times x (y ∷ ys) ≡ one x y + times x ys
times-cons x y ys = sum_by-cons (one x) y ys

-- occurrences in two appended lists add up
pub times-append : (x : ℕ) (ys zs : List ℕ) → times x (ys ++ zs) ≡ times x ys + times x zs
times-append x ys zs = sum_by-append (one x) ys zs

-- an appended number adds its own occurrence
pub times_push : (x : ℕ) (ys : List ℕ) (y : ℕ) → times x (ys ++ y ∷ []) ≡ times x ys + one x y
times_push x ys y = sum_by_push (one x) ys y

-- a number occurs once in itself
pub one_same : (x : ℕ) → one x x ≡ 1
one_same x = ap (λ (b : Bool). cond b 1 0) (eq-eqb x x refl)

-- one more number is below the bound
pub once_below_more : (x w l : ℕ) → w < l → once_below x (min w l) + one x w ≡ once_below x (min (w + 1) l)
once_below_more x w l below = grind arith

-- a number past the bound is not below it
pub once_below_past : (x n : ℕ) → n ≤ x → once_below x n ≡ 0
once_below_past x n past = ap (λ (b : Bool). cond b 1 0) (le-ltb x n past)

-- a member splits the list into the items before and after it
pub cut_at : (x : ℕ) (ys : List ℕ) → 0 < times x ys → (a : List ℕ) × (b : List ℕ) × (ys ≡ a ++ x ∷ b)
cut_at x [] some_left = absurd (omega arith)
cut_at x (y ∷ ys) some_left = ⊎_elim (λ t. ([], ys, λ k. t.1 k ∷ ys))
    (λ t. let none : one x y ≡ 0 = ap (λ (b : Bool). cond b 1 0) t.0 in let r = cut_at x ys (omega (arith, times-cons x y ys)) in (y ∷ r.0, r.1, λ k. y ∷ r.2 k)) (eqb_tells y x)

-- lists with equal occurrences are permutations
pub permutation_from_times : (xs ys : List ℕ) → ((x : ℕ) → times x xs ≡ times x ys) → IsPermutation xs ys
permutation_from_times [] [] same = IsPermutation-refl []
permutation_from_times [] (y ∷ ys) same = absurd (omega (arith, same y, times-cons y y ys, one_same y))
permutation_from_times (x ∷ xs) ys same =
    let r = cut_at x ys (omega (arith, same x, times-cons x x xs, one_same x)) in
    let rest : (z : ℕ) → times z xs ≡ times z (r.0 ++ r.1) = λ z. omega (arith, same z, ap (times z) r.2, times-cons z x xs, times-append z r.0 (x ∷ r.1), times-cons z x r.1, times-append z r.0 r.1) in
    subst (IsPermutation (x ∷ xs)) (sym r.2) (IsPermutation-trans _ _ _ (IsPermutation-cons x _ _ (permutation_from_times xs (r.0 ++ r.1) rest)) (IsPermutation-sym _ _ (IsPermutation-middle r.0 x r.1)))

-- occurrences in a range, as a difference of bounds
pub times-range : (x a n : ℕ) → times x (range_with_len a n) + once_below x a ≡ once_below x (a + n)
times-range x a zero = let e : a ≡ a + zero = omega arith in omega (arith, ap (once_below x) e)
times-range x a (suc n) = let r = times-range x (a + 1) n in let more : once_below x a + one x a ≡ once_below x (a + 1) = grind arith in
    omega (arith, r, more, times-cons x a (range_with_len (a + 1) n), ap (once_below x) (let e : a + 1 + n ≡ a + suc n = omega arith in e))

-- a list with each number below n once is a permutation of the range
pub permutation_below : (n : ℕ) (xs : List ℕ) → ((x : ℕ) → times x xs ≡ once_below x n) → IsPermutation xs (range_with_len 0 n)
permutation_below n xs each = permutation_from_times xs (range_with_len 0 n) (λ x. each x ∙ let r = times-range x 0 n in let none = once_below_past x 0 (omega arith) in omega (arith, r, none, ap (once_below x) (let e : 0 + n ≡ n = omega arith in e)))

-- a permutation of the range has each number below n once
pub times_below : (n : ℕ) (xs : List ℕ) → IsPermutation xs (range_with_len 0 n) → (x : ℕ) → times x xs ≡ once_below x n
times_below n xs all x = let same : times x (range_with_len 0 n) ≡ times x xs = sum_by-IsPermutation (one x) xs (range_with_len 0 n) all in
    let r = times-range x 0 n in let none = once_below_past x 0 (omega arith) in omega (arith, same, r, none, ap (once_below x) (let e : 0 + n ≡ n = omega arith in e))

-- occurrences in a concatenation add up
pub times-flat_map : {A : Type 0} (x : ℕ) (f : A → List ℕ) (ys : List A) → times x (flat_map f ys) ≡ sum_by (λ y. times x (f y)) ys
times-flat_map x f [] = refl
times-flat_map {A = A} x f (y ∷ ys) = let rest = times-flat_map x f ys in let g : A → ℕ = λ y. times x (f y) in
    omega (arith, rest, ap (times x) (flat_map-cons f y ys), times-append x (f y) (flat_map f ys), sum_by-cons g y ys)

-- distinct numbers below n are at most n
pub length-apart : (n : ℕ) (xs : List ℕ) → ((x : ℕ) → times x xs ≤ once_below x n) → length xs ≤ n
length-apart zero [] apart = omega arith
length-apart zero (x ∷ xs) apart = absurd (omega (arith, apart x, once_below_past x 0 (omega arith), times-cons x x xs, one_same x))
length-apart (suc n) xs apart = dite (ℕ_discrete (times n xs) 0)
    (λ none. let r = length-apart n xs (λ x. let more : once_below x n + one x n ≡ once_below x (n + 1) = grind arith in let e : n + 1 ≡ suc n = omega arith in
    dite (ℕ_discrete x n) (λ is. let z : times x xs ≡ 0 = ap (λ (k : ℕ). times k xs) is ∙ none in omega arith)
    (λ not. let other : one x n ≡ 0 = ap (λ (b : Bool). cond b 1 0) (ne_eqb n x (λ h. not (sym h))) in omega (arith, apart x, more, other, ap (once_below x) e))) in omega arith)
    (λ some_left. let r = cut_at n xs (omega arith) in
    let fewer = length-apart n (r.0 ++ r.1) (λ x. let more : once_below x n + one x n ≡ once_below x (n + 1) = grind arith in let e : n + 1 ≡ suc n = omega arith in
    omega (arith, apart x, more, ap (once_below x) e, ap (times x) r.2, times-append x r.0 (n ∷ r.1), times-cons x n r.1, times-append x r.0 r.1)) in
    omega (arith, fewer, ap length r.2, length-append r.0 (n ∷ r.1), length-append r.0 r.1))

-- appending a missing number below n keeps the numbers distinct
pub apart_push : (n x : ℕ) (xs : List ℕ) → ((y : ℕ) → times y xs ≤ once_below y n) → x < n → times x xs ≡ 0 → (y : ℕ) → times y (xs ++ x ∷ []) ≤ once_below y n
apart_push n x xs apart below none y = dite (ℕ_discrete y x)
    (λ is. let z : times y xs ≡ 0 = ap (λ (k : ℕ). times k xs) is ∙ none in let o : once_below y n ≡ 1 = ap (λ (b : Bool). cond b 1 0) (lt-ltb y n (omega arith)) in
    let most : one y x ≤ 1 = grind arith in omega (arith, times_push y xs x, z, o, most))
    (λ not. let other : one y x ≡ 0 = ap (λ (b : Bool). cond b 1 0) (ne_eqb x y (λ h. not (sym h))) in omega (arith, times_push y xs x, apart y, other))

-- a list whose items occur at least as often in another is no longer
pub length-le : (xs ys : List ℕ) → ((x : ℕ) → times x xs ≤ times x ys) → length xs ≤ length ys
length-le [] ys within = omega arith
length-le (x ∷ xs) ys within = let r = cut_at x ys (omega (arith, within x, times-cons x x xs, one_same x)) in
    let rest = length-le xs (r.0 ++ r.1) (λ z. omega (arith, within z, ap (times z) r.2, times-cons z x xs, times-append z r.0 (x ∷ r.1), times-cons z x r.1, times-append z r.0 r.1)) in
    omega (arith, rest, ap length r.2, length-append r.0 (x ∷ r.1), length-append r.0 r.1)

-- one more item that the other list has too
pub one_more_id : (ids others : List ℕ) (o : ℕ) → ((i : ℕ) → times i ids ≤ times i others) → times o ids ≡ 0 → 0 < times o others → (i : ℕ) → times i (ids ++ o ∷ []) ≤ times i others
one_more_id ids others o within none some_there i = dite (ℕ_discrete i o)
    (λ is. let z : times i ids ≡ 0 = ap (λ (k : ℕ). times k ids) is ∙ none in let c : times i others ≡ times o others = ap (λ (k : ℕ). times k others) is in let most : one i o ≤ 1 = grind arith in
    omega (arith, times_push i ids o, z, c, most))
    (λ not. let other : one i o ≡ 0 = ap (λ (b : Bool). cond b 1 0) (ne_eqb o i (λ h. not (sym h))) in omega (arith, times_push i ids o, within i, other))

-- a number that counts as below the bound is below it
pub below_from_once : (x n : ℕ) → 0 < once_below x n → x < n
below_from_once x n some_below = grind arith

-- a property of the function's value for each item holds of the mapped list
pub all_mapped : {A : Type 0} (P : A → Type 0) (f : ℕ → A) (ids : List ℕ) → ((id : ℕ) → 0 < times id ids → P (f id)) → All P (map f ids)
all_mapped P f [] each k d inside = absurd (omega arith)
all_mapped P f (x ∷ ids) each zero d inside = each x (omega (arith, times-cons x x ids, one_same x))
all_mapped P f (x ∷ ids) each (suc k) d inside = all_mapped P f ids (λ id some_here. each id (omega (arith, some_here, times-cons id x ids))) k d (omega arith)
