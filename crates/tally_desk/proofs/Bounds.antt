-- Bounds on the number of posts and turns.
use Rattle.std.proofs.Common.{◌≡◌, ℕ, zero, suc, ◌+◌, ◌≤◌, min, List, [], ◌∷◌, ◌++◌, map, set, take, get_or, length, sym, refl, ap, ◌∙◌, arith}
use mathlib.Core.Option.{some, some-injective, some-ne-none}
use lib.ListN.{get_elem?}
use Rattle.std.specs.List.{sum_by, flat_map, range_with_len}
use Rattle.std.proofs.lemmas.List.Sums.{sum_by-cons, sum_by_more, sum_by-take-le}
use Rattle.std.proofs.lemmas.List.Sorted.{IsPermutation-map, sum_by-IsPermutation}
use Rattle.std.specs.List.Sorted.{IsPermutation}
use mathlib.Core.List.{map-append}
use Rattle.std.proofs.lemmas.List.Concat.{length-flat_map}
use Rattle.claim_counter.specs.declared.record.PassRecord.{PassRecord}
use Rattle.claim_counter.specs.Records.{AreCounted}
use Rattle.audit_model.specs.Times.{times, once_below}
use Rattle.audit_model.proofs.Times.{sum_set, sum_le, times-append, one, length-apart, times_push, permutation_below, times-flat_map}

module _ {A : Type 0} where
  pub sum_same : (f : A → ℕ) (xs : List A) (i : ℕ) (v w : A) → get_elem? xs i ≡ some v → f v ≡ f w → sum_by f (set xs i w) ≡ sum_by f xs
  sum_same f xs i v w at same = let s = sum_set f xs i v w at in omega arith

  pub sum_lt : (f g : A → ℕ) (xs : List A) (i : ℕ) (v : A) → ((j : ℕ) (u : A) → get_elem? xs j ≡ some u → f u ≤ g u) → get_elem? xs i ≡ some v → f v + 1 ≤ g v → sum_by f xs + 1 ≤ sum_by g xs
  sum_lt f g [] i v below at less = absurd (some-ne-none v (sym at))
  sum_lt f g (x ∷ xs) zero v below at less = let is = some-injective x v at in let isf = ap f is in let isg = ap g is in let r = sum_le f g xs (λ j. below (suc j)) in omega (arith, sum_by-cons f x xs, sum_by-cons g x xs)
  sum_lt f g (x ∷ xs) (suc i) v below at less = let r = sum_lt f g xs i v (λ j. below (suc j)) at less in let here = below zero x refl in omega (arith, sum_by-cons f x xs, sum_by-cons g x xs)

  pub sum_both : (f g : A → ℕ) (xs : List A) → sum_by (λ x. f x + g x) xs ≡ sum_by f xs + sum_by g xs
  sum_both f g [] = refl
  sum_both f g (x ∷ xs) = let r = sum_both f g xs in omega (arith, sum_by-cons f x xs, sum_by-cons g x xs, sum_by-cons (λ (y : A). f y + g y) x xs)

  pub sum_ones : (xs : List A) → sum_by (λ _. 1) xs ≡ length xs
  sum_ones [] = refl
  sum_ones (x ∷ xs) = let r = sum_ones xs in omega (arith, sum_by-cons (λ (_ : A). 1) x xs)

  pub sum_mapped : {B : Type 0} (f : B → ℕ) (g : A → B) (xs : List A) → sum_by f (map g xs) ≡ sum_by (λ x. f (g x)) xs
  sum_mapped f g [] = refl
  sum_mapped f g (x ∷ xs) = let r = sum_mapped f g xs in omega (arith, sum_by-cons f (g x) (map g xs), sum_by-cons (λ (y : A). f (g y)) x xs)

abbrev claims_of : PassRecord → List ℕ
claims_of p = p.claims

-- all passes together have at most one claim for each place
pub claim_count : (limit count word : ℕ) (ps : List PassRecord) → AreCounted limit count word ps → sum_by (λ p. length p.claims) ps ≤ limit
claim_count limit count word ps c = let most = length-apart limit (flat_map claims_of ps) (λ x. let more : once_below x (min word limit) ≤ once_below x limit = grind arith in omega (arith, times-flat_map x claims_of ps, c.claims x, more)) in
    omega (arith, most, length-flat_map claims_of ps)

module _ (P : ℕ → ℕ → ℕ → Type 0) where
  pub put_first : (l : List ℕ) (n : ℕ) → length l ≡ 3 → P n (get_or l 1 0) (get_or l 2 0) → P (get_or (set l 0 n) 0 0) (get_or (set l 0 n) 1 0) (get_or (set l 0 n) 2 0)
  put_first [] n e h = absurd (omega arith)
  put_first (a ∷ l) n e h = h

  pub put_second : (l : List ℕ) (n : ℕ) → length l ≡ 3 → P (get_or l 0 0) n (get_or l 2 0) → P (get_or (set l 1 n) 0 0) (get_or (set l 1 n) 1 0) (get_or (set l 1 n) 2 0)
  put_second [] n e h = absurd (omega arith)
  put_second (a ∷ []) n e h = absurd (omega arith)
  put_second (a ∷ b ∷ l) n e h = h

  pub put_third : (l : List ℕ) (n : ℕ) → length l ≡ 3 → P (get_or l 0 0) (get_or l 1 0) n → P (get_or (set l 2 n) 0 0) (get_or (set l 2 n) 1 0) (get_or (set l 2 n) 2 0)
  put_third [] n e h = absurd (omega arith)
  put_third (a ∷ []) n e h = absurd (omega arith)
  put_third (a ∷ b ∷ []) n e h = absurd (omega arith)
  put_third (a ∷ b ∷ c ∷ l) n e h = h

-- a range extended by one number
pub range_push : (a n : ℕ) → range_with_len a (suc n) ≡ range_with_len a n ++ (a + n) ∷ []
range_push a zero = let e : a ≡ a + 0 = omega arith in ap (λ (k : ℕ). k ∷ []) e
range_push a (suc n) = let e : a + 1 + n ≡ a + suc n = omega arith in ap (λ (l : List ℕ). a ∷ l) (range_push (a + 1) n ∙ ap (λ (k : ℕ). range_with_len (a + 1) n ++ k ∷ []) e)

abbrev pub at_of : List ℕ → ℕ → ℕ
at_of todo p = get_or todo p 0

-- the ids at the first places are the first ids
pub times-first : (x : ℕ) (todo : List ℕ) (n : ℕ) → n ≤ length todo → times x (map (at_of todo) (range_with_len 0 n)) ≡ times x (take n todo)
times-first x todo zero within = refl
times-first x todo (suc n) within =
    let before = times-first x todo n (omega arith) in
    let e : n + 1 ≡ suc n = omega arith in
    let is_n : 0 + n ≡ n = omega arith in
    omega (
      arith,
      before,
      ap (λ (l : List ℕ). times x (map (at_of todo) l)) (range_push 0 n),
      ap (times x) (map-append (at_of todo) (range_with_len 0 n) ((0 + n) ∷ [])),
      times_push x (map (at_of todo) (range_with_len 0 n)) (at_of todo (0 + n)),
      ap (λ (k : ℕ). one x (at_of todo k)) is_n,
      sum_by_more (one x) todo n 0 (omega arith),
      ap (λ (k : ℕ). times x (take k todo)) e,
    )

-- the number of claims of an id is the sum over all passes
times-ids-flat : (x : ℕ) (todo : List ℕ) (ps : List PassRecord) → times x (map (at_of todo) (flat_map claims_of ps)) ≡ sum_by (λ p. times x (map (at_of todo) p.claims)) ps
times-ids-flat x todo [] = refl
times-ids-flat x todo (p ∷ ps) = let r = times-ids-flat x todo ps in
    omega (
      arith,
      r,
      ap (times x) (map-append (at_of todo) p.claims (flat_map claims_of ps)),
      times-append x (map (at_of todo) p.claims) (map (at_of todo) (flat_map claims_of ps)),
      sum_by-cons (λ (q : PassRecord). times x (map (at_of todo) q.claims)) p ps,
    )

-- an id is claimed at most as often as the list has it
pub claimed_of_todo : (todo : List ℕ) (count word : ℕ) (ps : List PassRecord) → AreCounted (length todo) count word ps → (x : ℕ) → sum_by (λ p. times x (map (at_of todo) p.claims)) ps ≤ times x todo
claimed_of_todo todo count word ps c x =
    let next = min word (length todo) in
    let flat = flat_map claims_of ps in
    let within : next ≤ length todo = omega arith in
    let p : IsPermutation flat (range_with_len 0 next) = permutation_below next flat (λ y. times-flat_map y claims_of ps ∙ c.claims y) in
    let q = sum_by-IsPermutation (one x) _ _ (IsPermutation-map (at_of todo) flat (range_with_len 0 next) p) in
    omega (arith, q, times-ids-flat x todo ps, times-first x todo next within, sum_by-take-le (one x) todo next)
