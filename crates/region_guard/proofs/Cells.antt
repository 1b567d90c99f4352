-- Counts and sums that differ at one number, and positions in a table.
use Rattle.std.proofs.Common.{◌≡◌, ℕ, zero, suc, ◌+◌, ◌*◌, ◌<◌, ◌≤◌, Bool, true, false, cond, not, ◌&&◌, ◌||◌, ◌==◌, List, length, get_or, refl, sym, ap, ◌∙◌, inl, inr, arith, add-one}
use Rattle.std.specs.Prelude.{nat_lt}
use Rattle.std.proofs.Math.Nat.{mul-le-mul_right, mul-suc}
use Rattle.std.proofs.lemmas.Bool.{cases_eq, cases_lt, cases_Bool, cond-true, cond-false, eq-eqb, ne_eqb, lt-ltb, ltb-true, or_right, and_right, not_from_true, not_from_false, false_from_ne_true}
use Rattle.audit_model.specs.Below.{above_all, all_below, any_below, count_below, sum_below}
use Rattle.audit_model.specs.Meets.{lies_in, split_of}
use Rattle.audit_model.proofs.Below.{count_below_same, count_below_without, any_below_none, count_below_zero}
use Rattle.audit_model.proofs.Meeting.{below_above_all}
use Rattle.region_guard.specs.Standing.{units_among}

-- ---- counts

abbrev pub one_if : Bool → ℕ
one_if b = cond {A = ℕ} b 1 0

pub one_small : (b : Bool) → one_if b ≤ 1
one_small true = omega arith
one_small false = omega arith

-- a count over one more number
pub count_more : (n : ℕ) (f : ℕ → Bool) → count_below (suc n) f ≡ count_below n f + one_if (f n)
unfolding count_below
count_more n f = refl

-- counts of tests that differ at one number differ by their values there
pub count_but_one : (n u : ℕ) (f g : ℕ → Bool) → u < n → ((v : ℕ) → v < n → (v ≡ u → ⊥) → f v ≡ g v)
    → count_below n f + one_if (g u) ≡ count_below n g + one_if (f u)
count_but_one zero u f g l same = absurd (omega arith)
count_but_one (suc n) u f g l same = elim (cases_eq u n) [
  | inl e ↦
      let before = count_below_same n f g (λ v under. same v (omega (arith, under)) (λ at. omega (arith, at, under, e))) in
      let of_f = ap (λ k. one_if (f k)) e in
      let of_g = ap (λ k. one_if (g k)) e in
      omega (arith, before, of_f, of_g, count_more n f, count_more n g)
  | inr off ↦
      let before = count_but_one n u f g (omega arith) (λ v under. same v (omega (arith, under))) in
      let last = ap one_if (same n (omega arith) (λ at. off (sym at))) in
      omega (arith, before, last, count_more n f, count_more n g)
]

-- counts of tests that differ at two numbers
pub count_but_two : (n x y : ℕ) (f g : ℕ → Bool) → x < n → y < n → (x ≡ y → ⊥)
    → ((v : ℕ) → v < n → (v ≡ x → ⊥) → (v ≡ y → ⊥) → f v ≡ g v)
    → count_below n f + one_if (g x) + one_if (g y) ≡ count_below n g + one_if (f x) + one_if (f y)
count_but_two n x y f g lx ly apart same =
    let h : ℕ → Bool = λ v. cond (v == x) (f v) (g v) in
    let h_at : h x ≡ f x = cond-true (x == x) (f x) (g x) (eq-eqb x x refl) in
    let h_off : (v : ℕ) → (v ≡ x → ⊥) → h v ≡ g v = λ v off. cond-false (v == x) (f v) (g v) (ne_eqb v x off) in
    let first = count_but_one n x h g lx (λ v l off. h_off v off) in
    let second = count_but_one n y f h ly (λ v l off. elim (cases_eq v x) [
      | inl e ↦ sym (cond-true (v == x) (f v) (g v) (eq-eqb v x e))
      | inr other ↦ same v l other off ∙ sym (h_off v other)
    ]) in
    omega (arith, first, second, ap one_if h_at, ap one_if (h_off y (λ e. apart (sym e))))

-- numbers that fail add nothing to a count
pub count_longer : (n m : ℕ) (f : ℕ → Bool) → m ≤ n → ((k : ℕ) → m ≤ k → f k ≡ false) → count_below m f ≡ count_below n f
count_longer zero m f l none = let e : m ≡ zero = omega (arith, l) in ap (λ k. count_below k f) e
count_longer (suc n) m f l none = elim (cases_eq m (suc n)) [
  | inl e ↦ ap (λ k. count_below k f) e
  | inr off ↦
      let before = count_longer n m f (omega arith) none in
      let last = cond-false {A = ℕ} (f n) 1 0 (none n (omega arith)) in
      omega (arith, before, last, count_more n f)
]

-- a number that passes makes the count positive
pub some_counted : (n x : ℕ) (f : ℕ → Bool) → x < n → f x ≡ true → 1 ≤ count_below n f
some_counted n x f l h = omega (arith, count_below_without n f x l h)

-- some number passes exactly if the count is positive
pub any_is_some : (n : ℕ) (f : ℕ → Bool) → any_below n f ≡ nat_lt 0 (count_below n f)
any_is_some zero f = sym (false_from_ne_true (nat_lt 0 (count_below 0 f)) (λ h. let l = ltb-true 0 (count_below 0 f) h in omega (arith, l, count_below_zero f)))
any_is_some (suc n) f = elim (cases_Bool (f n)) [
  | inl hit ↦
      let one = cond-true {A = ℕ} (f n) 1 0 hit in
      or_right (any_below n f) (f n) hit ∙ sym (lt-ltb 0 (count_below (suc n) f) (omega (arith, one, count_more n f)))
  | inr fails ↦
      let zero_more = cond-false {A = ℕ} (f n) 1 0 fails in
      let same : count_below n f ≡ count_below (suc n) f = omega (arith, zero_more, count_more n f) in
      or_none (any_below n f) (f n) fails ∙ any_is_some n f ∙ ap (nat_lt 0) same
]
  where
    or_none : (a b : Bool) → b ≡ false → (a || b) ≡ a
    or_none true b h = refl
    or_none false b h = h

-- all numbers pass exactly if none fails
pub all_is_none : (n : ℕ) (f : ℕ → Bool) → (count_below n (λ k. not (f k)) == 0) ≡ all_below n f
all_is_none zero f = eq-eqb (count_below 0 (λ k. not (f k))) 0 (count_below_zero (λ k. not (f k)))
all_is_none (suc n) f = elim (cases_Bool (f n)) [
  | inl hit ↦
      let none : one_if (not (f n)) ≡ 0 = cond-false {A = ℕ} (not (f n)) 1 0 (not_from_true (f n) hit) in
      let same : count_below (suc n) (λ k. not (f k)) ≡ count_below n (λ k. not (f k)) = omega (arith, none, count_more n (λ k. not (f k))) in
      ap (λ m. m == 0) same ∙ all_is_none n f ∙ and_true (all_below n f) (f n) hit
  | inr fails ↦
      let one : one_if (not (f n)) ≡ 1 = cond-true {A = ℕ} (not (f n)) 1 0 (not_from_false (f n) fails) in
      ne_eqb (count_below (suc n) (λ k. not (f k))) 0 (λ e. omega (arith, e, one, count_more n (λ k. not (f k))))
      ∙ sym (and_right (all_below n f) (f n) fails)
]
  where
    and_true : (a b : Bool) → b ≡ true → a ≡ (a && b)
    and_true true b h = sym h
    and_true false b h = refl

-- ---- sums

-- sums of functions that agree are equal
pub sum_same : (n : ℕ) (f g : ℕ → ℕ) → ((k : ℕ) → k < n → f k ≡ g k) → sum_below n f ≡ sum_below n g
sum_same zero f g same = refl
sum_same (suc n) f g same =
    let before = sum_same n f g (λ k l. same k (omega (arith, l))) in let last = same n (omega arith) in omega (arith, before, last)

-- sums of functions that differ at one number differ by their values there
pub sum_but_one : (n u : ℕ) (f g : ℕ → ℕ) → u < n → ((v : ℕ) → v < n → (v ≡ u → ⊥) → f v ≡ g v)
    → sum_below n f + g u ≡ sum_below n g + f u
sum_but_one zero u f g l same = absurd (omega arith)
sum_but_one (suc n) u f g l same = elim (cases_eq u n) [
  | inl e ↦
      let before = sum_same n f g (λ v under. same v (omega (arith, under)) (λ at. omega (arith, at, under, e))) in
      let of_f = ap f e in
      let of_g = ap g e in
      omega (arith, before, of_f, of_g)
  | inr off ↦
      let before = sum_but_one n u f g (omega arith) (λ v under. same v (omega (arith, under))) in
      let last = same n (omega arith) (λ at. off (sym at)) in
      omega (arith, before, last)
]

-- a bound on each term bounds the sum
pub sum_small : (n most : ℕ) (f : ℕ → ℕ) → ((k : ℕ) → k < n → f k ≤ most) → sum_below n f ≤ most * n
sum_small zero most f small = omega arith
sum_small (suc n) most f small =
    let before = sum_small n most f (λ k l. small k (omega (arith, l))) in
    let last = small n (omega arith) in
    omega (arith, before, last, mul-suc most n)

-- a sum of zeros is zero
pub sum_none : (n : ℕ) (f : ℕ → ℕ) → ((k : ℕ) → k < n → f k ≡ 0) → sum_below n f ≡ 0
sum_none zero f none = refl
sum_none (suc n) f none =
    let before = sum_none n f (λ k l. none k (omega (arith, l))) in let last = none n (omega arith) in omega (arith, before, last)

-- zero terms add nothing to a sum
pub sum_longer : (n m : ℕ) (f : ℕ → ℕ) → m ≤ n → ((k : ℕ) → m ≤ k → f k ≡ 0) → sum_below m f ≡ sum_below n f
sum_longer zero m f l none = let e : m ≡ zero = omega (arith, l) in ap (λ (k : ℕ). sum_below k f) e
sum_longer (suc n) m f l none = elim (cases_eq m (suc n)) [
  | inl e ↦ ap (λ (k : ℕ). sum_below k f) e
  | inr off ↦
      let before = sum_longer n m f (omega arith) none in
      let last = none n (omega arith) in
      omega (arith, before, last)
]

-- a sum over one more number
pub sum_more : (n : ℕ) (f : ℕ → ℕ) → sum_below (n + 1) f ≡ sum_below n f + f n
sum_more n f = ap (λ (k : ℕ). sum_below k f) (add-one n)

-- ---- positions in the table

-- rows do not overlap
same_cell : (districts q d r e : ℕ) → d < districts → e < districts → q < r → q * districts + d ≡ r * districts + e → ⊥
same_cell districts q d r e ld le l h =
    let row : suc q * districts ≤ r * districts = mul-le-mul_right districts (omega (arith, l)) in
    let one : suc q * districts ≡ q * districts + districts = omega arith in
    omega (arith, row, one, ld, h)

-- a position determines its row
pub row_of_cell : (districts q d r e : ℕ) → d < districts → e < districts → q * districts + d ≡ r * districts + e → q ≡ r
row_of_cell districts q d r e ld le h = elim (cases_lt q r) [
  | inl l ↦ absurd (same_cell districts q d r e ld le l h)
  | inr past ↦ elim (cases_lt r q) [
    | inl l ↦ absurd (same_cell districts r e q d le ld l (sym h))
    | inr back ↦ omega (arith, past, back)
  ]
]

-- a position determines its district
pub place_of_cell : (districts q d r e : ℕ) → d < districts → e < districts → q * districts + d ≡ r * districts + e → d ≡ e
place_of_cell districts q d r e ld le h =
    let row = ap (λ k. k * districts) (row_of_cell districts q d r e ld le h) in omega (arith, row, h)

-- ---- the districts of a region

-- a region lies in a district exactly if its count of units there is positive
pub lies_is_counted : (regions plan : List ℕ) (q d : ℕ) → lies_in regions plan q d ≡ nat_lt 0 (units_among (length regions) regions plan q d)
lies_is_counted regions plan q d = any_is_some (length regions) (λ u. (get_or regions u 0 == q) && (get_or plan u 0 == d))

-- the number of a region's districts is the number of positive entries of its row
pub split_is_counted : (regions plan : List ℕ) (districts q : ℕ) → length plan ≡ length regions → above_all plan ≤ districts
    → split_of regions plan q ≡ count_below districts (λ d. nat_lt 0 (units_among (length regions) regions plan q d))
split_is_counted regions plan districts q long l =
    count_longer districts (above_all plan) (lies_in regions plan q) l (λ d past. any_below_none (length regions)
    (λ u. (get_or regions u 0 == q) && (get_or plan u 0 == d)) (λ u under. and_right (get_or regions u 0 == q) (get_or plan u 0 == d)
    (ne_eqb (get_or plan u 0) d (λ e. omega (arith, e, past, below_above_all plan u (omega (arith, under, long)))))))
    ∙ count_below_same districts (lies_in regions plan q) (λ d. nat_lt 0 (units_among (length regions) regions plan q d)) (λ d under. lies_is_counted regions plan q d)
