-- Members of lists, and lists of distinct numbers.
use Rattle.std.proofs.Common.{◌≡◌, ℕ, true, false, [], ◌∷◌, inl, inr, refl, zero, suc, ◌<◌, List, length, get_or, arith, ◌+◌, not, ◌++◌, sym, ◌≤◌, ◌&&◌, ◌||◌, ap, ◌∙◌, take, subst, length-append, All, Bool, cond, find, Option, Some, ◌⊎◌, ◌-◌, drop, length-drop, slice_range, bytes_eq}
use Rattle.std.specs.Prelude.{◌==◌, max}
use Rattle.std.proofs.lemmas.Bool.{or_cases, eqb-true, false≢true, or_left, eq-eqb, or_right, or_parts, both_ways, false_from_ne_true, cases_eq, ne_eqb, not_from_true, not_from_false, and_right}
use Rattle.audit_model.specs.Graph.{has}
use Rattle.audit_model.specs.Apart.{AllApart}
use Rattle.audit_model.proofs.Connected.{has-append_parts}
use Rattle.audit_model.specs.Below.{count_below, above_all}
use Rattle.audit_model.proofs.Below.{count_below_same, count_below_without, count_below_le}
use Rattle.audit_model.proofs.Bools.{and_true}
use Rattle.std.proofs.lemmas.List.{get_or_append_left, take_all, drop-append-le, take-append-le}
use Rattle.std.proofs.Math.Seq.{get_or-append_seam}
use Rattle.std.proofs.lemmas.Slice.Eq.{bytes_eq-Decides}

-- a member of a one-item list is that item
pub has_one : (x n : ℕ) → has (x ∷ []) n ≡ true → x ≡ n
has_one x n h = elim (or_cases (x == n) false h) [ inl e ↦ eqb-true x n e | inr e ↦ absurd (false≢true e) ]

-- a one-item list has its item
pub one_has : (x : ℕ) → has (x ∷ []) x ≡ true
one_has x = or_left (x == x) false (eq-eqb x x refl)

-- a member has a position
pub has_at : (xs : List ℕ) (n : ℕ) → has xs n ≡ true → (k : ℕ) × (k < length xs) × (get_or xs k 0 ≡ n)
has_at [] n h = absurd (false≢true h)
has_at (x ∷ xs) n h = elim (or_cases (x == n) (has xs n) h) [
  | inl e ↦ (zero, omega arith, eqb-true x n e)
  | inr e ↦ let found = has_at xs n e in (suc found.0, omega (arith, found.1), found.2)
]

-- the item at each position is a member
pub at_has : (xs : List ℕ) (k : ℕ) → k < length xs → has xs (get_or xs k 0) ≡ true
at_has [] k l = absurd (omega arith)
at_has (x ∷ xs) zero l = or_left (x == x) (has xs x) (eq-eqb x x refl)
at_has (x ∷ xs) (suc k) l = or_right (x == get_or xs k 0) (has xs (get_or xs k 0)) (at_has xs k (omega arith))

-- appending a new number keeps a list distinct
pub apart_more : (xs : List ℕ) (n : ℕ) → AllApart xs → has xs n ≡ false → AllApart (xs ++ n ∷ [])
apart_more [] n a h = (refl, tt)
apart_more (x ∷ xs) n a h =
    let parts = or_parts (x == n) (has xs n) h in (
      false_from_ne_true (has (xs ++ n ∷ []) x) (λ there. elim (has-append_parts xs (n ∷ []) x there) [
        | inl e ↦ both_ways (has xs x) a.0 e
        | inr e ↦ both_ways (x == n) parts.0 (eq-eqb x n (sym (has_one n x e)))
      ]),
      apart_more xs n a.1 parts.1,
    )

-- distinct numbers below a bound are at most those counted
pub apart_counted : (n : ℕ) (xs : List ℕ) → AllApart xs → ((v : ℕ) → has xs v ≡ true → v < n) → length xs ≤ count_below n (has xs)
apart_counted n [] a below = omega arith
apart_counted n (x ∷ xs) a below =
    let rest = apart_counted n xs a.1 (λ v h. below v (or_right (x == v) (has xs v) h)) in
    let without = count_below_without n (has (x ∷ xs)) x (below x (or_left (x == x) (has xs x) (eq-eqb x x refl))) (or_left (x == x) (has xs x) (eq-eqb x x refl)) in
    let same = count_below_same n (λ k. has (x ∷ xs) k && not (k == x)) (has xs) (λ k l. alike k) in
    omega (arith, rest, without, same)
  where
    alike : (k : ℕ) → (has (x ∷ xs) k && not (k == x)) ≡ has xs k
    alike k = elim (cases_eq k x) [
      | inl e ↦
          let none : not (k == x) ≡ false = not_from_true (k == x) (eq-eqb k x e) in
          and_right (has (x ∷ xs) k) (not (k == x)) none ∙ sym (ap (has xs) e ∙ a.0)
      | inr off ↦
          ap (λ b. (b || has xs k) && not (k == x)) (ne_eqb x k (λ e. off (sym e)))
          ∙ and_true (has xs k) (not (k == x)) (not_from_false (k == x) (ne_eqb k x off))
    ]

-- distinct numbers below n are at most n
pub apart_le : (n : ℕ) (xs : List ℕ) → AllApart xs → ((v : ℕ) → has xs v ≡ true → v < n) → length xs ≤ n
apart_le n xs a below = omega (arith, apart_counted n xs a below, count_below_le n (has xs))

-- a member of a prefix is a member of the list
pub has-take : (n : ℕ) (xs : List ℕ) (x : ℕ) → has (take n xs) x ≡ true → has xs x ≡ true
has-take zero xs x h = absurd (false≢true h)
has-take (suc n) [] x h = h
has-take (suc n) (y ∷ xs) x h = elim (or_cases (y == x) (has (take n xs) x) h) [
  | inl e ↦ or_left (y == x) (has xs x) e
  | inr e ↦ or_right (y == x) (has xs x) (has-take n xs x e)
]

-- rising numbers rise from each position to each later one
pub rises : (xs : List ℕ) (i k : ℕ) → ((j : ℕ) → j + 1 < length xs → get_or xs j 0 < get_or xs (j + 1) 0) → i < k → k < length xs → get_or xs i 0 < get_or xs k 0
rises xs i zero rising l b = absurd (omega arith)
rises xs i (suc k) rising l b =
    let next : get_or xs k 0 < get_or xs (k + 1) 0 = rising k (omega arith) in
    let at : get_or xs (k + 1) 0 ≡ get_or xs (suc k) 0 = ap (λ t. get_or xs t 0) (omega arith) in
    elim (cases_eq i k) [
      | inl e ↦ let same : get_or xs i 0 ≡ get_or xs k 0 = ap (λ t. get_or xs t 0) e in omega (arith, next, at, same)
      | inr off ↦ omega (arith, rises xs i k rising (omega arith) (omega arith), next, at)
    ]

-- the bound of a list after one more number
pub above_all_more : (xs : List ℕ) (x : ℕ) → above_all (xs ++ x ∷ []) ≡ max (above_all xs) (x + 1)
above_all_more [] x = omega arith
above_all_more (y ∷ xs) x = omega (arith, above_all_more xs x)

-- a list has its first number
pub first_has : (x : ℕ) (xs : List ℕ) → has (x ∷ xs) x ≡ true
first_has x xs = or_left (x == x) (has xs x) (eq-eqb x x refl)

-- a property of all items holds of the last
pub popped_last : {A : Type 0} (P : A → Type 0) (all rest : List A) (x : A) → All P all → all ≡ rest ++ x ∷ [] → P x
popped_last P all rest x each is =
    subst P (ap (λ xs. get_or xs (length rest) x) is ∙ get_or-append_seam rest x [] x)
    (each (length rest) x (omega (arith, ap length is, length-append rest (x ∷ []))))

-- a property of all items holds of those before the last
pub popped_rest : {A : Type 0} (P : A → Type 0) (all rest : List A) (x : A) → All P all → all ≡ rest ++ x ∷ [] → All P rest
popped_rest P all rest x each is k d inside =
    subst P (ap (λ xs. get_or xs k d) is ∙ get_or_append_left rest (x ∷ []) d k inside)
    (each k d (omega (arith, ap length is, length-append rest (x ∷ []))))

-- the bound of a list is at most each upper bound
pub above_all_most : (xs : List ℕ) (n : ℕ) → ((u : ℕ) → u < length xs → get_or xs u 0 < n) → above_all xs ≤ n
above_all_most [] n each = omega arith
above_all_most (x ∷ xs) n each = omega (arith, each 0 (omega arith), above_all_most xs n (λ u l. each (suc u) (omega (arith, l))))

-- a member and a non-member differ
pub other : (xs : List ℕ) (n m : ℕ) → has xs n ≡ false → has xs m ≡ true → n ≡ m → ⊥
other xs n m missing has-m e = both_ways (has xs n) missing (subst (λ k. has xs k ≡ true) (sym e) has-m)

-- a list has its second number
pub has_2 : (a b : ℕ) (xs : List ℕ) → has (a ∷ b ∷ xs) b ≡ true
has_2 a b xs = or_right (a == b) (has (b ∷ xs) b) (first_has b xs)

-- a list has its third number
pub has_3 : (a b c : ℕ) (xs : List ℕ) → has (a ∷ b ∷ c ∷ xs) c ≡ true
has_3 a b c xs = or_right (a == c) (has (b ∷ c ∷ xs) c) (has_2 b c xs)

-- a list has its fourth number
pub has_4 : (a b c d : ℕ) (xs : List ℕ) → has (a ∷ b ∷ c ∷ d ∷ xs) d ≡ true
has_4 a b c d xs = or_right (a == d) (has (b ∷ c ∷ d ∷ xs) d) (has_3 b c d xs)

-- a search finds the first item if it passes, else it continues
found_or : {X : Type 0} (b : Bool) (y x : X) (o : Option X) → cond b (Some y) o ≡ Some x → ((b ≡ true) × (y ≡ x)) ⊎ (o ≡ Some x)
found_or true y x o h = inl (refl, cc)
found_or false y x o h = inr h

-- the item found passes the test
pub find_passes : {X : Type 0} (test : X → Bool) (xs : List X) (x : X) → find test xs ≡ Some x → test x ≡ true
find_passes test [] x h = cc
find_passes test (y ∷ ys) x h = elim (found_or (test y) y x (find test ys) h) [
  | inl here ↦ subst (λ z. test z ≡ true) here.1 here.0
  | inr later ↦ find_passes test ys x later
]

-- taking the whole length gives the list
pub take_own : {A : Type 0} (xs : List A) → take (length xs) xs ≡ xs
take_own xs = take_all (length xs) xs (omega arith)

-- a slice within the first of two appended lists
pub part-front : {X : Type 0} (xs ys : List X) (a b : ℕ) → a ≤ b → b ≤ length xs → slice_range (xs ++ ys) a b ≡ slice_range xs a b
part-front xs ys a b l m =
    ap (take (b - a)) (drop-append-le a xs ys (omega arith)) ∙ take-append-le (b - a) (drop a xs) ys (omega (arith, length-drop a xs))

-- the test of equality fails for different texts
pub bytes_other : (xs ys : List ℕ) → (xs ≡ ys → ⊥) → bytes_eq xs ys ≡ false
bytes_other xs ys differ = false_from_ne_true (bytes_eq xs ys) (λ same. differ ((bytes_eq-Decides xs ys).0 same))
