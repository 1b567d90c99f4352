-- Two lists of posts with equal sums are permutations of each other.
use Rattle.std.proofs.Common.{◌≡◌, ℕ, ◌<◌, ◌==◌, ◌&&◌, not, Bool, true, false, cond, List, [], ◌∷◌, ◌++◌, refl, sym, ap, subst, ⊎_elim, arith}
use Rattle.std.specs.List.{sum_by}
use Rattle.std.specs.List.Sorted.{IsPermutation}
use Rattle.std.proofs.lemmas.Bool.{and_parts, and_from, cases_Bool, eq-eqb, eqb-true}
use Rattle.std.proofs.lemmas.List.Sums.{sum_by-cons, sum_by-append}
use Rattle.std.proofs.lemmas.List.Sorted.{IsPermutation-refl, IsPermutation-cons, IsPermutation-sym, IsPermutation-trans, IsPermutation-middle}
use Rattle.tally_desk.specs.declared.entry.Entry.{Entry}

-- true if two marks are equal
same_flag : Bool → Bool → Bool
same_flag true b = b
same_flag false b = not b

-- a mark equals itself
same_flag_self : (b : Bool) → same_flag b b ≡ true
unfolding same_flag
same_flag_self true = refl
same_flag_self false = refl

-- marks that test as equal are equal
same_flag_equal : (a b : Bool) → same_flag a b ≡ true → a ≡ b
unfolding same_flag
same_flag_equal true true e = refl
same_flag_equal true false e = cc
same_flag_equal false true e = cc
same_flag_equal false false e = refl

-- true if two posts are equal
same : Entry → Entry → Bool
same x y = (x.ticket == y.ticket) && ((x.id == y.id) && same_flag x.saved y.saved)

-- a post equals itself
same_self : (x : Entry) → same x x ≡ true
unfolding same
same_self x = and_from _ _ (eq-eqb x.ticket x.ticket refl) (and_from _ _ (eq-eqb x.id x.id refl) (same_flag_self x.saved))

-- posts that test as equal are equal
posts_equal : (x y : Entry) → same x y ≡ true → x ≡ y
unfolding same
posts_equal x y e =
    let first = and_parts (x.ticket == y.ticket) ((x.id == y.id) && same_flag x.saved y.saved) e in
    let second = and_parts (x.id == y.id) (same_flag x.saved y.saved) first.1 in
    let tickets = eqb-true x.ticket y.ticket first.0 in
    let ids = eqb-true x.id y.id second.0 in
    let flags = same_flag_equal x.saved y.saved second.1 in
    λ k. record { ticket = tickets k; id = ids k; saved = flags k }

abbrev one : Entry → Entry → ℕ
one x y = cond (same x y) 1 0

-- a post counts once for itself
one_self : (x : Entry) → one x x ≡ 1
one_self x = ap (λ (b : Bool). cond b 1 0) (same_self x)

-- a member of the list, with the posts before and after it
cut_at : (x : Entry) (ys : List Entry) → 0 < sum_by (one x) ys → (a : List Entry) × (b : List Entry) × (ys ≡ a ++ x ∷ b)
cut_at x [] some_left = absurd (omega arith)
cut_at x (y ∷ ys) some_left = ⊎_elim
    (λ here. ([], ys, λ k. sym (posts_equal x y here) k ∷ ys))
    (λ apart. let none : one x y ≡ 0 = ap (λ (b : Bool). cond b 1 0) apart in let r = cut_at x ys (omega (arith, some_left, none, sum_by-cons (one x) y ys)) in (y ∷ r.0, r.1, λ k. y ∷ r.2 k))
    (cases_Bool (same x y))

-- lists over which each count has equal sums are permutations
pub permutation_from_sums : (xs ys : List Entry) → ((h : Entry → ℕ) → sum_by h xs ≡ sum_by h ys) → IsPermutation xs ys
permutation_from_sums [] [] sums = IsPermutation-refl []
permutation_from_sums [] (y ∷ ys) sums = absurd (omega (arith, sums (one y), sum_by-cons (one y) y ys, one_self y))
permutation_from_sums (x ∷ xs) ys sums =
    let r = cut_at x ys (omega (arith, sums (one x), sum_by-cons (one x) x xs, one_self x)) in
    let rest : (h : Entry → ℕ) → sum_by h xs ≡ sum_by h (r.0 ++ r.1) =
    λ h. omega (arith, sums h, ap (sum_by h) r.2, sum_by-cons h x xs, sum_by-append h r.0 (x ∷ r.1), sum_by-cons h x r.1, sum_by-append h r.0 r.1) in
    subst (IsPermutation (x ∷ xs)) (sym r.2) (IsPermutation-trans _ _ _ (IsPermutation-cons x _ _ (permutation_from_sums xs (r.0 ++ r.1) rest)) (IsPermutation-sym _ _ (IsPermutation-middle r.0 x r.1)))
