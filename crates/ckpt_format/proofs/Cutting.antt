-- Slices of a list, and lists joined from slices.
use Rattle.std.proofs.Common.{◌≡◌, ℕ, zero, suc, ◌+◌, ◌-◌, ◌<◌, ◌≤◌, List, [], ◌∷◌, ◌++◌, length, get_or, take, drop, sym, ap, subst, ◌∙◌, arith, length-append, length-drop, inl, inr}
use Rattle.std.specs.Prelude.{slice_range}
use Rattle.std.proofs.lemmas.Bool.{cases_lt}
use Rattle.std.proofs.lemmas.List.{get_or-take, get_or-drop, get_or_past, length-take, length-take-le, drop_at, take_all}
use Rattle.std.proofs.lemmas.List.Folds.{drop_split}
use Rattle.audit_model.proofs.ListFacts.{part-front}

-- ---- slices

-- the length of a slice
pub length-part : {X : Type 0} (xs : List X) (a b : ℕ) → a ≤ b → b ≤ length xs → length (slice_range xs a b) ≡ b - a
length-part xs a b l m = length-take-le (b - a) (drop a xs) (omega (arith, length-drop a xs))

-- the last slice of a list
pub part-back : {X : Type 0} (xs ys : List X) (a b : ℕ) → length xs ≡ a → a + length ys ≡ b → slice_range (xs ++ ys) a b ≡ ys
part-back xs ys a b l m = ap (take (b - a)) (drop_at xs ys a l) ∙ take_all (b - a) ys (omega arith)

-- a slice between two others
pub part-mid : {X : Type 0} (p x q : List X) (a b : ℕ) → length p ≡ a → a + length x ≡ b → slice_range (p ++ x ++ q) a b ≡ x
part-mid p x q a b l m =
    part-front (p ++ x) q a b (omega arith) (omega (arith, length-append p x)) ∙ part-back p x a b l m

-- two slices in a row join
pub join-parts : {X : Type 0} (xs : List X) (a b c : ℕ) → a ≤ b → b ≤ c → c ≤ length xs → slice_range xs a b ++ slice_range xs b c ≡ slice_range xs a c
join-parts xs a b c l m n =
    let first : length (slice_range xs a b) ≡ b - a = length-part xs a b l (omega arith) in
    let step : take (c - a) (drop a xs) ≡ slice_range xs a b ++ take (c - b) (drop b xs) =
    ap (take (c - a)) (drop_split xs a b l) ∙ take_both (slice_range xs a b) (drop b xs) (c - a) (c - b) (omega arith) in
    sym step
  where
    take_both : {X : Type 0} (ys zs : List X) (n k : ℕ) → n ≡ length ys + k → take n (ys ++ zs) ≡ ys ++ take k zs
    take_both [] zs n k e = ap (λ m. take m zs) (omega arith)
    take_both (y ∷ ys) zs zero k e = absurd (omega arith)
    take_both (y ∷ ys) zs (suc n) k e = ap (λ ws. y ∷ ws) (take_both ys zs n k (omega arith))

-- ---- bytes

-- each number is below 256, and past the end the list reads as 0
abbrev pub AreBytes : List ℕ → Type 0
AreBytes xs = (i : ℕ) → get_or xs i 0 < 256

-- a slice of bytes consists of bytes
pub part-bytes : (xs : List ℕ) (a b : ℕ) → AreBytes xs → AreBytes (slice_range xs a b)
part-bytes xs a b each i = elim (cases_lt i (b - a)) [
  | inl l ↦ subst (λ n. n < 256) (sym (get_or-take (b - a) (drop a xs) i 0 l ∙ get_or-drop a xs i 0)) (each (a + i))
  | inr l ↦ subst (λ n. n < 256) (sym (get_or_past (slice_range xs a b) i 0 (omega (arith, length-take (b - a) (drop a xs))))) (omega arith)
]
