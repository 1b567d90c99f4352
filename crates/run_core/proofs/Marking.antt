-- Marks on ids, and the pending ids.
use Rattle.std.proofs.Common.{◌≡◌, ℕ, zero, suc, ◌+◌, ◌-◌, ◌<◌, ◌≤◌, Bool, true, false, ◌||◌, List, [], ◌∷◌, ◌++◌, length, take, drop, All, get_or, refl, sym, ap, ◌∙◌, arith}
use Rattle.std.specs.Prelude.{◌==◌}
use Rattle.std.proofs.lemmas.Bool.{or_left, or_right, eq-eqb}
use Rattle.std.proofs.lemmas.List.{append-nil, take_all, drop_all}
use Rattle.audit_model.specs.Graph.{has}

-- a prefix splits into a shorter prefix and the items after it
pub take_split : (a b : ℕ) (xs : List ℕ) → a ≤ b → take b xs ≡ take a xs ++ take (b - a) (drop a xs)
take_split zero b xs l = ap (λ n. take n xs) same
  where
    same : b ≡ b - 0
    same = omega arith
take_split (suc a) zero xs l = absurd (omega arith)
take_split (suc a) (suc b) [] l = sym (no_more (suc b - suc a))
  where
    no_more : (n : ℕ) → take {A = ℕ} n [] ≡ []
    no_more zero = refl
    no_more (suc n) = refl
take_split (suc a) (suc b) (x ∷ xs) l =
    ap (λ ys. x ∷ ys) (take_split a b xs (omega arith)) ∙ ap (λ n. x ∷ (take a xs ++ take n (drop a xs))) same
  where
    same : b - a ≡ suc b - suc a
    same = omega arith

-- a member of a suffix is a member of the list
pub has-drop : (n : ℕ) (xs : List ℕ) (x : ℕ) → has (drop n xs) x ≡ true → has xs x ≡ true
has-drop zero xs x h = h
has-drop (suc n) [] x h = h
has-drop (suc n) (y ∷ xs) x h = or_right (y == x) (has xs x) (has-drop n xs x h)

-- a bound on each member holds of all items
pub all_from_has : (n : ℕ) (xs : List ℕ) → ((id : ℕ) → has xs id ≡ true → id < n) → All (λ id. id < n) xs
all_from_has n [] below k d l = absurd (omega arith)
all_from_has n (x ∷ xs) below zero d l = below x (or_left (x == x) (has xs x) (eq-eqb x x refl))
all_from_has n (x ∷ xs) below (suc k) d l = all_from_has n xs (λ id h. below id (or_right (x == id) (has xs id) h)) k d (omega arith)

-- overwriting all of a list gives the new list
pub written : (new old : List Bool) (n : ℕ) → length new ≡ length old → n ≡ length old → take n (new ++ drop (length new) old) ≡ new
written new old n same all =
    ap (λ k. take n (new ++ drop k old)) same ∙ ap (λ xs. take n (new ++ xs)) (drop_all (length old) old (omega arith))
    ∙ ap (take n) (append-nil new) ∙ take_all n new (omega (arith, same, all))

-- the marks are the earlier ones and those of the ids
abbrev pub AreMarked : List Bool → List Bool → List ℕ → Type 0
AreMarked before marks ids = (id : ℕ) → id < length before → get_or marks id false ≡ (get_or before id false || has ids id)
