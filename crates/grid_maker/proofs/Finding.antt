-- Items of filtered and mapped lists.
use Rattle.std.proofs.Common.{◌≡◌, ℕ, zero, suc, ◌<◌, Bool, true, List, [], ◌∷◌, map, length, get_or, refl, arith}
use Rattle.audit_model.specs.Below.{filter_below}
use Rattle.audit_model.proofs.Connected.{has-filter_below}
use Rattle.audit_model.proofs.ListFacts.{at_has}

-- ---- items of lists

-- each kept number is below the bound and passes
pub item_passes : (n : ℕ) (test : ℕ → Bool) (place : ℕ) → place < length (filter_below n test)
    → (get_or (filter_below n test) place 0 < n) × (test (get_or (filter_below n test) place 0) ≡ true)
item_passes n test place l = has-filter_below n test (get_or (filter_below n test) place 0) (at_has (filter_below n test) place l)

-- an item of a mapped list is the image of the item at its position
pub get_or-map : {A : Type 0} (f : ℕ → A) (xs : List ℕ) (place : ℕ) (d : A) → place < length xs → get_or (map f xs) place d ≡ f (get_or xs place 0)
get_or-map f [] place d l = absurd (omega (arith, l))
get_or-map f (x ∷ xs) zero d l = refl
get_or-map f (x ∷ xs) (suc place) d l = get_or-map f xs place d (omega (arith, l))
