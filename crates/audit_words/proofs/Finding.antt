-- Searches from the front that skip failing elements.
use Rattle.std.proofs.Common.{◌≡◌, ℕ, zero, suc, ◌<◌, Bool, true, false, not, List, [], ◌∷◌, length, get_or, drop, refl, sym, arith, Option, Some, None}
use Rattle.std.specs.Prelude.{find, is_none, is_some, option_map}
use Rattle.audit_model.specs.First.{first_some_below}

-- the search continues after an element that fails
pub find-skips : {X : Type 0} (p : X → Bool) (xs : List X) (i : ℕ) (d : X) → i < length xs → p (get_or xs i d) ≡ false → find p (drop i xs) ≡ find p (drop (suc i) xs)
find-skips p [] i d h e = absurd (omega arith)
find-skips p (x ∷ xs) zero d h e = rw e refl
find-skips p (x ∷ xs) (suc i) d h e = find-skips p xs i d (omega arith) e

-- one number more that gives nothing leaves nothing found
pub first_some_below-none : {A : Type 0} (k m : ℕ) (f : ℕ → Option A) → m ≡ suc k → first_some_below k f ≡ None → f k ≡ None → first_some_below m f ≡ None
first_some_below-none k m f e none here = rw (e, none, here) refl

-- a search for a failing element finds the first one
pub find-failing : {X : Type 0} (p : X → Bool) (xs : List X) (k : ℕ) (d : X) → k < length xs → ((j : ℕ) → j < k → p (get_or xs j d) ≡ true) → p (get_or xs k d) ≡ false → find (λ x. not (p x)) xs ≡ Some (get_or xs k d)
find-failing p [] k d inside below fails = absurd (omega arith)
find-failing p (x ∷ xs) zero d inside below fails = rw fails refl
find-failing p (x ∷ xs) (suc k) d inside below fails = let here : p x ≡ true = below 0 (omega arith) in rw here (find-failing p xs k d (omega arith) (λ j less. below (suc j) (omega arith)) fails)

-- if each element passes, no failing one is found
pub find-no_failing : {X : Type 0} (p : X → Bool) (xs : List X) (d : X) → ((j : ℕ) → j < length xs → p (get_or xs j d) ≡ true) → find (λ x. not (p x)) xs ≡ None
find-no_failing p [] d all = refl
find-no_failing p (x ∷ xs) d all = let here : p x ≡ true = all 0 (omega arith) in rw here (find-no_failing p xs d (λ j less. all (suc j) (omega arith)))

-- an option with a value still has one after mapping
pub is_none-mapped : {A B : Type 0} (f : A → B) (o : Option A) → is_some o ≡ true → is_none (option_map f o) ≡ false
is_none-mapped f (Some x) h = refl
is_none-mapped f None h = sym h
