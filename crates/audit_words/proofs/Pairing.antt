-- The places of a pair's words among the arguments.
use Rattle.std.proofs.Common.{◌≡◌, ℕ, zero, suc, ◌+◌, ◌*◌, ◌<◌, ◌≤◌, List, [], ◌∷◌, length, get_or, refl, arith, Some, None}
use Rattle.audit_statement.specs.Words.{pairs}

-- the pairs are at least half of the words
pub pairs-lower : (words : List (List ℕ)) → length words ≤ 2 * length (pairs words)
pairs-lower [] = omega arith
pairs-lower (name ∷ []) = omega arith
pairs-lower (name ∷ value ∷ rest) = let h = pairs-lower rest in omega arith

-- twice the pairs are at most one more than the words
pub pairs-upper : (words : List (List ℕ)) → 2 * length (pairs words) ≤ length words + 1
pairs-upper [] = omega arith
pairs-upper (name ∷ []) = omega arith
pairs-upper (name ∷ value ∷ rest) = let h = pairs-upper rest in omega arith

-- the first word of the pair at k
pub first_at : (words : List (List ℕ)) (k i : ℕ) → i ≡ 2 * k → k < length (pairs words) → (get_or (pairs words) k ([], None)).0 ≡ get_or words i []
first_at [] k i e h = absurd (omega arith)
first_at (name ∷ []) zero zero e h = refl
first_at (name ∷ []) zero (suc i) e h = absurd (omega arith)
first_at (name ∷ []) (suc k) i e h = absurd (omega arith)
first_at (name ∷ value ∷ rest) zero zero e h = refl
first_at (name ∷ value ∷ rest) zero (suc i) e h = absurd (omega arith)
first_at (name ∷ value ∷ rest) (suc k) zero e h = absurd (omega arith)
first_at (name ∷ value ∷ rest) (suc k) (suc zero) e h = absurd (omega arith)
first_at (name ∷ value ∷ rest) (suc k) (suc (suc i)) e h = first_at rest k i (omega arith) (omega arith)

-- the second word of the pair at k
pub second_at : (words : List (List ℕ)) (k i : ℕ) → i ≡ 2 * k + 1 → i < length words → (get_or (pairs words) k ([], None)).1 ≡ Some (get_or words i [])
second_at [] k i e h = absurd (omega arith)
second_at (name ∷ []) k i e h = absurd (omega arith)
second_at (name ∷ value ∷ rest) zero zero e h = absurd (omega arith)
second_at (name ∷ value ∷ rest) zero (suc zero) e h = refl
second_at (name ∷ value ∷ rest) zero (suc (suc i)) e h = absurd (omega arith)
second_at (name ∷ value ∷ rest) (suc k) zero e h = absurd (omega arith)
second_at (name ∷ value ∷ rest) (suc k) (suc zero) e h = absurd (omega arith)
second_at (name ∷ value ∷ rest) (suc k) (suc (suc i)) e h = second_at rest k i (omega arith) (omega arith)

-- the last pair may have no second word
pub no_second_at : (words : List (List ℕ)) (k i : ℕ) → i ≡ 2 * k + 1 → length words ≤ i → (get_or (pairs words) k ([], None)).1 ≡ None
no_second_at [] k i e h = refl
no_second_at (name ∷ []) zero i e h = refl
no_second_at (name ∷ []) (suc k) i e h = refl
no_second_at (name ∷ value ∷ rest) zero i e h = absurd (omega arith)
no_second_at (name ∷ value ∷ rest) (suc k) zero e h = absurd (omega arith)
no_second_at (name ∷ value ∷ rest) (suc k) (suc zero) e h = absurd (omega arith)
no_second_at (name ∷ value ∷ rest) (suc k) (suc (suc i)) e h = no_second_at rest k i (omega arith) (omega arith)
