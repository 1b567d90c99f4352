-- The rows of a graph, neighbor by neighbor.
use Rattle.std.proofs.Common.{◌≡◌, ℕ, zero, suc, ◌<◌, true, false, cond, ◌||◌, ◌==◌, List, [], ◌∷◌, ◌++◌, length, get_or, take, refl, ap, inl, inr, arith}
use Rattle.std.proofs.lemmas.Bool.{eq-eqb, ne_eqb, or_cases, or_left, or_right, eqb-true, false_from_ne_true}
use Rattle.audit_model.specs.Graph.{has}
use Rattle.audit_model.proofs.ListFacts.{at_has}
use Rattle.audit_model.proofs.Rows.{IsRising, tail_rises, above}

-- items before a position of a rising list are less than the item there
front_below : (xs : List ℕ) (k v : ℕ) → IsRising xs → k < length xs → has (take k xs) v ≡ true → v < get_or xs k 0
front_below [] k v r l h = absurd (omega arith)
front_below (x ∷ xs) zero v r l h = absurd (omega (arith, ap (λ b. cond {A = ℕ} b 1 0) h))
front_below (x ∷ xs) (suc k) v r l h = elim (or_cases (x == v) (has (take k xs) v) h) [
  | inl e ↦ omega (arith, eqb-true x v e, above x xs r (get_or xs k 0) (at_has xs k (omega arith)))
  | inr e ↦ front_below xs k v (tail_rises x xs r) (omega arith) e
]

-- the next item of a rising row is not among those before it
pub is_new : (xs : List ℕ) (k : ℕ) → IsRising xs → k < length xs → has (take k xs) (get_or xs k 0) ≡ false
is_new xs k r l = false_from_ne_true (has (take k xs) (get_or xs k 0)) (λ h. let under = front_below xs k (get_or xs k 0) r l h in omega (arith, under))

-- an appended item is a member
pub has_last : (xs : List ℕ) (v : ℕ) → has (xs ++ v ∷ []) v ≡ true
has_last [] v = or_left (v == v) false (eq-eqb v v refl)
has_last (x ∷ xs) v = or_right (x == v) (has (xs ++ v ∷ []) v) (has_last xs v)

-- appending an item adds no other member
pub has_others : (xs : List ℕ) (v w : ℕ) → (v ≡ w → ⊥) → has (xs ++ v ∷ []) w ≡ has xs w
has_others [] v w off = ap (λ b. b || false) (ne_eqb v w off)
has_others (x ∷ xs) v w off = ap (λ b. (x == w) || b) (has_others xs v w off)
