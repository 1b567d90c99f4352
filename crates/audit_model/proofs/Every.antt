-- Tests of all numbers of a list, or of some.
use Rattle.std.proofs.Common.{◌≡◌, ℕ, Bool, true, ◌==◌, List, [], ◌∷◌, refl, sym, subst, inl, inr}
use Rattle.std.specs.List.{list_all, list_any}
use Rattle.std.proofs.lemmas.Bool.{and_parts, and_from, or_cases, or_left, or_right, eqb-true, eq-eqb, false≢true}
use Rattle.audit_model.specs.Graph.{has}

-- if each number of the list passes, all do
pub all_from_each : (test : ℕ → Bool) (units : List ℕ) → ((u : ℕ) → has units u ≡ true → test u ≡ true) → list_all test units ≡ true
all_from_each test [] each = refl
all_from_each test (x ∷ xs) each = and_from (test x) (list_all test xs) (each x (or_left (x == x) (has xs x) (eq-eqb x x refl)))
    (all_from_each test xs (λ u h. each u (or_right (x == u) (has xs u) h)))

-- if all numbers of the list pass, each does
pub each_from_all : (test : ℕ → Bool) (units : List ℕ) (u : ℕ) → list_all test units ≡ true → has units u ≡ true → test u ≡ true
each_from_all test [] u all h = absurd (false≢true h)
each_from_all test (x ∷ xs) u all h = let parts = and_parts (test x) (list_all test xs) all in elim (or_cases (x == u) (has xs u) h) [
  | inl e ↦ subst (λ w. test w ≡ true) (eqb-true x u e) parts.0
  | inr e ↦ each_from_all test xs u parts.1 e
]

-- if some number of the list passes, one can be named
pub some_from_any : (test : ℕ → Bool) (units : List ℕ) → list_any test units ≡ true → (u : ℕ) × (has units u ≡ true) × (test u ≡ true)
some_from_any test [] h = absurd (false≢true h)
some_from_any test (x ∷ xs) h = elim (or_cases (test x) (list_any test xs) h) [
  | inl e ↦ (x, or_left (x == x) (has xs x) (eq-eqb x x refl), e)
  | inr e ↦ let found = some_from_any test xs e in (found.0, or_right (x == found.0) (has xs found.0) found.1, found.2)
]

-- a number of the list that passes is some that passes
pub any_from_has : (test : ℕ → Bool) (units : List ℕ) (u : ℕ) → has units u ≡ true → test u ≡ true → list_any test units ≡ true
any_from_has test [] u h t = absurd (false≢true h)
any_from_has test (x ∷ xs) u h t = elim (or_cases (x == u) (has xs u) h) [
  | inl e ↦ or_left (test x) (list_any test xs) (subst (λ w. test w ≡ true) (sym (eqb-true x u e)) t)
  | inr e ↦ or_right (test x) (list_any test xs) (any_from_has test xs u e t)
]
