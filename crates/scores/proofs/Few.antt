-- The median and the mean of one or two numbers are equal.
use Rattle.std.proofs.Common.{◌≡◌, ◌∙◌, ℕ, zero, suc, ◌+◌, ◌*◌, ◌≤◌, List, [], ◌∷◌, length, sum, pos, ◌-ℤ◌, refl, arith, inl, inr}
use Rattle.std.specs.List.Sorted.{IsNonDecreasing}
use Rattle.std.proofs.lemmas.Bool.{cases_lt}
use Rattle.std.proofs.lemmas.Int.{ints}
use Rattle.std.proofs.lemmas.List.Sorted.{IsPermutation-refl, IsPermutation-swap, IsNonDecreasingBy-short}
use Rattle.std.specs.Prelude.{slice_index}
use Rattle.audit_model.specs.declared.outcome.SumsView.{SumsView}
use Rattle.audit_model.specs.Score.{share, shares, ranked, mean_median}
use Rattle.audit_model.proofs.Below.{length-map_below}
use Rattle.scores.specs.Votes.{AreVotes}
use Rattle.scores.proofs.Ranked.{middle_pair}
use Rattle.scores.proofs.Shares.{mean_median_from}

-- two rising numbers are sorted
rising_pair : (a b : ℕ) → a ≤ b → IsNonDecreasing (a ∷ b ∷ [])
rising_pair a b l zero zero d from within = omega arith
rising_pair a b l zero (suc zero) d from within = l
rising_pair a b l zero (suc (suc k)) d from within = absurd (omega arith)
rising_pair a b l (suc i) zero d from within = absurd (omega arith)
rising_pair a b l (suc zero) (suc zero) d from within = omega arith
rising_pair a b l (suc (suc i)) (suc zero) d from within = absurd (omega arith)
rising_pair a b l (suc i) (suc (suc k)) d from within = absurd (omega arith)

-- a single number is its own middle
middle_of_one : (a : ℕ) → a + a ≡ ranked (a ∷ []) 0 + ranked (a ∷ []) 0
middle_of_one a = middle_pair (a ∷ []) (a ∷ []) (IsPermutation-refl (a ∷ [])) (IsNonDecreasingBy-short (λ x. x) (a ∷ []) (omega arith)) (omega arith) refl

-- both of two numbers are the middle
middle_of_two : (a b : ℕ) → a + b ≡ ranked (a ∷ b ∷ []) 0 + ranked (a ∷ b ∷ []) 1
middle_of_two a b = elim (cases_lt b a) [
  | inl less ↦
      let other : b + a ≡ ranked (a ∷ b ∷ []) 0 + ranked (a ∷ b ∷ []) 1 =
      middle_pair (a ∷ b ∷ []) (b ∷ a ∷ []) (IsPermutation-swap (a ∷ b ∷ []) (b ∷ a ∷ []) 0 1 (omega arith) (omega arith) refl) (rising_pair b a (omega arith)) (omega arith) refl in
      omega (arith, other)
  | inr upto ↦ middle_pair (a ∷ b ∷ []) (a ∷ b ∷ []) (IsPermutation-refl (a ∷ b ∷ [])) (rising_pair a b upto) (omega arith) refl
]

-- equal numbers have difference zero
nothing_left : (a b : ℕ) → a ≡ b → pos 0 ≡ pos a -ℤ pos b
nothing_left a b same = omega (arith, ints, same)

-- the median of one or two numbers is their mean
few_are_even : (xs : List ℕ) → 1 ≤ length xs → length xs ≤ 2 → pos 0 ≡ mean_median xs
few_are_even [] some few = absurd (omega arith)
few_are_even (a ∷ []) some few =
    nothing_left (length (a ∷ []) * (a + a)) (2 * sum (a ∷ [])) (omega arith) ∙ mean_median_from (a ∷ []) (a + a) (sum (a ∷ [])) (middle_of_one a) refl
few_are_even (a ∷ b ∷ []) some few =
    nothing_left (length (a ∷ b ∷ []) * (a + b)) (2 * sum (a ∷ b ∷ [])) (omega arith) ∙ mean_median_from (a ∷ b ∷ []) (a + b) (sum (a ∷ b ∷ [])) (middle_of_two a b) refl
few_are_even (a ∷ b ∷ c ∷ xs) some few = absurd (omega arith)

-- the median share of one or two districts is the mean share
pub even_shares : (sums : SumsView) → AreVotes sums.first sums.second → length sums.first ≤ 2 → pos 0 ≡ mean_median (shares sums)
even_shares sums votes few =
    let as_many : length (shares sums) ≡ length sums.first = length-map_below (length sums.first) (λ d. share (slice_index sums.first d) (slice_index sums.second d)) in
    few_are_even (shares sums) (omega (arith, as_many, votes.some)) (omega (arith, as_many, few))
