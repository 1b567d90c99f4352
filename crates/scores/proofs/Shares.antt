-- The first party's shares, and their median minus their mean.
use Rattle.std.proofs.Common.{◌≡◌, ℕ, zero, suc, ◌+◌, ◌-◌, ◌*◌, ◌/◌, ◌^◌, ◌<◌, ◌≤◌, List, length, sum, All, pos, ◌-ℤ◌, refl, arith, inl, inr}
use Rattle.std.specs.Prelude.{slice_index}
use Rattle.std.proofs.lemmas.Bool.{cases_eq, eq-eqb, ne_eqb}
use Rattle.std.proofs.lemmas.List.Elements.{All-push}
use Rattle.std.proofs.lemmas.Nat.{div_below}
use Rattle.audit_model.specs.declared.outcome.SumsView.{SumsView}
use Rattle.audit_model.specs.Below.{map_below}
use Rattle.audit_model.specs.Score.{share, shares, ranked, mean_median}
use Rattle.audit_model.proofs.Below.{length-map_below}
use Rattle.scores.specs.Votes.{AreVotes, AreShares}

-- the median minus the mean, from the two middle shares and the sum
pub mean_median_from : (xs : List ℕ) (twice all : ℕ) → twice ≡ ranked xs ((length xs - 1) / 2) + ranked xs (length xs / 2) → all ≡ sum xs
    → pos (length xs * twice) -ℤ pos (2 * all) ≡ mean_median xs
mean_median_from xs twice all e f = rw (e, f) refl

-- a share is at most 10 ^ 9
pub share_small : (first second : ℕ) → share first second ≤ 10 ^ 9
share_small first second = elim (cases_eq (first + second) 0) [
  | inl none ↦ rw (eq-eqb (first + second) 0 none) (omega arith)
  | inr some ↦
      let part : first * 10 ^ 9 / (first + second) < 10 ^ 9 + 1 = div_below (first * 10 ^ 9) (first + second) (10 ^ 9 + 1) (omega arith) (omega arith) in
      rw (ne_eqb (first + second) 0 some) (omega (arith, part))
]

-- a bound on all values of a function holds of their list
all_mapped : (n : ℕ) (f : ℕ → ℕ) (m : ℕ) → ((k : ℕ) → f k ≤ m) → All (λ x. x ≤ m) (map_below n f)
all_mapped zero f m each = λ k d l. absurd (omega arith)
all_mapped (suc n) f m each = All-push (λ x. x ≤ m) (map_below n f) (f n) (all_mapped n f m each) (each n)

-- all shares are at most 10 ^ 9
pub shares_small : (sums : SumsView) → All (λ n. n ≤ 10 ^ 9) (shares sums)
shares_small sums = all_mapped (length sums.first) (λ d. share (slice_index sums.first d) (slice_index sums.second d)) (10 ^ 9)
    (λ d. share_small (slice_index sums.first d) (slice_index sums.second d))

-- the shares of 1 to 200 districts are within the bounds
pub are_shares : (sums : SumsView) → AreVotes sums.first sums.second → AreShares (shares sums)
are_shares sums votes =
    let as_many : length (shares sums) ≡ length sums.first = length-map_below (length sums.first) (λ d. share (slice_index sums.first d) (slice_index sums.second d)) in
    record {
      some = omega (arith, as_many, votes.some);
      few = omega (arith, as_many, votes.few);
      small = shares_small sums;
    }
