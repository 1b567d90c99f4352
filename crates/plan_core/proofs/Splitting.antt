-- Regions that a plan splits among too many districts, found by counting.
use Rattle.std.proofs.Common.{◌≡◌, ℕ, suc, ◌<◌, ◌≤◌, Bool, true, ◌&&◌, List, [], ◌∷◌, length, arith}
use Rattle.std.specs.Prelude.{◌==◌, slice_index}
use Rattle.std.proofs.lemmas.Bool.{and_parts, eqb-true}
use Rattle.audit_model.specs.Below.{above_all, count_below}
use Rattle.audit_model.specs.Meets.{lies_in, split_of}
use Rattle.audit_model.proofs.Below.{count_below_into, any_below_some}
use Rattle.audit_model.proofs.Meeting.{below_above_all}

-- ---- one more than the greatest number

-- one more than the greatest number is at most each upper bound
pub above_all_most : (xs : List ℕ) (n : ℕ) → ((u : ℕ) → u < length xs → slice_index xs u < n) → above_all xs ≤ n
above_all_most [] n each = omega arith
above_all_most (x ∷ xs) n each =
    omega (arith, each 0 (omega arith), above_all_most xs n (λ u l. each (suc u) (omega (arith, l))))

-- ---- the districts of a region

-- ---- the number of these districts

-- a district in which a region lies is that of some unit
in_range : (regions plan : List ℕ) (region d : ℕ) → length regions ≤ length plan → lies_in regions plan region d ≡ true
    → (u : ℕ) × (u < length plan) × (slice_index plan u ≡ d)
in_range regions plan region d shorter h =
    let some = any_below_some (length regions) (λ u. (slice_index regions u == region) && (slice_index plan u == d)) h in
    (some.0, omega (arith, some.1, shorter), eqb-true (slice_index plan some.0) d (and_parts (slice_index regions some.0 == region) (slice_index plan some.0 == d) some.2).1)

-- counting over all 200 possible districts finds the number of the region's districts
pub split_is : (regions plan : List ℕ) (region : ℕ) → length regions ≤ length plan → ((u : ℕ) → u < length plan → slice_index plan u < 200)
    → count_below 200 (lies_in regions plan region) ≡ split_of regions plan region
split_is regions plan region shorter below =
    let test : ℕ → Bool = lies_in regions plan region in
    let more : count_below 200 test ≤ count_below (above_all plan) test = count_below_into 200 (above_all plan) test test (λ k. k)
    (λ k l h.
    let some = in_range regions plan region k shorter h in
    let past = below_above_all plan some.0 some.1 in
    (omega (arith, past, some.2), h)) (λ j k lj lk hj hk e. e) in
    let fewer : count_below (above_all plan) test ≤ count_below 200 test = count_below_into (above_all plan) 200 test test (λ k. k)
    (λ k l h. (omega (arith, l, above_all_most plan 200 below), h)) (λ j k lj lk hj hk e. e) in
    omega (arith, more, fewer)
