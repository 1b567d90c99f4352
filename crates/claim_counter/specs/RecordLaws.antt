-- The effect of each kind of step on the rule over pass records, for a rule that includes it.
use Rattle.std.specs.Prelude.{◌≡◌, ℕ, ◌+◌, ◌-◌, ◌<◌, ◌≤◌, min, true, false, List, [], ◌∷◌, ◌++◌, length, slice_set}
use Rattle.std.specs.List.{flat_map}
use mathlib.Core.Option.{some}
use lib.ListN.{get_elem?}
use Rattle.claim_counter.specs.declared.record.PassRecord.{PassRecord}
use Rattle.claim_counter.specs.Records.{fresh, spent, with_claim, at_end, with_less_spare, joined_passes, AreDifferentBelow, AreAllBelow, AreCounted, IsSole}
use Rattle.audit_model.specs.Times.{times, once_below}

-- the i-th of these passes is p, and p is in use
pub record Has (limit count word : ℕ) (ps : List PassRecord) (i : ℕ) (p : PassRecord) : Type 0 where
  pub counted : AreCounted limit count word ps
  pub at : get_elem? ps i ≡ some p
  pub weighs : 0 < p.weight

-- before the first draw, the only pass has all seats
abbrev pub StartIsCounted : Type 0
StartIsCounted = (limit count : ℕ) → 0 < count → AreCounted limit count 0 (fresh (count - 1) ∷ [])

-- a draw below the limit is a claim that no pass had
abbrev pub NumberKeeps : Type 0
NumberKeeps = (limit count word : ℕ) (ps : List PassRecord) (i : ℕ) (p : PassRecord) → Has limit count word ps i p → word < limit
    → AreCounted limit count (word + 1) (slice_set ps i (with_claim word p)) × ((j : ℕ) (q : PassRecord) → get_elem? ps j ≡ some q → times word q.claims ≡ 0)

-- a draw past the limit ends the pass
abbrev pub EndKeeps : Type 0
EndKeeps = (limit count word : ℕ) (ps : List PassRecord) (i : ℕ) (p : PassRecord) → Has limit count word ps i p → p.ended ≡ false → limit ≤ word
    → AreCounted limit count (word + 1) (slice_set ps i (at_end p))

-- a split leaves a pass that can be split once less, and adds a fresh one
abbrev pub SplitKeeps : Type 0
SplitKeeps = (limit count word : ℕ) (ps : List PassRecord) (i : ℕ) (p : PassRecord) → Has limit count word ps i p → 0 < p.spare
    → AreCounted limit count word (slice_set ps i (with_less_spare p) ++ fresh 0 ∷ [])

-- a pass is joined to another
abbrev pub JoinKeeps : Type 0
JoinKeeps = (limit count word : ℕ) (ps : List PassRecord) (i : ℕ) (p : PassRecord) (j : ℕ) (q : PassRecord) → Has limit count word ps i p → ¬ (j ≡ i)
    → get_elem? ps j ≡ some q → 0 < q.weight → AreCounted limit count word (slice_set (slice_set ps i (joined_passes p q)) j spent)

-- the claims of all passes together are the numbers drawn below the limit, each once
abbrev pub ClaimsAreDrawn : Type 0
ClaimsAreDrawn = (limit count word : ℕ) (ps : List PassRecord) → AreCounted limit count word ps → AreAllBelow (min word limit) (flat_map (λ p. p.claims) ps)

-- two passes have no number in common, none twice, and none at or above the limit
abbrev pub ClaimsDiffer : Type 0
ClaimsDiffer = (limit count word : ℕ) (ps : List PassRecord) (i : ℕ) (p : PassRecord) (j : ℕ) (q : PassRecord) → AreCounted limit count word ps → ¬ (j ≡ i)
    → get_elem? ps i ≡ some p → get_elem? ps j ≡ some q → AreDifferentBelow limit (p.claims ++ q.claims)

-- if a pass has ended, no number is left
abbrev pub EndIsTrue : Type 0
EndIsTrue = (limit count word : ℕ) (ps : List PassRecord) (i : ℕ) (p : PassRecord) → Has limit count word ps i p → p.ended ≡ true → limit ≤ word

-- the claims of a pass with all seats are all drawn numbers
abbrev pub SoleHasAll : Type 0
SoleHasAll = (limit count word : ℕ) (ps : List PassRecord) (i : ℕ) (p : PassRecord) → Has limit count word ps i p → p.weight + p.spare ≡ count → IsSole limit word p

-- the draws are at most the numbers and one for each seat
abbrev pub CountIsBounded : Type 0
CountIsBounded = (limit count word : ℕ) (ps : List PassRecord) → AreCounted limit count word ps → word ≤ limit + count

-- a list has all numbers below n exactly if each occurs in it once and no other number occurs
abbrev pub AllAreOnce : Type 0
AllAreOnce = (n : ℕ) (xs : List ℕ) → (AreAllBelow n xs → (x : ℕ) → times x xs ≡ once_below x n) × (((x : ℕ) → times x xs ≡ once_below x n) → AreAllBelow n xs)

-- a list of different numbers below n has at most n entries
abbrev pub DifferentAreFew : Type 0
DifferentAreFew = (n : ℕ) (xs : List ℕ) → AreDifferentBelow n xs → length xs ≤ n
