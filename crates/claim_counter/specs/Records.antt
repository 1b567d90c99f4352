-- The rule of a counter, stated over the records of its passes.
use Rattle.std.specs.Prelude.{◌≡◌, ℕ, ◌+◌, ◌-◌, ◌<◌, ◌≤◌, ◌&&◌, min, true, false, List, [], ◌∷◌, ◌++◌, sum_by, ◌⊎◌}
use Rattle.std.specs.List.{range_with_len}
use Rattle.std.specs.List.Sorted.{IsPermutation}
use mathlib.Core.Option.{some}
use lib.ListN.{get_elem?}
use Rattle.claim_counter.specs.declared.record.PassRecord.{PassRecord}
use Rattle.audit_model.specs.Times.{times, once_below}

-- the numbers in the list differ, and are below n
abbrev pub AreDifferentBelow : ℕ → List ℕ → Type 0
AreDifferentBelow n xs = (x : ℕ) → times x xs ≤ once_below x n

-- the list has all numbers below n, each once, in some order
abbrev pub AreAllBelow : ℕ → List ℕ → Type 0
AreAllBelow n xs = IsPermutation xs (range_with_len 0 n)

-- a pass that has drawn nothing
abbrev pub fresh : ℕ → PassRecord
fresh spare = record { claims = []; past_end = 0; weight = 1; spare = spare; ended = false }

-- a pass that was joined to another
abbrev pub spent : PassRecord
spent = record { claims = []; past_end = 0; weight = 0; spare = 0; ended = false }

-- the pass after it drew n, which is below the limit
abbrev pub with_claim : ℕ → PassRecord → PassRecord
with_claim n p = record p { claims = p.claims ++ n ∷ [] }

-- the pass after a draw that found no number left
abbrev pub at_end : PassRecord → PassRecord
at_end p = record p { past_end = p.past_end + 1; ended = true }

-- the pass after another was split off
abbrev pub with_less_spare : PassRecord → PassRecord
with_less_spare p = record p { spare = p.spare - 1 }

-- two passes joined into one, which has ended if both have
abbrev pub joined_passes : PassRecord → PassRecord → PassRecord
joined_passes p q = record {
  claims = p.claims ++ q.claims;
  past_end = p.past_end + q.past_end;
  weight = p.weight + q.weight;
  spare = p.spare + q.spare;
  ended = p.ended && q.ended;
}

-- A pass in use. Each of the passes joined in it makes at most one draw that finds no number left, and has then ended.
pub record IsLive (p : PassRecord) : Type 0 where
  pub weighs : 0 < p.weight
  pub most : p.past_end ≤ p.weight
  pub before_end : p.ended ≡ false → p.past_end < p.weight
  pub after_end : p.ended ≡ true → 0 < p.past_end

-- The rule: `word` draws were made, and the list has every pass that ever existed.
pub record AreCounted (limit count word : ℕ) (passes : List PassRecord) : Type 0 where
  -- each drawn number below the limit is one claim of one pass, and there are no other claims
  pub claims : (x : ℕ) → sum_by (λ p. times x p.claims) passes ≡ once_below x (min word limit)
  -- the remaining draws are those past the end
  pub past_end : word ≡ min word limit + sum_by (λ p. p.past_end) passes
  pub each : (i : ℕ) (p : PassRecord) → get_elem? passes i ≡ some p → (p ≡ spent) ⊎ IsLive p
  -- of the `count` seats, each is a pass or can still become one
  pub seats : sum_by (λ p. p.weight + p.spare) passes ≡ count

-- the only pass in use: its claims are the drawn numbers, each once, and if it has ended they are all numbers
pub record IsSole (limit word : ℕ) (p : PassRecord) : Type 0 where
  pub claims : (x : ℕ) → times x p.claims ≡ once_below x (min word limit)
  pub past_end : word ≡ min word limit + p.past_end
  pub ended : p.ended ≡ true → limit ≤ word
