-- Bounds on the votes and shares that scores are computed from.
use Rattle.std.specs.Prelude.{◌≡◌, ℕ, ◌^◌, ◌≤◌, List, length}
use Rattle.std.specs.List.{All}
use Rattle.audit_model.specs.Limits.{most_districts}

-- both parties' votes in 1 to 200 districts, at most 10 ^ 14 each
pub record AreVotes (first second : List ℕ) : Type 0 where
  pub some : 1 ≤ length first
  pub few : length first ≤ most_districts
  pub as_many : length second ≡ length first
  pub small_first : All (λ n. n ≤ 10 ^ 14) first
  pub small_second : All (λ n. n ≤ 10 ^ 14) second

-- the shares of 1 to 200 districts, in billionths
pub record AreShares (shares : List ℕ) : Type 0 where
  pub some : 1 ≤ length shares
  pub few : length shares ≤ most_districts
  pub small : All (λ n. n ≤ 10 ^ 9) shares
