-- The plan that was scored last, with sums over its districts.
use Rattle.std.specs.Prelude.{◌≡◌, ℕ, ◌^◌, ◌<◌, ◌≤◌, List, take, sum, length, ℤ}
use Rattle.std.specs.List.{All}
use Rattle.audit_model.specs.Limits.{most_districts}
use Rattle.audit_model.specs.Score.{efficiency_gap, seats, shares}
use Rattle.scores.specs.Known.{KnownVotes, sums_with}
use Rattle.scores.specs.declared.last_plan.LastPlan.TheInside.{Inside}

-- the votes of the plan's districts
abbrev pub known : Inside → KnownVotes
known p = record { first = take p.districts p.first; second = take p.districts p.second }

-- the shares and sums that follow from these votes
pub record AreScores (first second all_shares : List ℕ) (total won : ℕ) (gap : ℤ) : Type 0 where
  pub as_many : length second ≡ length first
  pub small_first : All (λ n. n ≤ 10 ^ 14) first
  pub small_second : All (λ n. n ≤ 10 ^ 14) second
  pub shares_are : all_shares ≡ shares (sums_with first second)
  pub total_is : total ≡ sum all_shares
  pub won_is : won ≡ seats (sums_with first second)
  pub gap_is : gap ≡ efficiency_gap (sums_with first second)

-- the sums are those of the districts, and the places of the middle shares are districts
pub record IsScored (p : Inside) : Type 0 where
  pub few : p.districts ≤ most_districts
  pub scores : AreScores (take p.districts p.first) (take p.districts p.second) (take p.districts p.shares) p.total p.seats p.gap
  pub low : 1 ≤ p.districts → p.low < p.districts
  pub high : 1 ≤ p.districts → p.high < p.districts
