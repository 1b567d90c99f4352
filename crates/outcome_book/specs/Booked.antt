-- The outcome table: outcomes in the order of their hand-in.
use Rattle.std.specs.Prelude.{◌≡◌, ℕ, ◌<◌, ◌≤◌, IsFalse, List, length, sum}
use Rattle.std.specs.List.{All, AllPairs}
use Rattle.audit_model.specs.declared.outcome.Outcome.{Outcome}
use Rattle.audit_model.specs.Limits.{most_trajectories}
use Rattle.audit_model.specs.Run.{has_id}

-- the number of ids, and the outcomes in the order of their hand-in
pub record Booked : Type 0 where
  pub total : ℕ
  pub outcomes : List Outcome

-- the ids of the outcomes differ
abbrev pub AreApart : List Outcome → Type 0
AreApart outcomes = AllPairs (λ a b. a.id ≡ b.id → ⊥) outcomes

-- the histogram adds up to at most the number of plans that a trajectory visits
abbrev pub HasFewVisits : Outcome → Type 0
HasFewVisits o = sum o.bins ≤ 1000000001

-- the ids differ and are below the total, so there are at most as many outcomes as ids
pub record IsBook (b : Booked) : Type 0 where
  pub small : b.total ≤ most_trajectories
  pub apart : AreApart b.outcomes
  pub below : All (λ o. o.id < b.total) b.outcomes
  pub few : length b.outcomes ≤ b.total

-- outcomes that may be appended: distinct missing ids below the total, each with few visits
pub record IsShareFor (b : Booked) (share : List Outcome) : Type 0 where
  pub below : All (λ o. o.id < b.total) share
  pub absent : All (λ o. IsFalse (has_id b.outcomes o.id)) share
  pub apart : AreApart share
  pub bins : All HasFewVisits share
