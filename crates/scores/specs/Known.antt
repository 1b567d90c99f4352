-- The votes that are known of a plan that was scored before.
use Rattle.std.specs.Prelude.{◌≡◌, ℕ, ◌-◌, ◌*◌, ◌<◌, ◌≤◌, Bool, cond, nat_lt, IsTrue, List, [], slice_index, ℤ, pos, ◌-ℤ◌}
use Rattle.audit_model.specs.declared.outcome.SumsView.{SumsView}

-- both parties' votes in each district
pub record KnownVotes : Type 0 where
  pub first : List ℕ
  pub second : List ℕ

-- sums with these votes
abbrev pub sums_with : List ℕ → List ℕ → SumsView
sums_with first second = record { population = []; first = first; second = second; cut = 0; length = 0 }

abbrev pub of_known : KnownVotes → SumsView
of_known votes = sums_with votes.first votes.second

-- 1 if the first party wins a district with these votes, else 0
abbrev pub seat : ℕ → ℕ → ℕ
seat first second = cond (nat_lt second first) 1 0

-- twice the wasted votes of each party in a district with these votes
abbrev pub lost_by_first : ℕ → ℕ → ℕ
lost_by_first first second = cond (nat_lt second first) (first - second) (2 * first)

abbrev pub lost_by_second : ℕ → ℕ → ℕ
lost_by_second first second = cond (nat_lt second first) (2 * second) (second - first)

-- the second party's wasted votes minus the first party's, doubled
abbrev pub margin : ℕ → ℕ → ℤ
margin first second = pos (lost_by_second first second) -ℤ pos (lost_by_first first second)

-- the votes in a district are those of a plan
abbrev pub AgreesAt : List ℕ → List ℕ → SumsView → ℕ → Type 0
AgreesAt first second sums d = (slice_index first d ≡ slice_index sums.first d) × (slice_index second d ≡ slice_index sums.second d)

-- a district is listed at a place of this range
abbrev pub IsListed : List ℕ → ℕ → ℕ → ℕ → Type 0
IsListed list from to d = (place : ℕ) × (from ≤ place) × (place < to) × (slice_index list place ≡ d)

-- what scratch memory knows: the votes of a plan, and whether that plan is the current one
pub record Remembered : Type 0 where
  pub fresh : Bool
  pub votes : KnownVotes

-- the votes are those of the current plan, unless they may be those of another
pub record IsReady (room : Remembered) (sums : SumsView) : Type 0 where
  pub first : IsTrue room.fresh → room.votes.first ≡ sums.first
  pub second : IsTrue room.fresh → room.votes.second ≡ sums.second
