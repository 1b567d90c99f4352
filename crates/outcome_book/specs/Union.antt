-- The union of two lists of outcomes of one job, as this project defines it: id by id.
use Rattle.std.specs.Prelude.{◌≡◌, ◌⊎◌, ℕ, ◌<◌, cond, List, ⊤, Option, Some, None, bytes_eq}
use Rattle.std.specs.List.{All, AllPairs, Contains}
use Rattle.audit_model.specs.declared.outcome.Outcome.{Outcome}
use Rattle.audit_model.specs.Trajectory.{without_histogram, empty_histogram}
use Rattle.audit_model.specs.Run.{with_id}

-- the outcomes are equal, or would be if one did not have its histogram
abbrev pub Agree : Outcome → Outcome → Type 0
Agree one other = (one ≡ other) ⊎ ((one ≡ without_histogram other) ⊎ (other ≡ without_histogram one))

-- of two outcomes that agree, the one with a histogram if one has it
abbrev pub fuller : Outcome → Outcome → Outcome
fuller one other = cond (bytes_eq one.bins empty_histogram) other one

-- the combination of two optional outcomes of one id
abbrev pub fuller_if : Option Outcome → Option Outcome → Option Outcome
fuller_if None other = other
fuller_if (Some one) None = Some one
fuller_if (Some one) (Some other) = Some (fuller one other)

abbrev pub AgreeIf : Option Outcome → Option Outcome → Type 0
AgreeIf None other = ⊤
AgreeIf (Some one) None = ⊤
AgreeIf (Some one) (Some other) = Agree one other

-- the list's outcome of this id, if any, agrees with this one
abbrev pub AgreesWith : List Outcome → Outcome → Type 0
AgreesWith outcomes o = AgreeIf (with_id outcomes o.id) (Some o)

-- for each id in both lists, the two outcomes agree
abbrev pub AreAgreed : List Outcome → List Outcome → Type 0
AreAgreed outcomes others = All (AgreesWith outcomes) others

-- the id is the least whose outcomes in both lists disagree
pub record IsFirstDifference (outcomes others : List Outcome) (id : ℕ) : Type 0 where
  pub other : Outcome
  pub is_there : Contains others other
  pub id_is : other.id ≡ id
  pub differs : AgreesWith outcomes other → ⊥
  pub least : All (λ o. o.id < id → AgreesWith outcomes o) others

-- the ids rise
abbrev pub AreById : List Outcome → Type 0
AreById outcomes = AllPairs (λ a b. a.id < b.id) outcomes

-- outcomes that may be added: rising ids below the total
pub record MayBeAdded (total : ℕ) (found : List Outcome) : Type 0 where
  pub below : All (λ o. o.id < total) found
  pub rising : AreById found

-- the list has, for each id, the combination of both lists' outcomes
abbrev pub HoldsBoth : List Outcome → List Outcome → List Outcome → Type 0
HoldsBoth outcomes others both = (id : ℕ) → with_id both id ≡ fuller_if (with_id outcomes id) (with_id others id)

-- the list is the union, by rising id
pub record IsUnion (outcomes others both : List Outcome) : Type 0 where
  pub rising : AreById both
  pub each : HoldsBoth outcomes others both
