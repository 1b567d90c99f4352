-- Laws of unions of outcomes.
use Rattle.std.specs.Prelude.{◌≡◌, IsTrue, List}
use Rattle.std.specs.List.{All}
use Rattle.audit_model.specs.declared.outcome.Outcome.{Outcome}
use Rattle.audit_model.specs.Job.{Job}
use Rattle.audit_model.specs.Run.{IsConsistent, IsRight, fits}
use Rattle.audit_model.specs.Trajectory.{Draws}
use Rattle.outcome_book.specs.Union.{AreAgreed, IsUnion}

-- the union of outcomes plausible for a job is plausible for it
abbrev pub UnionsFit : Type 0
UnionsFit = (job : Job) (xs ys both : List Outcome) → All (λ o. IsTrue (fits job o)) xs → All (λ o. IsTrue (fits job o)) ys → IsUnion xs ys both
    → All (λ o. IsTrue (fits job o)) both

-- outcomes of a job's trajectories, with their histograms or without, agree, and their union is of the job's
-- trajectories too
abbrev pub UnionsAreConsistent : Type 0
UnionsAreConsistent = (job : Job) (draws : Draws) (xs ys both : List Outcome) → IsConsistent job draws xs → IsConsistent job draws ys → IsUnion xs ys both
    → IsConsistent job draws both

abbrev pub UnionsAreRight : Type 0
UnionsAreRight = (job : Job) (draws : Draws) (xs ys both : List Outcome) → IsRight job draws xs → IsRight job draws ys → IsUnion xs ys both
    → IsRight job draws both

abbrev pub ConsistentOutcomesAgree : Type 0
ConsistentOutcomesAgree = (job : Job) (draws : Draws) (xs ys : List Outcome) → IsConsistent job draws xs → IsConsistent job draws ys → AreAgreed xs ys

-- a union is unique
abbrev pub UnionsAreOne : Type 0
UnionsAreOne = (xs ys both other : List Outcome) → IsUnion xs ys both → IsUnion xs ys other → both ≡ other

-- for lists that agree, the union is commutative
abbrev pub OrderDoesNotMatter : Type 0
OrderDoesNotMatter = (xs ys both : List Outcome) → AreAgreed xs ys → IsUnion xs ys both → IsUnion ys xs both

-- the union is associative
abbrev pub GroupingDoesNotMatter : Type 0
GroupingDoesNotMatter = (xs ys zs front back all : List Outcome) → IsUnion xs ys front → IsUnion ys zs back → IsUnion front zs all → IsUnion xs back all

-- adding a list again changes nothing
abbrev pub TwiceChangesNothing : Type 0
TwiceChangesNothing = (xs ys both : List Outcome) → IsUnion xs ys both → IsUnion both ys both
