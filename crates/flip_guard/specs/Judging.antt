-- The state of a constraint, as proofs know it.
use Rattle.std.specs.Prelude.{ℕ, ◌<◌, Bool, IsTrue, List, length, slice_set}
use Rattle.audit_model.specs.declared.rules.Rules.{Rules}
use Rattle.audit_model.specs.Below.{above_all}

-- its rules; a test of the plans it accepts, by their numbers of units and districts; an invariant, for instance that a
-- stored closure may be called; and the plans it currently describes
pub record Judging : Type 1 where
  pub rules : Rules
  pub takes : ℕ → ℕ → Bool
  pub keeps : Type 0
  pub stands : List ℕ → Type 0

-- the constraint accepts the plan, by its length and its greatest district
abbrev pub IsTaken : Judging → List ℕ → Type 0
IsTaken by plan = IsTrue (by.takes (length plan) (above_all plan))

-- the plan before the move, with the unit back in its district, was accepted and described by the constraint, and the
-- plan after it is accepted too
pub record IsAfterMove (by : Judging) (after : List ℕ) (unit from : ℕ) : Type 0 where
  pub taken : IsTaken by after
  pub unit_below : unit < length after
  pub taken_before : IsTaken by (slice_set after unit from)
  pub stood : by.stands (slice_set after unit from)
