-- The union of outcomes: outcomes by rising id, with ids below a total.
use Rattle.std.specs.Prelude.{ℕ, List}
use Rattle.audit_model.specs.declared.outcome.Outcome.{Outcome}

pub record Gathered : Type 0 where
  pub total : ℕ
  pub outcomes : List Outcome
