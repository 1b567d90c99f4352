-- Plans from which a job may be made.
use Rattle.std.specs.Prelude.{◌≡◌, ℕ, ◌<◌, ◌≤◌, length, slice_index}
use Rattle.audit_model.specs.declared.plans.Assigned.{Assigned}
use Rattle.audit_model.specs.Limits.{most_districts}

-- each unit has an index into the labels, of which there are 2 to 200
pub record IsPlanOf (units : ℕ) (plan : Assigned) : Type 0 where
  pub complete : length plan.start ≡ units
  pub in_range : (u : ℕ) → u < units → slice_index plan.start u < length plan.labels
  pub two : 2 ≤ length plan.labels
  pub few : length plan.labels ≤ most_districts
