use Rattle.std.proofs.Common.{◌≡◌, ℕ, ◌<◌, true}
use Rattle.std.specs.Option.{is_some}
use Rattle.audit_statement.specs.Reading.{list_of}
use Rattle.dual_json.specs.Places.{object_at}
use Rattle.dual_json.specs.Shape.{views}
use Rattle.dual_json.proofs.shape.are_lists.Given as goal

abbrev pub invariant-loop-value : goal.invariant-loop-value
invariant-loop-value l = (k : ℕ) → k < l.value-index → is_some (list_of (object_at (views l.values) k)) ≡ true
