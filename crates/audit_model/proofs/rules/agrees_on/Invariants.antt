use Rattle.std.proofs.Common.{◌≡◌, true}
use Rattle.std.specs.Prelude.{◌==◌, ◌||◌, slice_index}
use Rattle.audit_model.specs.Below.{all_below}
use Rattle.audit_model.proofs.rules.agrees_on.Given as goal

abbrev pub invariant-loop-unit : goal.invariant-loop-unit
invariant-loop-unit l = all_below l.unit (λ u. (slice_index l.frozen u == 0) || (slice_index l.plan u == slice_index l.home u)) ≡ true
