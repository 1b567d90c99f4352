use Rattle.std.proofs.Common.{◌≡◌, ◌≤◌}
use Rattle.std.specs.Prelude.{nat_lt}
use Rattle.std.specs.List.{slice_index}
use Rattle.audit_model.specs.Below.{count_below}
use Rattle.report.proofs.rules.count_frozen.Given as goal

abbrev pub invariant-loop-unit : goal.invariant-loop-unit
invariant-loop-unit l = record {
  count : l.count ≡ count_below l.unit (λ u. nat_lt 0 (slice_index l.frozen u));
  few : l.count ≤ l.unit;
}
