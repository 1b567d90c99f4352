use Rattle.std.proofs.Common.{◌≡◌, slice_index}
use Rattle.audit_model.specs.Below.{map_below}
use Rattle.plan_csv.proofs.labels.unit_districts.Given as goal

abbrev pub invariant-loop-unit : goal.invariant-loop-unit
invariant-loop-unit l = l.start ≡ map_below l.unit (λ u. slice_index l.districts (slice_index l.records u))
