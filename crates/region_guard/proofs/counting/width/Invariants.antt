use Rattle.std.proofs.Common.{◌≡◌}
use Rattle.std.specs.Prelude.{nat_lt}
use Rattle.audit_model.specs.Below.{count_below}
use Rattle.region_guard.specs.Standing.{cell}
use Rattle.region_guard.proofs.counting.width.Given as goal

abbrev pub invariant-loop-district : goal.invariant-loop-district
invariant-loop-district l = l.width ≡ count_below l.district (λ district. nat_lt 0 (cell l.districts l.cells l.region district))
