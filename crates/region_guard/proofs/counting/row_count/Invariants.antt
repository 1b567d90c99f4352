use Rattle.std.proofs.Common.{◌≡◌, take}
use Rattle.audit_model.specs.Below.{above_all}
use Rattle.region_guard.proofs.counting.row_count.Given as goal

abbrev pub invariant-loop-region : goal.invariant-loop-region
invariant-loop-region l = l.rows ≡ above_all (take l.region-index l.regions)
