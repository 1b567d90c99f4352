use Rattle.std.proofs.Common.{◌≡◌, ℕ, ◌<◌}
use Rattle.region_guard.specs.Standing.{cell, units_among}
use Rattle.region_guard.proofs.counting.count_cells.Given as goal

abbrev pub invariant-loop-unit : goal.invariant-loop-unit
invariant-loop-unit l = (region district : ℕ) → region < l.rows → district < l.districts
    → cell l.districts l.cells region district ≡ units_among l.unit l.regions l.plan region district
