use Rattle.std.proofs.Common.{◌≡◌, ℕ, ◌<◌, get_or}
use Rattle.std.specs.Prelude.{nat_lt}
use Rattle.audit_model.specs.Below.{count_below}
use Rattle.region_guard.specs.Standing.{cell}
use Rattle.region_guard.proofs.counting.count_rows.Given as goal

abbrev pub invariant-loop-region : goal.invariant-loop-region
invariant-loop-region l = (region : ℕ) → region < l.region
    → get_or l.widths region 0 ≡ count_below l.districts (λ district. nat_lt 0 (cell l.districts l.cells region district))
