use Rattle.std.proofs.Common.{◌≡◌, get_or}
use Rattle.std.specs.Prelude.{nat_lt}
use Rattle.audit_model.specs.Below.{count_below}
use Rattle.region_guard.proofs.counting.count_split.Given as goal

abbrev pub invariant-loop-width : goal.invariant-loop-width
invariant-loop-width l = l.split ≡ count_below l.width-index (λ region. nat_lt 1 (get_or l.widths region 0))
