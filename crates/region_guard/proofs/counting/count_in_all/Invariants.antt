use Rattle.std.proofs.Common.{◌≡◌, ◌-◌, get_or}
use Rattle.audit_model.specs.Below.{sum_below}
use Rattle.region_guard.proofs.counting.count_in_all.Given as goal

abbrev pub invariant-loop-width : goal.invariant-loop-width
invariant-loop-width l = l.in_all ≡ sum_below l.width-index (λ region. get_or l.widths region 0 - 1)
