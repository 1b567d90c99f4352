use Rattle.std.proofs.Common.{◌≡◌, ◌+◌, ◌*◌, ◌^◌}
use Rattle.std.specs.Prelude.{nat_le}
use Rattle.audit_model.specs.Below.{count_below}
use Rattle.report.proofs.weight.largest_change.Given as goal

abbrev pub invariant-loop-m : goal.invariant-loop-m
invariant-loop-m l = l.most ≡ count_below l.m (λ m. nat_le (l.pairs * 64 ^ (m + 2)) (2 ^ 64))
