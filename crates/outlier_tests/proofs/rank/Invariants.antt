use Rattle.std.proofs.Common.{◌≡◌, ◌+◌, take}
use Rattle.std.specs.List.{count_by}
use Rattle.audit_model.specs.Trajectory.{in_tail, value_at}
use Rattle.outlier_tests.proofs.rank.Given as goal

abbrev pub invariant-loop-end : goal.invariant-loop-end
invariant-loop-end l = l.rank ≡ 1 + count_by (λ o. in_tail l.fn.tail (value_at o l.fn.ask) l.fn.start) (take l.end-index l.ends)
