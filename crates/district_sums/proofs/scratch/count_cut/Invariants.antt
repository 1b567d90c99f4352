use Rattle.std.proofs.Common.{◌≡◌, ◌==◌, ◌&&◌, not, get_or}
use Rattle.audit_model.specs.Below.{count_below, sum_below}
use Rattle.audit_model.specs.Graph.{adjacent}
use Rattle.district_sums.proofs.scratch.count_cut.Given as goal

abbrev pub invariant-loop-unit : goal.invariant-loop-unit
invariant-loop-unit l = l.cut ≡ sum_below l.unit (λ v. count_below v (λ u. adjacent l.graph u v && not (get_or l.plan u 0 == get_or l.plan v 0)))
