use Rattle.std.proofs.Common.{◌≡◌, ◌==◌, ◌&&◌, cond, not, get_or}
use Rattle.audit_model.specs.Below.{sum_below}
use Rattle.audit_model.specs.Graph.{adjacent}
use Rattle.audit_model.specs.Length.{edge_length}
use Rattle.district_sums.proofs.lengths.measure_edges.Given as goal

abbrev pub invariant-loop-unit : goal.invariant-loop-unit
invariant-loop-unit l =
    l.total ≡ sum_below l.unit (λ v. sum_below v (λ u. cond (adjacent l.graph u v && not (get_or l.plan u 0 == get_or l.plan v 0)) (edge_length l.graph l.lengths u v) 0))
