use Rattle.std.proofs.Common.{◌≡◌, None, not, ◌&&◌}
use Rattle.audit_model.specs.First.{first_below}
use Rattle.audit_model.specs.Graph.{has}
use Rattle.dual_graph.proofs.search.first_unmarked.Given as goal

abbrev pub invariant-loop-unit : goal.invariant-loop-unit
invariant-loop-unit g l = first_below l.unit (λ u. g.I.Inside.inside l.within.set.now u && not (has l.marks.items u)) ≡ None
