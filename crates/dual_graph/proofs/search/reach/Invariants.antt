use Rattle.std.proofs.Common.{◌≡◌, ◌-◌}
use Rattle.dual_graph.specs.Marked.{IsMarked}
use Rattle.audit_model.specs.Search.{IsSearch}
use Rattle.dual_graph.proofs.search.reach.Given as goal

abbrev pub invariant-loop-next : goal.invariant-loop-next
invariant-loop-next g l = record {
  units : l.marks.units ≡ l.within.graph.now.units;
  marked : IsMarked l.marks;
  search : IsSearch l.within.graph.now (g.I.Inside.inside l.within.set.now) l.start l.next l.marks.items;
}

abbrev pub decreases-loop-next : goal.decreases-loop-next
decreases-loop-next g l = l.within.graph.now.units - l.next
