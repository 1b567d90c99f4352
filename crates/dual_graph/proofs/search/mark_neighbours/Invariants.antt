use Rattle.std.proofs.Common.{◌≡◌, take}
use Rattle.dual_graph.specs.Marked.{IsMarked}
use Rattle.audit_model.specs.Search.{AddsFrom}
use Rattle.dual_graph.proofs.search.mark_neighbours.Given as goal

abbrev pub invariant-loop-other : goal.invariant-loop-other
invariant-loop-other g l = record {
  units : l.marks.units ≡ l.within.graph.now.units;
  marked : IsMarked l.marks;
  added : AddsFrom l.within.graph.now (g.I.Inside.inside l.within.set.now) (take l.other-index l.other-items) l.initial.marks.items l.marks.items;
}
