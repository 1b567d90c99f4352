use Rattle.std.proofs.Common.{◌≡◌, ◌-◌}
use Rattle.audit_model.specs.Search.{IsSearch}
use Rattle.dual_graph.specs.Marked.{IsMarked}
use Rattle.dual_graph.proofs.TwoSearches.{AreDisjoint}
use Rattle.dual_graph.proofs.meeting.are_joined.Given as goal

abbrev pub invariant-loop-next : goal.invariant-loop-next
invariant-loop-next g l = record {
  near_units : l.near.units ≡ l.graph.units;
  far_units : l.far.units ≡ l.graph.units;
  near_marked : IsMarked l.near;
  far_marked : IsMarked l.far;
  near_search : IsSearch l.graph (g.I.Inside.inside l.set) l.fn.units.0 l.next l.near.items;
  far_search : IsSearch l.graph (g.I.Inside.inside l.set) l.fn.units.1 l.next l.far.items;
  apart : AreDisjoint l.near.items l.far.items;
}

abbrev pub decreases-loop-next : goal.decreases-loop-next
decreases-loop-next g l = l.graph.units - l.next
