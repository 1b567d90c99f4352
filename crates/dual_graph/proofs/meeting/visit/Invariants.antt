use Rattle.std.proofs.Common.{◌≡◌, ℕ, true, false, take}
use Rattle.audit_model.specs.Graph.{has}
use Rattle.audit_model.specs.Search.{AddsFrom}
use Rattle.dual_graph.specs.Marked.{IsMarked}
use Rattle.dual_graph.proofs.meeting.visit.Given as goal

abbrev pub invariant-loop-other : goal.invariant-loop-other
invariant-loop-other g l = record {
  units : l.side.units ≡ l.within.graph.now.units;
  marked : IsMarked l.side;
  added : AddsFrom l.within.graph.now (g.I.Inside.inside l.within.set.now) (take l.other-index l.other-items) l.initial.side.items l.side.items;
  met : l.met ≡ true → (v : ℕ) × (has (take l.other-index l.other-items) v ≡ true) × (has l.other_side.items v ≡ true);
  none : l.met ≡ false → (v : ℕ) → has (take l.other-index l.other-items) v ≡ true → has l.other_side.items v ≡ false;
}
