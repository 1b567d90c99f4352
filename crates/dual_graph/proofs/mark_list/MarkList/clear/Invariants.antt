use Rattle.std.proofs.Common.{◌≡◌, take}
use Rattle.dual_graph.proofs.Marking.{IsClearing}
use Rattle.dual_graph.proofs.mark_list.MarkList.clear.Given as goal

abbrev pub invariant-loop-place : goal.invariant-loop-place
invariant-loop-place l = record {
  clearing : IsClearing (take l.initial.self-inside.count l.initial.self-inside.order.items) l.initial.self-inside.labels.items l.self-inside.labels.items l.place;
  order : l.self-inside.order ≡ l.initial.self-inside.order;
}
