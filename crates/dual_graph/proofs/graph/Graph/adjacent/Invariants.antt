use Rattle.std.proofs.Common.{◌≡◌, ℕ, ◌<◌, get_or}
use Rattle.dual_graph.proofs.graph.Graph.adjacent.Given as goal

abbrev pub invariant-loop-neighbour : goal.invariant-loop-neighbour
invariant-loop-neighbour l = (k : ℕ) → k < l.neighbour-index → get_or l.neighbour-items k 0 ≡ l.other → ⊥
