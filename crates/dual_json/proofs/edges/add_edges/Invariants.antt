use Rattle.std.proofs.Common.{◌≡◌, None}
use Rattle.audit_model.specs.First.{first_below}
use Rattle.dual_json.specs.Edges.{is_unknown, AddsEdges}
use Rattle.dual_json.specs.Places.{object_at}
use Rattle.dual_json.specs.Shape.{views}
use Rattle.dual_json.proofs.edges.add_edges.Given as goal

abbrev pub invariant-loop-place : goal.invariant-loop-place
invariant-loop-place l = (first_below l.place (λ k. is_unknown l.index (object_at (views l.entries) k)) ≡ None)
    × AddsEdges l.index (views l.entries) l.place l.node l.fn.pairs.items l.pairs.items
