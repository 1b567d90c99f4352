use Rattle.std.proofs.Common.{◌≡◌, None}
use Rattle.audit_model.specs.First.{first_below}
use Rattle.dual_json.specs.Lengths.{is_unequal}
use Rattle.dual_json.specs.Shape.{lists_in}
use Rattle.dual_json.specs.Places.{object_at}
use Rattle.dual_json.specs.Shape.{views}
use Rattle.dual_json.proofs.lengths.first_unequal.Given as goal

abbrev pub invariant-loop-place : goal.invariant-loop-place
invariant-loop-place l = first_below l.place (λ k. is_unequal l.fn.listed.key.now l.fn.listed.index.now (lists_in l.fn.listed.adjacency.now) l.fn.node (object_at (views l.entries) k)) ≡ None
