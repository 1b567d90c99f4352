use Rattle.std.proofs.Common.{◌≡◌, None}
use Rattle.std.specs.Option.{is_none}
use Rattle.serde_json.specs.Find.{get as member}
use Rattle.audit_model.specs.First.{first_below}
use Rattle.dual_json.specs.Places.{object_at}
use Rattle.dual_json.specs.Shape.{views}
use Rattle.dual_json.proofs.regions.first_missing.Given as goal

abbrev pub invariant-loop-node : goal.invariant-loop-node
invariant-loop-node l = first_below l.node (λ i. is_none (member l.column (object_at (views l.nodes) i))) ≡ None
