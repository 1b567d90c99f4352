use Rattle.std.proofs.Common.{◌≡◌, None}
use Rattle.audit_model.specs.First.{first_below}
use Rattle.dual_json.specs.Required.{is_missing}
use Rattle.dual_json.specs.Places.{object_at}
use Rattle.dual_json.specs.Shape.{views}
use Rattle.dual_json.proofs.required.first_missing.Given as goal

abbrev pub invariant-loop-place : goal.invariant-loop-place
invariant-loop-place l = first_below l.place (λ k. is_missing l.required (object_at (views l.entries) k)) ≡ None
