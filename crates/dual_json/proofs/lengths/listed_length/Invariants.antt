use Rattle.std.proofs.Common.{◌≡◌, None}
use Rattle.audit_model.specs.First.{first_below}
use Rattle.dual_json.specs.Lengths.{is_labelled}
use Rattle.dual_json.specs.Names.{label_from}
use Rattle.dual_json.specs.Places.{object_at}
use Rattle.dual_json.specs.Shape.{views}
use Rattle.dual_json.proofs.lengths.listed_length.Given as goal

abbrev pub invariant-loop-place : goal.invariant-loop-place
invariant-loop-place l = first_below l.place (λ k. is_labelled (label_from l.name) (object_at (views l.entries) k)) ≡ None
