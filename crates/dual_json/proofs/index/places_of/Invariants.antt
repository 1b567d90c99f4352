use Rattle.dual_json.specs.Places.{labels_from}
use Rattle.dual_json.proofs.Indexed.{IsIndexed}
use Rattle.dual_json.proofs.index.places_of.Given as goal

abbrev pub invariant-loop-place : goal.invariant-loop-place
invariant-loop-place l = IsIndexed (labels_from l.names) l.place l.places
