use Rattle.std.proofs.Common.{◌≡◌}
use Rattle.audit_model.specs.Below.{map_below}
use Rattle.dual_json.specs.Places.{nth, labels_from}
use Rattle.dual_json.proofs.districts.labels_of.Given as goal

abbrev pub invariant-loop-name : goal.invariant-loop-name
invariant-loop-name l = l.labels ≡ map_below l.name-index (nth (labels_from l.names))
