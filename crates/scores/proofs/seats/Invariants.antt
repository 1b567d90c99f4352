use Rattle.std.proofs.Common.{◌≡◌}
use Rattle.audit_model.specs.Below.{count_below}
use Rattle.audit_model.specs.Score.{first_wins}
use Rattle.scores.proofs.seats.Given as goal

abbrev pub invariant-loop-district : goal.invariant-loop-district
invariant-loop-district l = l.seats ≡ count_below l.district (first_wins l.sums)
