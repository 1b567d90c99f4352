use Rattle.std.proofs.Common.{◌≡◌}
use Rattle.audit_model.specs.Below.{map_below}
use Rattle.audit_statement.specs.Slots.{outcome_in}
use Rattle.ckpt_format.proofs.decode.outcomes_in.Given as goal

abbrev pub invariant-loop-place : goal.invariant-loop-place
invariant-loop-place l = l.outcomes.items ≡ map_below l.place (outcome_in l.bytes)
