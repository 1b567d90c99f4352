use Rattle.std.proofs.Common.{◌≡◌, ◌/◌}
use Rattle.audit_model.specs.Below.{map_below}
use Rattle.grid_maker.proofs.made.start_of.Given as goal

abbrev pub invariant-loop-unit : goal.invariant-loop-unit
invariant-loop-unit l = l.start ≡ map_below l.unit (λ u. u / l.side / l.square.size)
