use Rattle.std.proofs.Common.{◌≡◌}
use Rattle.grid_maker.specs.Pairs.{pairs_until}
use Rattle.grid_maker.proofs.made.pairs_of.Given as goal

abbrev pub invariant-loop-unit : goal.invariant-loop-unit
invariant-loop-unit l = l.pairs.items ≡ pairs_until l.side l.unit
