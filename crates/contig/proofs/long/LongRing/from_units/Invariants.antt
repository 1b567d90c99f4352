use Rattle.std.proofs.Common.{◌≡◌, take}
use Rattle.contig.specs.Long.{units_on}
use Rattle.contig.proofs.long.LongRing.from_units.Given as goal

abbrev pub invariant-loop-unit : goal.invariant-loop-unit
invariant-loop-unit l = units_on l.ring ≡ take l.unit-index l.units
