use Rattle.std.proofs.Common.{◌≡◌, map, take}
use Rattle.contig.specs.Order.{blank_at}
use Rattle.contig.proofs.order.set_blank.Given as goal

abbrev pub invariant-loop-unit : goal.invariant-loop-unit
invariant-loop-unit l = l.sectors.items ≡ map blank_at (take l.unit-index l.row)
