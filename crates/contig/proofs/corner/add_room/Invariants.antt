use Rattle.std.proofs.Common.{◌≡◌, ◌++◌, List}
use Rattle.contig.specs.declared.corner.Corner.{Corner}
use Rattle.contig.proofs.corner.add_room.Given as goal

abbrev pub invariant-loop : goal.invariant-loop
invariant-loop l = (rest : List Corner) × (l.corners.items ≡ l.initial.corners.items ++ rest)
