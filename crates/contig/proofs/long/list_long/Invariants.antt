use Rattle.contig.specs.Faces.{AreCycles}
use Rattle.contig.specs.Long.{units_of_all}
use Rattle.contig.proofs.long.list_long.Given as goal

abbrev pub invariant-loop-candidate : goal.invariant-loop-candidate
invariant-loop-candidate l = AreCycles l.graph (units_of_all l.rings.items)
