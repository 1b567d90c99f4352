use Rattle.std.proofs.Common.{length}
use Rattle.contig.specs.Counts.{AreSpareCounts, is_before}
use Rattle.contig.specs.Faces.{own_rings}
use Rattle.contig.proofs.Raising.{AreRingCounts}
use Rattle.contig.proofs.counts.FaceCounts.reset.Given as goal

abbrev pub invariant-loop-unit : goal.invariant-loop-unit
invariant-loop-unit l =
    AreRingCounts l.graph (own_rings l.table.faces) (is_before l.plan l.unit) (length l.fn.self.edges) l.self
    × AreSpareCounts l.table.faces (is_before l.plan l.unit) (length l.fn.self.edges) l.self.spared
