use Rattle.contig.proofs.Between.{IsLinking}
use Rattle.contig.proofs.parts.are_linked.Given as goal

abbrev pub invariant-loop-place : goal.invariant-loop-place
invariant-loop-place l = IsLinking l.leaving.graph.now l.leaving.plan.now l.leaving.unit l.marks l.roots l.place
