use Rattle.std.proofs.Common.{◌≤◌, take}
use Rattle.contig.proofs.Between.{IsSeeding}
use Rattle.contig.proofs.parts.mark_mates.Given as goal

abbrev pub invariant-loop-other : goal.invariant-loop-other
invariant-loop-other l = record {
  seeding : IsSeeding l.leaving.graph.now l.leaving.plan.now l.leaving.unit (take l.other-index l.other-items) l.count l.marks;
  few : l.count ≤ 16;
}
