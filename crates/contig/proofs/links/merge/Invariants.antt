use Rattle.std.proofs.Common.{◌≡◌, ℕ, ◌<◌, take, length, get_or}
use Rattle.contig.specs.Links.{AreMerged}
use Rattle.contig.proofs.Merging.{Kept}
use Rattle.contig.proofs.links.merge.Given as goal

abbrev pub invariant-loop-corner : goal.invariant-loop-corner
invariant-loop-corner l = record {
  width : length l.classes ≡ 32;
  merged : AreMerged l.leaving.graph.now l.leaving.plan.now l.leaving.unit l.spare (take l.corner-index l.corners) l.classes;
  coarser : (a b : ℕ) → a < 32 → b < 32 → get_or l.initial.classes a 0 ≡ get_or l.initial.classes b 0 → get_or l.classes a 0 ≡ get_or l.classes b 0;
  linked : Kept l.leaving.graph.now l.leaving.plan.now l.leaving.unit l.spare l.corners l.initial.classes l.classes;
}
