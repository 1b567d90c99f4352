use Rattle.std.proofs.Common.{◌≡◌, false, take}
use Rattle.audit_model.specs.Local.{stays_behind}
use Rattle.contig.specs.Parts.{IsRowMarked, IsOnePart}
use Rattle.contig.proofs.parts.spread.Given as goal

abbrev pub invariant-loop-other : goal.invariant-loop-other
invariant-loop-other l = record {
  marked : IsRowMarked l.leaving.graph.now (stays_behind l.leaving.plan.now l.leaving.unit) (take l.other-index l.other-items) l.label l.initial.marks l.marks l.roots;
  alone : l.met ≡ false → IsOnePart l.leaving.graph.now (stays_behind l.leaving.plan.now l.leaving.unit) (take l.other-index l.other-items) l.label l.marks.labels l.roots;
}
