use Rattle.std.proofs.Common.{ℕ, ◌-◌, ◌<◌, get_or}
use Rattle.audit_model.specs.Graph.{IsIn}
use Rattle.audit_model.specs.Local.{is_mate, stays_behind}
use Rattle.contig.proofs.Between.{IsGrowing}
use Rattle.contig.proofs.parts.meet.Given as goal

abbrev pub invariant-loop-at : goal.invariant-loop-at
invariant-loop-at g l = record {
  growing : IsGrowing l.leaving.graph.now (stays_behind l.leaving.plan.now l.leaving.unit) l.last l.marks l.roots l.ends l.at;
  complete : (v : ℕ) → IsIn l.leaving.graph.now (is_mate l.leaving.graph.now l.leaving.plan.now l.leaving.unit) v → 0 < get_or l.marks.labels v 0;
}

abbrev pub decreases-loop-at : goal.decreases-loop-at
decreases-loop-at g l = l.leaving.graph.now.units - l.at
