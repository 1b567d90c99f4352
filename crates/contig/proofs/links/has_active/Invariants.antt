use Rattle.std.proofs.Common.{◌≡◌, ℕ, ◌<◌, false, get_or}
use Rattle.contig.specs.Links.{is_active_at}
use Rattle.contig.specs.declared.corner.Corner.{Corner}
use Rattle.contig.proofs.links.has_active.Given as goal

abbrev pub invariant-loop-spare : goal.invariant-loop-spare
invariant-loop-spare l = (k : ℕ) (d : Corner) → k < l.spare-index → is_active_at l.leaving.graph.now l.leaving.plan.now l.leaving.unit (get_or l.spares k d) ≡ false
