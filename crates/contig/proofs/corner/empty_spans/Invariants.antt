use Rattle.std.proofs.Common.{◌≡◌, ℕ, ◌<◌, length}
use Rattle.audit_model.specs.Below.{sum_below}
use Rattle.audit_model.specs.Length.{degree}
use Rattle.contig.specs.Spans.{span_at}
use Rattle.contig.proofs.corner.empty_spans.Given as goal

abbrev pub invariant-loop-unit : goal.invariant-loop-unit
invariant-loop-unit l = record {
  width : length l.spans.items ≡ l.unit;
  each : (u : ℕ) → u < l.unit → ((span_at l.spans.items u).begin ≡ sum_below u (degree l.graph)) × ((span_at l.spans.items u).end ≡ sum_below u (degree l.graph));
}
