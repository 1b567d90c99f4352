use Rattle.std.proofs.Common.{◌≡◌, ℕ, ◌+◌, ◌<◌, length, get_or}
use Rattle.audit_model.specs.Below.{sum_below}
use Rattle.audit_model.specs.Length.{degree}
use Rattle.contig.proofs.corner.limits_of.Given as goal

abbrev pub invariant-loop-unit : goal.invariant-loop-unit
invariant-loop-unit l = record {
  width : length l.limits.items ≡ l.unit;
  each : (u : ℕ) → u < l.unit → get_or l.limits.items u 0 ≡ sum_below (u + 1) (degree l.graph);
}
