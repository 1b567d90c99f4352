use Rattle.std.proofs.Common.{ℕ, ◌<◌, ◌≤◌}
use Rattle.audit_model.specs.Length.{degree}
use Rattle.flip_kernel.proofs.nearby.has_short_rows.Given as goal

abbrev pub invariant-loop-unit : goal.invariant-loop-unit
invariant-loop-unit l = (u : ℕ) → u < l.unit → degree l.graph u ≤ 127
