use Rattle.std.proofs.Common.{◌≡◌, map, take}
use Rattle.audit_model.specs.Trajectory.{without_histogram}
use Rattle.audit_start.proofs.resume_state.strip_histograms.Given as goal

abbrev pub invariant-loop-outcome : goal.invariant-loop-outcome
invariant-loop-outcome l = l.without_histogram.items ≡ map without_histogram (take l.outcome-index l.outcomes)
