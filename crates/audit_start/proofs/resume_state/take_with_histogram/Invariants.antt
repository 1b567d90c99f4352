use Rattle.std.proofs.Common.{◌≡◌, take, true}
use Rattle.audit_model.specs.Run.{taken_up}
use Rattle.audit_start.proofs.resume_state.take_with_histogram.Given as goal

abbrev pub invariant-loop-outcome : goal.invariant-loop-outcome
invariant-loop-outcome l = l.kept.items ≡ taken_up true l.walks (take l.outcome-index l.outcomes)
