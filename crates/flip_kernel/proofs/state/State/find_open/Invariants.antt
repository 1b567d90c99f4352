use Rattle.std.proofs.Common.{◌≡◌, ℕ, ◌<◌, ◌≤◌, slice_index}
use Rattle.audit_model.specs.Step.{next}
use Rattle.flip_kernel.proofs.state.State.find_open.Given as goal

abbrev pub invariant-loop-place : goal.invariant-loop-place
invariant-loop-place g l = record {
  closed : (k : ℕ) → l.first ≤ k → k < l.place → next l.self.job l.self.plan (slice_index l.draws k) ≡ l.self.plan;
}
