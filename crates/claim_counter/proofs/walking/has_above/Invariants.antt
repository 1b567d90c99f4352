use Rattle.std.proofs.Common.{◌<◌, ℕ, get_or}
use Rattle.claim_counter.proofs.walking.has_above.Given as goal

abbrev pub invariant-loop-id : goal.invariant-loop-id
invariant-loop-id l = (k d : ℕ) → k < l.id-index → get_or l.ids k d < l.bound
