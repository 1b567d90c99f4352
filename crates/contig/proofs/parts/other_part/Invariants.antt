use Rattle.std.proofs.Common.{◌≡◌, ℕ, ◌<◌, get_or}
use Rattle.contig.proofs.parts.other_part.Given as goal

abbrev pub invariant-loop-label : goal.invariant-loop-label
invariant-loop-label l = (k : ℕ) → 0 < k → k < l.label → get_or l.roots k 0 ≡ get_or l.roots 1 0
