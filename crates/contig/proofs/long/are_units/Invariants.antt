use Rattle.std.proofs.Common.{ℕ, ◌<◌, get_or}
use Rattle.contig.proofs.long.are_units.Given as goal

abbrev pub invariant-loop-place : goal.invariant-loop-place
invariant-loop-place l = (i : ℕ) → i < l.place → get_or l.ring i 0 < l.units
