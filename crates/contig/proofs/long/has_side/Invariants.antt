use Rattle.std.proofs.Common.{◌≡◌, ℕ, ◌<◌, false, length, get_or}
use Rattle.contig.specs.Faces.{is_pair}
use Rattle.contig.specs.Cycles.{next_place}
use Rattle.contig.proofs.long.has_side.Given as goal

abbrev pub invariant-loop-place : goal.invariant-loop-place
invariant-loop-place l = (i : ℕ) → i < l.place → is_pair (get_or l.ring i 0) (get_or l.ring (next_place (length l.ring) i) 0) l.x l.y ≡ false
