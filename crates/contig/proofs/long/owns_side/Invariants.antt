use Rattle.std.proofs.Common.{◌≡◌, false, get_or, take}
use Rattle.std.specs.List.{list_any}
use Rattle.contig.specs.Faces.{has_side}
use Rattle.contig.specs.Long.{units_on}
use Rattle.contig.specs.declared.long.LongRing.{LongRing}
use Rattle.contig.proofs.long.owns_side.Given as goal

abbrev pub invariant-loop-place : goal.invariant-loop-place
invariant-loop-place l = list_any (λ (ring : LongRing). has_side (units_on ring) (get_or l.ring 0 0) (get_or l.ring 1 0)) (take l.place l.rings) ≡ false
