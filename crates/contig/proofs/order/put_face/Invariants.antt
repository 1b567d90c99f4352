use Rattle.std.proofs.Common.{◌≡◌}
use Rattle.contig.proofs.order.put_face.Given as goal

abbrev pub invariant-loop-place : goal.invariant-loop-place
invariant-loop-place l = l.sectors.items ≡ l.initial.sectors.items
