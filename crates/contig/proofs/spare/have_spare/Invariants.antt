use Rattle.std.proofs.Common.{◌≡◌, ℕ, [], take}
use Rattle.contig.specs.Listed.{listed}
use Rattle.contig.specs.Corners.{spares_at}
use Rattle.contig.proofs.spare.have_spare.Given as goal

abbrev pub invariant-loop-face : goal.invariant-loop-face
invariant-loop-face l = (u : ℕ) → spares_at u (listed (take l.face-index l.faces)) ≡ []
