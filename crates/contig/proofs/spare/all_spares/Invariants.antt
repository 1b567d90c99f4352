use Rattle.std.proofs.Common.{take}
use Rattle.contig.specs.Listed.{listed}
use Rattle.contig.specs.Corners.{HasCorners, spares_at}
use Rattle.contig.proofs.spare.all_spares.Given as goal

abbrev pub invariant-loop-face : goal.invariant-loop-face
invariant-loop-face l = HasCorners l.graph (λ w. spares_at w (listed (take l.face-index l.faces))) l.spares
