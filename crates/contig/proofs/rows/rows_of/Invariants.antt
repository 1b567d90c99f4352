use Rattle.std.proofs.Common.{take}
use Rattle.contig.specs.Listed.{listed}
use Rattle.contig.specs.Corners.{HasCorners, corners_at}
use Rattle.contig.specs.Faces.{own_rings}
use Rattle.contig.proofs.rows.rows_of.Given as goal

abbrev pub invariant-loop-face : goal.invariant-loop-face
invariant-loop-face l = HasCorners l.graph (λ w. corners_at w (own_rings (listed (take l.face-index l.faces)))) l.rows
