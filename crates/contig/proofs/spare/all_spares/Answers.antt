use Rattle.std.proofs.Common.{List, sym, subst, arith}
use Rattle.std.specs.Prelude.{None}
use Rattle.std.proofs.lemmas.List.{take_all}
use Rattle.contig.specs.Faces.{SparedFace}
use Rattle.contig.specs.Listed.{listed}
use Rattle.contig.specs.declared.face.Candidate.{Candidate}
use Rattle.contig.specs.declared.face.Face.TheVariants.{Triangle}
use Rattle.contig.specs.Corners.{HasCorners, spares_at}
use Rattle.contig.proofs.Adding.{rings_at, listed_step}
use Rattle.contig.proofs.spare.all_spares.Goals as goal

-- no candidate
abbrev none : Candidate
none = record { ring = Triangle 0 0 0; spare = None }

pub add_spare-requires-clause-ring : goal.add_spare-requires-clause-ring
add_spare-requires-clause-ring c = (rings_at c.args.graph.now c.args.faces.now c.loop-face.face-index none c.loop-face-test.true c.requires.faces).0

pub add_spare-requires-clause-spare : goal.add_spare-requires-clause-spare
add_spare-requires-clause-spare c = (rings_at c.args.graph.now c.args.faces.now c.loop-face.face-index none c.loop-face-test.true c.requires.faces).1

pub loop-face-preserved : goal.loop-face-preserved
loop-face-preserved c =
    subst (λ (l : List SparedFace). HasCorners c.args.graph.now (λ w. spares_at w l) c.add_spare.new.spares)
    (sym (listed_step c.args.faces.now c.loop-face.face-index none c.loop-face-test.true))
    (c.in_ok-add_spare.ensures.added _ c.loop-face.invariant)

pub returns : goal.returns
returns c =
    subst (λ (l : List Candidate). HasCorners c.args.graph.now (λ w. spares_at w (listed l)) c.loop-face.spares)
    (take_all c.loop-face.face-index c.args.faces.now (omega (arith, c.loop-face-test.false))) c.loop-face.invariant
