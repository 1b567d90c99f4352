use Rattle.std.proofs.Common.{ℕ, sym, ap, ◌∙◌, subst}
use Rattle.std.specs.Prelude.{Option}
use Rattle.contig.specs.Corners.{HasCorners, add_spare}
use Rattle.contig.specs.Faces.{SparedFace}
use Rattle.contig.specs.Rings.{face_by}
use Rattle.contig.specs.declared.face.Face.{Face}
use Rattle.contig.specs.declared.face.Face.TheVariants.{Triangle}
use Rattle.contig.proofs.spare.add_spare.Goals as goal

pub returns-in_ok-add_four-in-Triangle-Some-clause-added : goal.returns-in_ok-add_four-in-Triangle-Some-clause-added
returns-in_ok-add_four-in-Triangle-Some-clause-added c corners h =
    subst (λ (f : SparedFace). HasCorners c.args.graph.now (λ w. add_spare w (corners w) f) c.add_four.new.spares)
    (sym (ap (λ (r : Face). face_by r c.args.face.spare) c.in-Triangle-Some.is-0 ∙ ap (λ (s : Option ℕ). face_by (Triangle c.in-Triangle-Some.a c.in-Triangle-Some.b c.in-Triangle-Some.c) s) c.in-Triangle-Some.is-1))
    (c.in_ok-add_four-in-Triangle-Some.ensures.added corners h)
