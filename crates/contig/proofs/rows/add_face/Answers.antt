use Rattle.std.proofs.Common.{ℕ, List, sym, subst}
use Rattle.std.specs.Prelude.{OnOk}
use Rattle.contig.specs.Corners.{HasCorners, with_face}
use Rattle.contig.specs.Rings.{ring_of}
use Rattle.contig.specs.declared.face.Face.{Face}
use Rattle.contig.proofs.rows.add_face.Goals as goal

pub returns-in-Triangle-clause-added : goal.returns-in-Triangle-clause-added
returns-in-Triangle-clause-added c =
    let g = c.args.graph.now in
    subst (λ (f : Face). OnOk c.add_triangle.result ((corners : ℕ → List (ℕ × ℕ × ℕ × ℕ)) → HasCorners g corners c.args.rows.now → HasCorners g (λ w. with_face w (corners w) (ring_of f)) c.add_triangle.new.rows))
    (sym c.in-Triangle.is) c.add_triangle.ensures.added

pub returns-in-Square-clause-added : goal.returns-in-Square-clause-added
returns-in-Square-clause-added c =
    let g = c.args.graph.now in
    subst (λ (f : Face). OnOk c.add_square.result ((corners : ℕ → List (ℕ × ℕ × ℕ × ℕ)) → HasCorners g corners c.args.rows.now → HasCorners g (λ w. with_face w (corners w) (ring_of f)) c.add_square.new.rows))
    (sym c.in-Square.is) c.add_square.ensures.added

pub returns-in-Pentagon-clause-added : goal.returns-in-Pentagon-clause-added
returns-in-Pentagon-clause-added c =
    let g = c.args.graph.now in
    subst (λ (f : Face). OnOk c.add_pentagon.result ((corners : ℕ → List (ℕ × ℕ × ℕ × ℕ)) → HasCorners g corners c.args.rows.now → HasCorners g (λ w. with_face w (corners w) (ring_of f)) c.add_pentagon.new.rows))
    (sym c.in-Pentagon.is) c.add_pentagon.ensures.added
