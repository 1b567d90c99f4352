use Rattle.std.proofs.Common.{ℕ, List, ◌∷◌, get_or, take, sym, ap, ◌∙◌, subst, arith}
use Rattle.std.specs.Prelude.{None}
use Rattle.std.proofs.lemmas.List.{take_all}
use Rattle.contig.specs.Faces.{IsRing, own_rings}
use Rattle.contig.specs.Listed.{listed}
use Rattle.contig.specs.declared.face.Candidate.{Candidate}
use Rattle.contig.specs.declared.face.Face.TheVariants.{Triangle}
use Rattle.contig.specs.Corners.{HasCorners, corners_at}
use Rattle.contig.proofs.Adding.{rings_at, listed_step}
use Rattle.contig.proofs.Listing.{own_is}
use Rattle.contig.proofs.rows.rows_of.Goals as goal

-- no candidate
abbrev none : Candidate
none = record { ring = Triangle 0 0 0; spare = None }

pub add_face-requires-clause-ring : goal.add_face-requires-clause-ring
add_face-requires-clause-ring c =
    let candidate : Candidate = get_or c.args.faces.now c.loop-face.face-index none in
    subst (IsRing c.args.graph.now) (own_is candidate.ring candidate.spare)
    (rings_at c.args.graph.now c.args.faces.now c.loop-face.face-index none c.loop-face-test.true c.requires.faces).0

pub loop-face-preserved : goal.loop-face-preserved
loop-face-preserved c =
    let candidate : Candidate = get_or c.args.faces.now c.loop-face.face-index none in
    subst (λ (l : List (List ℕ)). HasCorners c.args.graph.now (λ w. corners_at w l) c.add_face.new.rows)
    (sym (ap own_rings (listed_step c.args.faces.now c.loop-face.face-index none c.loop-face-test.true)
    ∙ ap (λ (ring : List ℕ). ring ∷ own_rings (listed (take c.loop-face.face-index c.args.faces.now))) (own_is candidate.ring candidate.spare)))
    (c.in_ok-add_face.ensures.added _ c.loop-face.invariant)

pub returns : goal.returns
returns c =
    subst (λ (l : List Candidate). HasCorners c.args.graph.now (λ w. corners_at w (own_rings (listed l))) c.loop-face.rows)
    (take_all c.loop-face.face-index c.args.faces.now (omega (arith, c.loop-face-test.false))) c.loop-face.invariant
