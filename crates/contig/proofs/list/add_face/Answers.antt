use Rattle.std.proofs.Common.{sym, ap, subst, ◌∙◌, ◌≡◌, ◌+◌, ◌∷◌, ℕ, Bool, List, take, true, false}
use Rattle.contig.specs.Faces.{SparedFace, IsRing, HasOtherUnit, has_side, spare_ring}
use Rattle.contig.specs.Listed.{listed, own_side, is_marked}
use Rattle.contig.specs.Rings.{ring_of, face_of}
use Rattle.contig.specs.declared.face.Face.{Face}
use Rattle.contig.proofs.Indexing.{fit_spare, ring_passed, listed_more}
use Rattle.contig.proofs.Adding.{put_listed}
use Rattle.contig.proofs.Listing.{own_is, spare_is}
use Rattle.contig.specs.declared.face.Candidate.{Candidate}
use Rattle.contig.proofs.list.add_face.Goals as goal

pub has_own-requires-clause-ring : goal.has_own-requires-clause-ring
has_own-requires-clause-ring c = ring_passed c.args.graph.now c.args.candidate.ring c.is_ring.ensures.sound (sym c.is_ring.ensures.value ∙ c.if-not-is_ring.false)

pub mark_face-requires-clause-ring : goal.mark_face-requires-clause-ring
mark_face-requires-clause-ring c =
    subst (λ (ring : Face). IsRing c.args.graph.now (ring_of ring)) (sym c.fit-face.ensures.ring)
    (ring_passed c.args.graph.now c.args.candidate.ring c.is_ring.ensures.sound (sym c.is_ring.ensures.value ∙ c.if-not-is_ring.false))

pub mark_face-requires-clause-spare : goal.mark_face-requires-clause-spare
mark_face-requires-clause-spare c =
    let g = c.args.graph.now in
    let face = c.fit-face.result in
    let ring = ring_passed g c.args.candidate.ring c.is_ring.ensures.sound (sym c.is_ring.ensures.value ∙ c.if-not-is_ring.false) in
    subst (IsRing g) (ap spare_ring (sym c.fit-face.ensures.face) ∙ spare_is face.ring face.spare)
    (fit_spare g c.args.candidate.ring c.args.candidate.spare c.is_ring.ensures.sound ring).0

pub returns-clause-listed : goal.returns-clause-listed
returns-clause-listed c long before =
    let g = c.args.graph.now in
    let old : List Candidate = c.args.faces.now.items in
    let face = c.fit-face.result in
    let ring = ring_passed g c.args.candidate.ring c.is_ring.ensures.sound (sym c.is_ring.ensures.value ∙ c.if-not-is_ring.false) in
    let fits = subst (λ (f : SparedFace). IsRing g (spare_ring f) × HasOtherUnit f) (sym c.fit-face.ensures.face)
    (fit_spare g c.args.candidate.ring c.args.candidate.spare c.is_ring.ensures.sound ring) in
    listed_more g long (listed (take c.args.end old)) (listed (take (c.args.end + 1) c.replace.new.faces.items)) (face_of face) c.args.candidate.ring c.args.marks.now.items c.mark_face.new.marks.items before
    (own_is face.ring face.spare ∙ ap ring_of c.fit-face.ensures.ring) ring fits.0 fits.1
    (subst (λ (marks : List Bool). is_marked g marks (own_side c.args.candidate.ring) ≡ false) c.deref.ensures.value (sym c.has_own.ensures ∙ c.if-has_own.false))
    (put_listed old c.replace.new.faces.items c.args.end face c.requires.room c.replace.ensures) c.mark_face.ensures.width c.mark_face.ensures.kept
    (λ x y h. c.mark_face.ensures.ring x y (subst (λ (r : Face). has_side (ring_of r) x y ≡ true) (sym c.fit-face.ensures.ring) h))
    (λ x y h. c.mark_face.ensures.spare x y (subst (λ (r : List ℕ). has_side r x y ≡ true) (spare_is face.ring face.spare) h))

pub returns-clause-added : goal.returns-clause-added
returns-clause-added c =
    put_listed c.args.faces.now.items c.replace.new.faces.items c.args.end c.fit-face.result c.requires.room c.replace.ensures
    ∙ ap (λ (f : SparedFace). f ∷ listed (take c.args.end c.args.faces.now.items)) c.fit-face.ensures.face
