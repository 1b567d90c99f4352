-- One more corner in the rows, and the faces of a list of candidates.
use Rattle.std.proofs.Common.{◌≡◌, ℕ, true, false, zero, suc, ◌+◌, ◌<◌, List, [], ◌∷◌, ◌++◌, length, get_or, set, take, map, refl, sym, ap, ◌∙◌, subst, inl, inr, arith, length-set, get_or-set_same, get_or-set_other}
use Rattle.std.specs.Prelude.{◌==◌, All, Option, Some, None, is_some}
use Rattle.std.proofs.lemmas.Bool.{both_ways, cases_eq, eq-eqb, ne_eqb, cond-true, cond-false}
use Rattle.std.proofs.lemmas.List.{append-nil, map_push, take_more, take_more_set, length_push}
use Rattle.std.proofs.lemmas.List.Elements.{All-nil, All-push}
use Rattle.audit_model.specs.Graph.{Graph}
use Rattle.contig.specs.Faces.{SparedFace, IsRing, AreFaces, own_ring, spare_ring}
use Rattle.contig.specs.Listed.{listed}
use Rattle.contig.specs.Rings.{face_by, face_of}
use Rattle.contig.specs.declared.face.Candidate.{Candidate}
use Rattle.contig.specs.declared.face.Face.{Face}
use Rattle.contig.specs.declared.face.Face.TheVariants.{Triangle, Square, Pentagon}
use Rattle.contig.proofs.Listing.{listed_push}
use Rattle.contig.specs.declared.corner.Corner.{Corner}
use Rattle.contig.specs.Corners.{HasCorners, IsOnRow, ShowsCorners, spares_at, units_of, with_corner}

-- the rows with one more corner at u
pub one_more : (g : Graph) (corners : ℕ → List (ℕ × ℕ × ℕ × ℕ)) (rows new : List (List Corner)) (u : ℕ) (corner : Corner) (one other : ℕ)
    → u < g.units → IsOnRow g (get_or g.neighbours u []) corner
    → get_or (get_or g.neighbours u []) corner.one 0 ≡ one → get_or (get_or g.neighbours u []) corner.other 0 ≡ other
    → new ≡ set rows u (get_or rows u [] ++ corner ∷ [])
    → HasCorners g corners rows → HasCorners g (λ w. with_corner w (corners w) u (one, other, corner.far, corner.further)) new
one_more g corners rows new u corner one other lu placed is_one is_other is_new h = record {
  width = ap length is_new ∙ length-set rows u (get_or rows u [] ++ corner ∷ []) ∙ h.width;
  placed = λ w l. elim (cases_eq w u) [
    | inl e ↦ subst (λ t. All (IsOnRow g (get_or g.neighbours t [])) (get_or new t [])) (sym e)
        (subst (λ (xs : List Corner). All (IsOnRow g (get_or g.neighbours u [])) xs) (sym at_u)
        (All-push (IsOnRow g (get_or g.neighbours u [])) (get_or rows u []) corner (h.placed u lu) placed))
    | inr off ↦ subst (λ (xs : List Corner). All (IsOnRow g (get_or g.neighbours w [])) xs) (sym (off_u w off)) (h.placed w l)
  ];
  seen = λ w l. elim (cases_eq w u) [
    | inl e ↦ subst (λ t. map (units_of (get_or g.neighbours t [])) (get_or new t []) ≡ with_corner t (corners t) u (one, other, corner.far, corner.further)) (sym e)
        (ap (map (units_of (get_or g.neighbours u []))) at_u
        ∙ map_push (units_of (get_or g.neighbours u [])) (get_or rows u []) corner
        ∙ ap (λ (xs : List (ℕ × ℕ × ℕ × ℕ)). xs ++ units_of (get_or g.neighbours u []) corner ∷ []) (h.seen u lu)
        ∙ ap (λ (t : ℕ × ℕ × ℕ × ℕ). corners u ++ t ∷ []) same_units
        ∙ ap (λ (xs : List (ℕ × ℕ × ℕ × ℕ)). corners u ++ xs)
        (sym (cond-true {A = List (ℕ × ℕ × ℕ × ℕ)} (u == u) ((one, other, corner.far, corner.further) ∷ []) [] (eq-eqb u u refl))))
    | inr off ↦
        ap (map (units_of (get_or g.neighbours w []))) (off_u w off)
        ∙ h.seen w l
        ∙ sym (append-nil (corners w))
        ∙ ap (λ (xs : List (ℕ × ℕ × ℕ × ℕ)). corners w ++ xs)
        (sym (cond-false {A = List (ℕ × ℕ × ℕ × ℕ)} (u == w) ((one, other, corner.far, corner.further) ∷ []) [] (ne_eqb u w (λ e. off (sym e)))))
  ];
}
  where
    at_u : get_or new u [] ≡ get_or rows u [] ++ corner ∷ []
    at_u = ap (λ (t : List (List Corner)). get_or t u []) is_new ∙ get_or-set_same rows u (get_or rows u [] ++ corner ∷ []) [] (subst (λ t. u < t) (sym h.width) lu)

    off_u : (w : ℕ) → (w ≡ u → ⊥) → get_or new w [] ≡ get_or rows w []
    off_u w off = ap (λ (t : List (List Corner)). get_or t w []) is_new ∙ get_or-set_other rows u w (get_or rows u [] ++ corner ∷ []) [] off

    same_units : units_of (get_or g.neighbours u []) corner ≡ (one, other, corner.far, corner.further)
    same_units = ap (λ t. (t, get_or (get_or g.neighbours u []) corner.other 0, corner.far, corner.further)) is_one ∙ ap (λ t. (one, t, corner.far, corner.further)) is_other

-- ---- the faces of a list of candidates

-- each face is a ring, and so is its spare ring
abbrev AllRings : Graph → List SparedFace → Type 0
AllRings g [] = Unit
AllRings g (face ∷ later) = (IsRing g (own_ring face) × IsRing g (spare_ring face)) × AllRings g later

all_rings : (g : Graph) (faces : List SparedFace) → AreFaces g faces → AllRings g faces
all_rings g [] are = tt
all_rings g (face ∷ later) are = ((are.0, are.1), all_rings g later are.4)

-- if all of an extended list are rings, so are the list and the new face
rings_split : (g : Graph) (rest : List SparedFace) (face : SparedFace) → AllRings g (rest ++ face ∷ []) → AllRings g rest × (IsRing g (own_ring face) × IsRing g (spare_ring face))
rings_split g [] face h = (tt, h.0)
rings_split g (first ∷ rest) face h = let more = rings_split g rest face h.1 in ((h.0, more.0), more.1)

-- if all are rings, so is the face at a position
rings_in : (g : Graph) (candidates : List Candidate) (k : ℕ) (d : Candidate) → k < length candidates → AllRings g (listed candidates)
    → IsRing g (own_ring (face_of (get_or candidates k d))) × IsRing g (spare_ring (face_of (get_or candidates k d)))
rings_in g [] k d l h = absurd (omega arith)
rings_in g (candidate ∷ later) zero d l h = (rings_split g (listed later) (face_of candidate) h).1
rings_in g (candidate ∷ later) (suc k) d l h = rings_in g later k d (omega arith) (rings_split g (listed later) (face_of candidate) h).0

-- the face at a position is a ring of the graph, and so is its spare ring
pub rings_at : (g : Graph) (candidates : List Candidate) (k : ℕ) (d : Candidate) → k < length candidates → AreFaces g (listed candidates)
    → IsRing g (own_ring (face_of (get_or candidates k d))) × IsRing g (spare_ring (face_of (get_or candidates k d)))
rings_at g candidates k d l are = rings_in g candidates k d l (all_rings g (listed candidates) are)

-- taking one more candidate puts its face first
pub listed_step : (candidates : List Candidate) (k : ℕ) (d : Candidate) → k < length candidates
    → listed (take (k + 1) candidates) ≡ face_of (get_or candidates k d) ∷ listed (take k candidates)
listed_step candidates k d l = ap listed (take_more candidates k d l) ∙ listed_push (take k candidates) (get_or candidates k d)

-- a face without a spare adds no corner of one
pub bare_spares : (u : ℕ) (ring : Face) (spare : Option ℕ) (later : List SparedFace) → is_some spare ≡ false → spares_at u (face_by ring spare ∷ later) ≡ spares_at u later
bare_spares u (Triangle a b c) (Some d) later none = absurd (both_ways true none refl)
bare_spares u (Triangle a b c) None later none = refl
bare_spares u (Square a b c d) spare later none = refl
bare_spares u (Pentagon a b c d e) spare later none = refl

-- no rows show that there are no corners
pub no_corners : (g : Graph) (corners : ℕ → List (ℕ × ℕ × ℕ × ℕ)) (rows : List (List Corner)) → rows ≡ [] → ((u : ℕ) → corners u ≡ []) → ShowsCorners g corners rows
no_corners g corners rows is none = record {
  placed = λ u l. subst (λ (r : List (List Corner)). All (IsOnRow g (get_or g.neighbours u [])) (get_or r u [])) (sym is) (All-nil (IsOnRow g (get_or g.neighbours u [])));
  seen = λ u l. ap (λ (r : List (List Corner)). map (units_of (get_or g.neighbours u [])) (get_or r u [])) is ∙ sym (none u);
}

-- a candidate that is put after some puts its face first
pub put_listed : (old new : List Candidate) (k : ℕ) (face : Candidate) → k < length old → new ≡ set old k face
    → listed (take (k + 1) new) ≡ face_of face ∷ listed (take k old)
put_listed old new k face l is = ap (λ (t : List Candidate). listed (take (k + 1) t)) is ∙ ap listed (take_more_set old k face l) ∙ listed_push (take k old) face

-- there is one face per candidate
pub listed_length : (candidates : List Candidate) → length (listed candidates) ≡ length candidates
listed_length [] = refl
listed_length (candidate ∷ later) = omega (arith, length_push (listed later) (face_of candidate), listed_length later)
