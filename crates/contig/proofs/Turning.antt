-- The corners of a ring can be added.
use Rattle.std.proofs.Common.{◌≡◌, ℕ, ◌<◌, true, ◌||◌, [], ◌∷◌}
use Rattle.std.proofs.lemmas.Bool.{or_left, or_right}
use Rattle.audit_model.specs.Graph.{Graph, adjacent}
use Rattle.audit_model.proofs.Bools.{in_1, in_2, in_3, in_4}
use Rattle.audit_model.proofs.ListFacts.{first_has, has_2, has_3, has_4}
use Rattle.contig.specs.Faces.{is_pair, has_side, IsRing}
use Rattle.contig.specs.Rings.{ring_of}
use Rattle.contig.specs.declared.face.Face.{Face}
use Rattle.contig.specs.declared.face.Face.TheVariants.{Triangle, Square, Pentagon}
use Rattle.contig.proofs.Rings.{has_5, five_1, five_2, five_3, five_4, five_5, pair_same, side_turned}

-- a corner at a unit can be added: its units are units of the graph, and its first two are neighbors of the unit
pub record Fits (g : Graph) (unit one other far further : ℕ) : Type 0 where
  pub units : (unit < g.units) × (far < g.units) × (further < g.units)
  pub near : (adjacent g unit one ≡ true) × (adjacent g unit other ≡ true)

-- so can the corners at all units of a face
abbrev pub AllFit : Graph → Face → Type 0
AllFit g (Triangle a b c) = Fits g a b c c c × Fits g b c a a a × Fits g c a b b b
AllFit g (Square a b c d) = Fits g a b d c c × Fits g b c a d d × Fits g c d b a a × Fits g d a c b b
AllFit g (Pentagon a b c d e) = Fits g a b e c d × Fits g b c a d e × Fits g c d b e a × Fits g d e c a b × Fits g e a d b c

-- the corners of a ring can be added
pub ring_fits : (g : Graph) (face : Face) → IsRing g (ring_of face) → AllFit g face
ring_fits g (Triangle a b c) is =
    let la = is.below a (first_has a (b ∷ c ∷ [])) in
    let lb = is.below b (has_2 a b (c ∷ [])) in
    let lc = is.below c (has_3 a b c []) in
    let ab : has_side (a ∷ b ∷ c ∷ []) a b ≡ true = or_left (is_pair a b a b || is_pair b c a b) (is_pair c a a b) (or_left (is_pair a b a b) (is_pair b c a b) (pair_same a b)) in
    let bc : has_side (a ∷ b ∷ c ∷ []) b c ≡ true = or_left (is_pair a b b c || is_pair b c b c) (is_pair c a b c) (or_right (is_pair a b b c) (is_pair b c b c) (pair_same b c)) in
    let ca : has_side (a ∷ b ∷ c ∷ []) c a ≡ true = or_right (is_pair a b c a || is_pair b c c a) (is_pair c a c a) (pair_same c a) in (
      record { units = (la, lc, lc); near = (is.sides a b ab, is.sides a c (side_turned (a ∷ b ∷ c ∷ []) c a ca)) },
      record { units = (lb, la, la); near = (is.sides b c bc, is.sides b a (side_turned (a ∷ b ∷ c ∷ []) a b ab)) },
      record { units = (lc, lb, lb); near = (is.sides c a ca, is.sides c b (side_turned (a ∷ b ∷ c ∷ []) b c bc)) },
    )
ring_fits g (Square a b c d) is =
    let la = is.below a (first_has a (b ∷ c ∷ d ∷ [])) in
    let lb = is.below b (has_2 a b (c ∷ d ∷ [])) in
    let lc = is.below c (has_3 a b c (d ∷ [])) in
    let ld = is.below d (has_4 a b c d []) in
    let ab : has_side (a ∷ b ∷ c ∷ d ∷ []) a b ≡ true = in_1 (is_pair a b a b) (is_pair b c a b) (is_pair c d a b) (is_pair d a a b) (pair_same a b) in
    let bc : has_side (a ∷ b ∷ c ∷ d ∷ []) b c ≡ true = in_2 (is_pair a b b c) (is_pair b c b c) (is_pair c d b c) (is_pair d a b c) (pair_same b c) in
    let cd : has_side (a ∷ b ∷ c ∷ d ∷ []) c d ≡ true = in_3 (is_pair a b c d) (is_pair b c c d) (is_pair c d c d) (is_pair d a c d) (pair_same c d) in
    let da : has_side (a ∷ b ∷ c ∷ d ∷ []) d a ≡ true = in_4 (is_pair a b d a) (is_pair b c d a) (is_pair c d d a) (is_pair d a d a) (pair_same d a) in (
      record { units = (la, lc, lc); near = (is.sides a b ab, is.sides a d (side_turned (a ∷ b ∷ c ∷ d ∷ []) d a da)) },
      record { units = (lb, ld, ld); near = (is.sides b c bc, is.sides b a (side_turned (a ∷ b ∷ c ∷ d ∷ []) a b ab)) },
      record { units = (lc, la, la); near = (is.sides c d cd, is.sides c b (side_turned (a ∷ b ∷ c ∷ d ∷ []) b c bc)) },
      record { units = (ld, lb, lb); near = (is.sides d a da, is.sides d c (side_turned (a ∷ b ∷ c ∷ d ∷ []) c d cd)) },
    )
ring_fits g (Pentagon a b c d e) is =
    let la = is.below a (first_has a (b ∷ c ∷ d ∷ e ∷ [])) in
    let lb = is.below b (has_2 a b (c ∷ d ∷ e ∷ [])) in
    let lc = is.below c (has_3 a b c (d ∷ e ∷ [])) in
    let ld = is.below d (has_4 a b c d (e ∷ [])) in
    let le = is.below e (has_5 a b c d e []) in
    let ab : has_side (a ∷ b ∷ c ∷ d ∷ e ∷ []) a b ≡ true = five_1 (is_pair a b a b) (is_pair b c a b) (is_pair c d a b) (is_pair d e a b) (is_pair e a a b) (pair_same a b) in
    let bc : has_side (a ∷ b ∷ c ∷ d ∷ e ∷ []) b c ≡ true = five_2 (is_pair a b b c) (is_pair b c b c) (is_pair c d b c) (is_pair d e b c) (is_pair e a b c) (pair_same b c) in
    let cd : has_side (a ∷ b ∷ c ∷ d ∷ e ∷ []) c d ≡ true = five_3 (is_pair a b c d) (is_pair b c c d) (is_pair c d c d) (is_pair d e c d) (is_pair e a c d) (pair_same c d) in
    let de : has_side (a ∷ b ∷ c ∷ d ∷ e ∷ []) d e ≡ true = five_4 (is_pair a b d e) (is_pair b c d e) (is_pair c d d e) (is_pair d e d e) (is_pair e a d e) (pair_same d e) in
    let ea : has_side (a ∷ b ∷ c ∷ d ∷ e ∷ []) e a ≡ true = five_5 (is_pair a b e a) (is_pair b c e a) (is_pair c d e a) (is_pair d e e a) (is_pair e a e a) (pair_same e a) in (
      record { units = (la, lc, ld); near = (is.sides a b ab, is.sides a e (side_turned (a ∷ b ∷ c ∷ d ∷ e ∷ []) e a ea)) },
      record { units = (lb, ld, le); near = (is.sides b c bc, is.sides b a (side_turned (a ∷ b ∷ c ∷ d ∷ e ∷ []) a b ab)) },
      record { units = (lc, le, la); near = (is.sides c d cd, is.sides c b (side_turned (a ∷ b ∷ c ∷ d ∷ e ∷ []) b c bc)) },
      record { units = (ld, la, lb); near = (is.sides d e de, is.sides d c (side_turned (a ∷ b ∷ c ∷ d ∷ e ∷ []) c d cd)) },
      record { units = (le, lb, lc); near = (is.sides e a ea, is.sides e d (side_turned (a ∷ b ∷ c ∷ d ∷ e ∷ []) d e de)) },
    )
