-- Testing and listing faces.
use Rattle.std.proofs.Common.{◌≡◌, ℕ, ◌<◌, Bool, true, false, not, ◌||◌, List, [], ◌∷◌, ◌++◌, refl, sym, ap, ◌∙◌, subst, inl, inr, arith}
use Rattle.std.specs.Prelude.{◌==◌, nat_lt, Option, Some, None, is_some}
use Rattle.std.specs.List.{list_any}
use Rattle.std.proofs.lemmas.Bool.{and_parts, or_cases, cases_order, cond-true, cond-false, lt-ltb, le-ltb, false_from_ne_true, or_from, ltb-true, eqb-true, eq-eqb, not-true, both_ways, false≢true}
use Rattle.audit_model.specs.Graph.{Graph, has, adjacent}
use Rattle.audit_model.specs.Local.{IsSimple}
use Rattle.contig.proofs.Rings.{pair_is, by_five, unit_of_five}
use Rattle.contig.specs.declared.face.Candidate.{Candidate}
use Rattle.contig.specs.declared.face.Face.{Face}
use Rattle.contig.specs.declared.face.Face.TheVariants.{Triangle, Square, Pentagon}
use Rattle.contig.specs.Faces.{SparedFace, is_pair, has_side, IsRing, OwnsSide, own_ring, spare_ring}
use Rattle.contig.specs.Listed.{listed, side, own_side}
use Rattle.contig.specs.Rings.{ring_of, spare_by, face_by, face_of, goes_round, differ, follow}

-- inequality is symmetric
swapped : (a b : ℕ) → (a == b) ≡ false → (b == a) ≡ false
swapped a b h = go (b == a) refl
  where
    go : (c : Bool) → (b == a) ≡ c → c ≡ false
    go true e = absurd (both_ways (a == b) h (subst (λ k. (a == k) ≡ true) (sym (eqb-true b a e)) (eq-eqb a a refl)))
    go false e = refl

-- a pair of adjacent units is adjacent in either order
pair_near : (g : Graph) (a b x y : ℕ) → IsSimple g → adjacent g a b ≡ true → is_pair a b x y ≡ true → adjacent g x y ≡ true
pair_near g a b x y simple near h = elim (pair_is a b x y h) [
  | inl e ↦ subst (λ k. adjacent g x k ≡ true) e.1 (subst (λ k. adjacent g k b ≡ true) e.0 near)
  | inr e ↦ subst (λ k. adjacent g x k ≡ true) e.0 (subst (λ k. adjacent g k a ≡ true) e.1 (simple.symmetric b a ∙ near))
]

-- a face that passes the test is a ring
pub goes_round_ring : (g : Graph) (face : Face) → IsSimple g → goes_round g face ≡ true → IsRing g (ring_of face)
goes_round_ring g (Triangle a b c) simple h =
    let h1 = and_parts (nat_lt a g.units) _ h in
    let h2 = and_parts (nat_lt b g.units) _ h1.1 in
    let h3 = and_parts (nat_lt c g.units) _ h2.1 in
    let h4 = and_parts (not (a == b)) _ h3.1 in
    let h5 = and_parts (not (a == c)) _ h4.1 in
    let h6 = and_parts (not (b == c)) _ h5.1 in
    let h7 = and_parts (adjacent g a b) _ h6.1 in
    let h8 = and_parts (adjacent g b c) (adjacent g c a) h7.1 in
    record {
      size = (omega arith, omega arith);
      apart = (
        or_from (b == a) (c == a || false) (swapped a b (not-true (a == b) h4.0)) (or_from (c == a) false (swapped a c (not-true (a == c) h5.0)) refl),
        (or_from (c == b) false (swapped b c (not-true (b == c) h6.0)) refl, (refl, tt)),
      );
      below = λ v m. elim (or_cases (a == v) ((b == v) || ((c == v) || false)) m) [
        | inl e ↦ subst (λ k. k < g.units) (eqb-true a v e) (ltb-true a g.units h1.0)
        | inr m' ↦ elim (or_cases (b == v) ((c == v) || false) m') [
          | inl e ↦ subst (λ k. k < g.units) (eqb-true b v e) (ltb-true b g.units h2.0)
          | inr n ↦ elim (or_cases (c == v) false n) [
            | inl e ↦ subst (λ k. k < g.units) (eqb-true c v e) (ltb-true c g.units h3.0)
            | inr z ↦ absurd (false≢true z)
          ]
        ]
      ];
      sides = λ x y s. elim (or_cases (is_pair a b x y || is_pair b c x y) (is_pair c a x y) s) [
        | inl e ↦ elim (or_cases (is_pair a b x y) (is_pair b c x y) e) [
          | inl f ↦ pair_near g a b x y simple h7.0 f
          | inr f ↦ pair_near g b c x y simple h8.0 f
        ]
        | inr f ↦ pair_near g c a x y simple h8.1 f
      ];
    }
goes_round_ring g (Square a b c d) simple h =
    let h1 = and_parts (nat_lt a g.units) _ h in
    let h2 = and_parts (nat_lt b g.units) _ h1.1 in
    let h3 = and_parts (nat_lt c g.units) _ h2.1 in
    let h4 = and_parts (nat_lt d g.units) _ h3.1 in
    let ab = and_parts (not (a == b)) _ h4.1 in
    let ac = and_parts (not (a == c)) _ ab.1 in
    let ad = and_parts (not (a == d)) _ ac.1 in
    let bc = and_parts (not (b == c)) _ ad.1 in
    let bd = and_parts (not (b == d)) _ bc.1 in
    let cd = and_parts (not (c == d)) _ bd.1 in
    let n1 = and_parts (adjacent g a b) _ cd.1 in
    let n2 = and_parts (adjacent g b c) _ n1.1 in
    let n3 = and_parts (adjacent g c d) (adjacent g d a) n2.1 in
    record {
      size = (omega arith, omega arith);
      apart = (
        or_from (b == a) (c == a || (d == a || false)) (swapped a b (not-true (a == b) ab.0))
            (or_from (c == a) (d == a || false) (swapped a c (not-true (a == c) ac.0)) (or_from (d == a) false (swapped a d (not-true (a == d) ad.0)) refl)),
        (
          or_from (c == b) (d == b || false) (swapped b c (not-true (b == c) bc.0)) (or_from (d == b) false (swapped b d (not-true (b == d) bd.0)) refl),
          (or_from (d == c) false (swapped c d (not-true (c == d) cd.0)) refl, (refl, tt)),
        ),
      );
      below = λ v m. elim (or_cases (a == v) ((b == v) || ((c == v) || ((d == v) || false))) m) [
        | inl e ↦ subst (λ k. k < g.units) (eqb-true a v e) (ltb-true a g.units h1.0)
        | inr m' ↦ elim (or_cases (b == v) ((c == v) || ((d == v) || false)) m') [
          | inl e ↦ subst (λ k. k < g.units) (eqb-true b v e) (ltb-true b g.units h2.0)
          | inr n ↦ elim (or_cases (c == v) ((d == v) || false) n) [
            | inl e ↦ subst (λ k. k < g.units) (eqb-true c v e) (ltb-true c g.units h3.0)
            | inr n' ↦ elim (or_cases (d == v) false n') [
              | inl e ↦ subst (λ k. k < g.units) (eqb-true d v e) (ltb-true d g.units h4.0)
              | inr z ↦ absurd (false≢true z)
            ]
          ]
        ]
      ];
      sides = λ x y s. elim (or_cases (is_pair a b x y || is_pair b c x y || is_pair c d x y) (is_pair d a x y) s) [
        | inl e ↦ elim (or_cases (is_pair a b x y || is_pair b c x y) (is_pair c d x y) e) [
          | inl e' ↦ elim (or_cases (is_pair a b x y) (is_pair b c x y) e') [
            | inl f ↦ pair_near g a b x y simple n1.0 f
            | inr f ↦ pair_near g b c x y simple n2.0 f
          ]
          | inr f ↦ pair_near g c d x y simple n3.0 f
        ]
        | inr f ↦ pair_near g d a x y simple n3.1 f
      ];
    }
goes_round_ring g (Pentagon a b c d e) simple h =
    let h1 = and_parts (nat_lt a g.units) _ h in
    let h2 = and_parts (nat_lt b g.units) _ h1.1 in
    let h3 = and_parts (nat_lt c g.units) _ h2.1 in
    let h4 = and_parts (nat_lt d g.units) _ h3.1 in
    let h5 = and_parts (nat_lt e g.units) _ h4.1 in
    let m = and_parts (differ a b c d e) (follow g a b c d e) h5.1 in
    let ab = and_parts (not (a == b)) _ m.0 in
    let ac = and_parts (not (a == c)) _ ab.1 in
    let ad = and_parts (not (a == d)) _ ac.1 in
    let ae = and_parts (not (a == e)) _ ad.1 in
    let bc = and_parts (not (b == c)) _ ae.1 in
    let bd = and_parts (not (b == d)) _ bc.1 in
    let be = and_parts (not (b == e)) _ bd.1 in
    let cd = and_parts (not (c == d)) _ be.1 in
    let ce = and_parts (not (c == e)) (not (d == e)) cd.1 in
    let n1 = and_parts (adjacent g a b) _ m.1 in
    let n2 = and_parts (adjacent g b c) _ n1.1 in
    let n3 = and_parts (adjacent g c d) _ n2.1 in
    let n4 = and_parts (adjacent g d e) (adjacent g e a) n3.1 in
    record {
      size = (omega arith, omega arith);
      apart = (
        (or_from (b == a) (has (c ∷ d ∷ e ∷ []) a) (swapped a b (not-true (a == b) ab.0)) (or_from (c == a) (has (d ∷ e ∷ []) a) (swapped a c (not-true (a == c) ac.0)) (or_from (d == a) (has (e ∷ []) a) (swapped a d (not-true (a == d) ad.0)) (or_from (e == a) (false) (swapped a e (not-true (a == e) ae.0)) refl)))),
        (
          (or_from (c == b) (has (d ∷ e ∷ []) b) (swapped b c (not-true (b == c) bc.0)) (or_from (d == b) (has (e ∷ []) b) (swapped b d (not-true (b == d) bd.0)) (or_from (e == b) (false) (swapped b e (not-true (b == e) be.0)) refl))),
          (
            (or_from (d == c) (has (e ∷ []) c) (swapped c d (not-true (c == d) cd.0)) (or_from (e == c) (false) (swapped c e (not-true (c == e) ce.0)) refl)),
            ((or_from (e == d) (false) (swapped d e (not-true (d == e) ce.1)) refl), (refl, tt)),
          ),
        ),
      );
      below = λ v m. unit_of_five (v < g.units) a b c d e v
          (λ k. subst (λ t. t < g.units) k (ltb-true a g.units h1.0))
          (λ k. subst (λ t. t < g.units) k (ltb-true b g.units h2.0))
          (λ k. subst (λ t. t < g.units) k (ltb-true c g.units h3.0))
          (λ k. subst (λ t. t < g.units) k (ltb-true d g.units h4.0))
          (λ k. subst (λ t. t < g.units) k (ltb-true e g.units h5.0))
          m;
      sides = λ x y s. by_five (adjacent g x y ≡ true) (is_pair a b x y) (is_pair b c x y) (is_pair c d x y) (is_pair d e x y) (is_pair e a x y)
          (λ k. pair_near g a b x y simple n1.0 k)
          (λ k. pair_near g b c x y simple n2.0 k)
          (λ k. pair_near g c d x y simple n3.0 k)
          (λ k. pair_near g d e x y simple n4.0 k)
          (λ k. pair_near g e a x y simple n4.1 k)
          s;
    }

-- ---- sides

-- the side of two units does not depend on their order
side_turned : (x y : ℕ) → side x y ≡ side y x
side_turned x y = elim (cases_order x y) [
  | inl e ↦ subst (λ k. side x k ≡ side k x) e refl
  | inr o ↦ elim o [
    | inl l ↦ cond-true {A = ℕ × ℕ} (nat_lt x y) (x, y) (y, x) (lt-ltb x y l)
        ∙ sym (cond-false {A = ℕ × ℕ} (nat_lt y x) (y, x) (x, y) (le-ltb y x (omega (arith, l))))
    | inr l ↦ cond-false {A = ℕ × ℕ} (nat_lt x y) (x, y) (y, x) (le-ltb x y (omega (arith, l)))
        ∙ sym (cond-true {A = ℕ × ℕ} (nat_lt y x) (y, x) (x, y) (lt-ltb y x l))
  ]
]

-- pairs of the two units have one side
pub pair_side : (a b x y : ℕ) → is_pair a b x y ≡ true → side a b ≡ side x y
pair_side a b x y h = elim (pair_is a b x y h) [
  | inl e ↦ ap (λ k. side k b) e.0 ∙ ap (λ k. side x k) e.1
  | inr e ↦ ap (λ k. side k b) e.0 ∙ ap (λ k. side y k) e.1 ∙ side_turned y x
]

-- a test that passes the sides of a triangle passes each of its pairs
pub triangle_sides : (test : ℕ × ℕ → Bool) (a b c : ℕ) → test (side a b) ≡ true → test (side b c) ≡ true → test (side c a) ≡ true
    → (x y : ℕ) → has_side (a ∷ b ∷ c ∷ []) x y ≡ true → test (side x y) ≡ true
triangle_sides test a b c ab bc ca x y h = elim (or_cases (is_pair a b x y || is_pair b c x y) (is_pair c a x y) h) [
  | inl e ↦ elim (or_cases (is_pair a b x y) (is_pair b c x y) e) [
    | inl f ↦ subst (λ k. test k ≡ true) (pair_side a b x y f) ab
    | inr f ↦ subst (λ k. test k ≡ true) (pair_side b c x y f) bc
  ]
  | inr f ↦ subst (λ k. test k ≡ true) (pair_side c a x y f) ca
]

-- a test that passes the sides of a square passes each of its pairs
pub square_sides : (test : ℕ × ℕ → Bool) (a b c d : ℕ) → test (side a b) ≡ true → test (side b c) ≡ true → test (side c d) ≡ true → test (side d a) ≡ true
    → (x y : ℕ) → has_side (a ∷ b ∷ c ∷ d ∷ []) x y ≡ true → test (side x y) ≡ true
square_sides test a b c d ab bc cd da x y h = elim (or_cases (is_pair a b x y || is_pair b c x y || is_pair c d x y) (is_pair d a x y) h) [
  | inl e ↦ elim (or_cases (is_pair a b x y || is_pair b c x y) (is_pair c d x y) e) [
    | inl e' ↦ elim (or_cases (is_pair a b x y) (is_pair b c x y) e') [
      | inl f ↦ subst (λ k. test k ≡ true) (pair_side a b x y f) ab
      | inr f ↦ subst (λ k. test k ≡ true) (pair_side b c x y f) bc
    ]
    | inr f ↦ subst (λ k. test k ≡ true) (pair_side c d x y f) cd
  ]
  | inr f ↦ subst (λ k. test k ≡ true) (pair_side d a x y f) da
]

-- a test that passes the sides of a pentagon passes each of its pairs
pub pentagon_sides : (test : ℕ × ℕ → Bool) (a b c d e : ℕ) → test (side a b) ≡ true → test (side b c) ≡ true → test (side c d) ≡ true → test (side d e) ≡ true → test (side e a) ≡ true
    → (x y : ℕ) → has_side (a ∷ b ∷ c ∷ d ∷ e ∷ []) x y ≡ true → test (side x y) ≡ true
pentagon_sides test a b c d e ab bc cd de ea x y h =
    by_five (test (side x y) ≡ true) (is_pair a b x y) (is_pair b c x y) (is_pair c d x y) (is_pair d e x y) (is_pair e a x y)
    (λ k. subst (λ t. test t ≡ true) (pair_side a b x y k) ab)
    (λ k. subst (λ t. test t ≡ true) (pair_side b c x y k) bc)
    (λ k. subst (λ t. test t ≡ true) (pair_side c d x y k) cd)
    (λ k. subst (λ t. test t ≡ true) (pair_side d e x y k) de)
    (λ k. subst (λ t. test t ≡ true) (pair_side e a x y k) ea)
    h

-- ---- one more face

-- one more candidate puts its face first
pub listed_push : (candidates : List Candidate) (candidate : Candidate) → listed (candidates ++ candidate ∷ []) ≡ face_of candidate ∷ listed candidates
listed_push [] candidate = refl
listed_push (first ∷ candidates) candidate = ap (λ (l : List SparedFace). l ++ face_of first ∷ []) (listed_push candidates candidate)

-- the ring of a candidate's face
pub own_is : (ring : Face) (spare : Option ℕ) → own_ring (face_by ring spare) ≡ ring_of ring
own_is (Triangle a b c) (Some d) = refl
own_is (Triangle a b c) None = refl
own_is (Square a b c d) spare = refl
own_is (Pentagon a b c d e) spare = refl

-- the spare ring of a candidate's face
pub spare_is : (ring : Face) (spare : Option ℕ) → spare_ring (face_by ring spare) ≡ ring_of (spare_by ring spare)
spare_is (Triangle a b c) (Some d) = refl
spare_is (Triangle a b c) None = refl
spare_is (Square a b c d) spare = refl
spare_is (Pentagon a b c d e) spare = refl

-- without a spare, the spare ring is the ring
pub bare_spare : (ring : Face) (spare : Option ℕ) → is_some spare ≡ false → spare_by ring spare ≡ ring
bare_spare (Triangle a b c) (Some d) none = absurd (both_ways true none refl)
bare_spare (Triangle a b c) None none = refl
bare_spare (Square a b c d) spare none = refl
bare_spare (Pentagon a b c d e) spare none = refl

-- a face whose own side is not in the set owns it
pub owns : (faces : List (List ℕ)) (there : ℕ × ℕ → Bool) (face : Face) → ((x y : ℕ) → list_any (λ f. has_side f x y) faces ≡ true → there (side x y) ≡ true)
    → there (own_side face) ≡ false → OwnsSide (ring_of face) faces
owns faces there (Triangle a b c) holds new = false_from_ne_true (list_any (λ f. has_side f a b) faces) (λ h. both_ways (there (side a b)) new (holds a b h))
owns faces there (Square a b c d) holds new = false_from_ne_true (list_any (λ f. has_side f a b) faces) (λ h. both_ways (there (side a b)) new (holds a b h))
owns faces there (Pentagon a b c d e) holds new = false_from_ne_true (list_any (λ f. has_side f a b) faces) (λ h. both_ways (there (side a b)) new (holds a b h))
