-- The indices of sides, and marks at them.
use Rattle.std.proofs.Common.{◌≡◌, ◌∷◌, ℕ, ◌+◌, ◌<◌, Bool, true, false, not, ◌&&◌, List, [], length, get_or, sym, ap, ◌∙◌, subst, inl, inr, arith}
use Rattle.std.specs.Prelude.{◌==◌, nat_lt, Option, Some, None}
use Rattle.std.specs.List.{list_any}
use Rattle.std.proofs.lemmas.Bool.{and_parts, or_cases, cases_Bool, cases_lt, eqb-false, not-true, cond-true, cond-false, lt-ltb, le-ltb}
use Rattle.audit_model.specs.Below.{sum_below}
use Rattle.audit_model.specs.Graph.{Graph, IsGraph, adjacent}
use Rattle.audit_model.specs.Length.{degree}
use Rattle.audit_model.proofs.Lengths.{sums_within}
use Rattle.contig.specs.declared.face.Face.{Face}
use Rattle.contig.specs.declared.face.Face.TheVariants.{Triangle, Square, Pentagon}
use Rattle.contig.specs.Faces.{SparedFace, WithoutSpare, WithSpare, has_side, IsRing, OwnsSide, AreFaces, AreClear, HasOtherUnit, own_ring, spare_ring, both_rings}
use Rattle.contig.specs.Listed.{side, first_pair, own_side, is_marked, AreListed}
use Rattle.contig.specs.Rings.{ring_of, fit_by, goes_round}
use Rattle.contig.proofs.Turning.{AllFit}
use Rattle.contig.proofs.Listing.{goes_round_ring, owns}

-- a property of two units in either order is one of their side
pub by_side : (P : ℕ → ℕ → Type 0) (x y : ℕ) → P x y → P y x → P (side x y).0 (side x y).1
by_side P x y one other = elim (cases_lt x y) [
  | inl l ↦ subst (λ (p : ℕ × ℕ). P p.0 p.1) (sym (cond-true {A = ℕ × ℕ} (nat_lt x y) (x, y) (y, x) (lt-ltb x y l))) one
  | inr l ↦ subst (λ (p : ℕ × ℕ). P p.0 p.1) (sym (cond-false {A = ℕ × ℕ} (nat_lt x y) (x, y) (y, x) (le-ltb x y l))) other
]

-- a place in the list of a unit's neighbors has an index
pub index_within : (g : Graph) (u k a : ℕ) (row : List ℕ) → u < g.units → row ≡ get_or g.neighbours u [] → k < length row → a ≡ sum_below u (degree g)
    → a + k < sum_below g.units (degree g)
index_within g u k a row lu is lk at =
    let all = sums_within g.units u (degree g) lu in
    let long : length row ≡ degree g u = ap length is in
    omega (arith, all, long, lk, at)

-- ---- rings

-- the first two units of a face that fits are adjacent units of the graph
pub first_near : (g : Graph) (face : Face) → AllFit g face
    → ((first_pair face).0 < g.units) × ((first_pair face).1 < g.units) × (adjacent g (first_pair face).0 (first_pair face).1 ≡ true)
first_near g (Triangle a b c) h = (h.0.units.0, h.1.units.0, h.0.near.0)
first_near g (Square a b c d) h = (h.0.units.0, h.1.units.0, h.0.near.0)
first_near g (Pentagon a b c d e) h = (h.0.units.0, h.1.units.0, h.0.near.0)

-- a face that passes the test is a ring
pub ring_passed : (g : Graph) (face : Face) → IsGraph g → goes_round g face ≡ true → IsRing g (ring_of face)
ring_passed g face sound round = goes_round_ring g face (record { symmetric = sound.symmetric; loopless = sound.loopless }) round

-- a ring whose own side is not marked is one more face
pub listed_more : (g : Graph) (long : List (List ℕ)) (faces new : List SparedFace) (face : SparedFace) (ring : Face) (marks after : List Bool) → AreListed g long faces marks
    → own_ring face ≡ ring_of ring → IsRing g (ring_of ring) → IsRing g (spare_ring face) → HasOtherUnit face
    → is_marked g marks (own_side ring) ≡ false → new ≡ face ∷ faces → length after ≡ length marks
    → ((q : ℕ × ℕ) → is_marked g marks q ≡ true → is_marked g after q ≡ true)
    → ((x y : ℕ) → has_side (ring_of ring) x y ≡ true → is_marked g after (side x y) ≡ true)
    → ((x y : ℕ) → has_side (spare_ring face) x y ≡ true → is_marked g after (side x y) ≡ true) → AreListed g long new after
listed_more g long faces new face ring marks after listed own is_ring is_spare differ fresh is width kept there there_spare = record {
  are = subst (AreFaces g) (sym is) (
    subst (IsRing g) (sym own) is_ring,
    is_spare,
    differ,
    subst (λ (r : List ℕ). OwnsSide r (both_rings faces)) (sym own) (owns (both_rings faces) (is_marked g marks) ring listed.marked fresh),
    listed.are,
  );
  clear = subst (λ (l : List SparedFace). AreClear l long) (sym is)
      (subst (λ (r : List ℕ). OwnsSide r long) (sym own) (owns long (is_marked g marks) ring listed.long_marked fresh), listed.clear);
  width = width ∙ listed.width;
  long_marked = λ x y h. kept (side x y) (listed.long_marked x y h);
  marked = λ x y h.
      let at : list_any (λ r. has_side r x y) (own_ring face ∷ spare_ring face ∷ both_rings faces) ≡ true =
      subst (λ (l : List SparedFace). list_any (λ r. has_side r x y) (both_rings l) ≡ true) is h in
      elim (or_cases (has_side (own_ring face) x y) (list_any (λ r. has_side r x y) (spare_ring face ∷ both_rings faces)) at) [
        | inl f ↦ there x y (subst (λ (r : List ℕ). has_side r x y ≡ true) own f)
        | inr more ↦ elim (or_cases (has_side (spare_ring face) x y) (list_any (λ r. has_side r x y) (both_rings faces)) more) [
          | inl f ↦ there_spare x y f
          | inr f ↦ kept (side x y) (listed.marked x y f)
        ]
      ];
}

-- ---- spares that fit

-- the spare ring of a fitting face is a ring, with another third unit
pub fit_spare : (g : Graph) (ring : Face) (spare : Option ℕ) → IsGraph g → IsRing g (ring_of ring) → IsRing g (spare_ring (fit_by g ring spare)) × HasOtherUnit (fit_by g ring spare)
fit_spare g (Triangle a b c) (Some d) sound is = elim (cases_Bool (not (c == d) && goes_round g (Triangle a b d))) [
  | inl e ↦
      let parts = and_parts (not (c == d)) (goes_round g (Triangle a b d)) e in
      subst (λ (face : SparedFace). IsRing g (spare_ring face) × HasOtherUnit face)
      (sym (cond-true {A = SparedFace} (not (c == d) && goes_round g (Triangle a b d)) (WithSpare a b c d) (WithoutSpare (a ∷ b ∷ c ∷ [])) e))
      (ring_passed g (Triangle a b d) sound parts.1, eqb-false c d (not-true (c == d) parts.0))
  | inr e ↦
      subst (λ (face : SparedFace). IsRing g (spare_ring face) × HasOtherUnit face)
      (sym (cond-false {A = SparedFace} (not (c == d) && goes_round g (Triangle a b d)) (WithSpare a b c d) (WithoutSpare (a ∷ b ∷ c ∷ [])) e)) (is, tt)
]
fit_spare g (Triangle a b c) None sound is = (is, tt)
fit_spare g (Square a b c d) spare sound is = (is, tt)
fit_spare g (Pentagon a b c d e) spare sound is = (is, tt)
