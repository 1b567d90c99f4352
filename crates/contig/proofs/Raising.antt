-- The change of district counts when a unit comes or goes.
use Rattle.std.proofs.Common.{◌≡◌, ℕ, zero, suc, ◌+◌, ◌-◌, ◌<◌, Bool, true, false, cond, not, ◌&&◌, List, [], ◌∷◌, length, get_or, set, replicate, refl, sym, ap, ◌∙◌, subst, inl, inr, arith, length-set, get_or-set_same, get_or-set_other}
use Rattle.std.specs.Prelude.{◌==◌, nat_lt, count_by}
use Rattle.std.specs.List.{list_all}
use Rattle.std.proofs.lemmas.Bool.{and_left, and_right, and_from, cases_eq, cases_lt, eq-eqb, ne_eqb, lt-ltb, ltb-true, not_from_true, not_from_false, false_from_ne_true}
use Rattle.audit_model.specs.Below.{count_below, sum_below}
use Rattle.audit_model.specs.Graph.{Graph, IsGraph, adjacent}
use Rattle.audit_model.specs.District.{in_district}
use Rattle.audit_model.proofs.Below.{count_below_none}
use Rattle.audit_model.proofs.Bools.{and_true}
use Rattle.contig.specs.Faces.{SparedFace, AreRings, own_rings, count_inner_edges, count_inner_faces, count_mates}
use Rattle.contig.specs.Corners.{is_filled, corners_at}
use Rattle.contig.specs.Counts.{Counted, AreCountsOf, AreSpareCounts, filled_by, is_before}
use Rattle.contig.proofs.Changing.{edges_alike, filled_alike, edges_more, filled_more}

-- the counts of edges, units and rings of these sets, one for each district
pub record AreRingCounts (g : Graph) (faces : List (List ℕ)) (insides : ℕ → ℕ → Bool) (districts : ℕ) (counted : Counted) : Type 0 where
  pub edge_places : length counted.edges ≡ districts
  pub filled_places : length counted.filled ≡ districts
  pub edges : (d : ℕ) → d < districts → get_or counted.edges d 0 ≡ count_inner_edges g (insides d)
  pub filled : (d : ℕ) → d < districts → get_or counted.filled d 0 ≡ filled_by g faces (insides d)

-- counts with the same numbers of edges, units and rings
pub counts_kept : (g : Graph) (faces : List (List ℕ)) (insides : ℕ → ℕ → Bool) (n : ℕ) (old new : Counted) → new.edges ≡ old.edges → new.filled ≡ old.filled
    → AreRingCounts g faces insides n old → AreRingCounts g faces insides n new
counts_kept g faces insides n old new edges filled s = record {
  edge_places = ap (length {A = ℕ}) edges ∙ s.edge_places;
  filled_places = ap (length {A = ℕ}) filled ∙ s.filled_places;
  edges = λ d l. ap (λ (t : List ℕ). get_or t d 0) edges ∙ s.edges d l;
  filled = λ d l. ap (λ (t : List ℕ). get_or t d 0) filled ∙ s.filled d l;
}

-- the counts of edges, units and rings among all counts
pub ring_counts : (g : Graph) (faces : List SparedFace) (insides : ℕ → ℕ → Bool) (n : ℕ) (counted : Counted) → AreCountsOf g faces insides n counted
    → AreRingCounts g (own_rings faces) insides n counted
ring_counts g faces insides n counted s = record { edge_places = s.edge_places; filled_places = s.filled_places; edges = s.edges; filled = s.filled }

-- the counts of active spares among all counts
pub spare_counts : (g : Graph) (faces : List SparedFace) (insides : ℕ → ℕ → Bool) (n : ℕ) (counted : Counted) → AreCountsOf g faces insides n counted
    → AreSpareCounts faces insides n counted.spared
spare_counts g faces insides n counted s = record { places = s.spared_places; active = s.spared }

-- all counts
pub all_counts : (g : Graph) (faces : List SparedFace) (insides : ℕ → ℕ → Bool) (n : ℕ) (counted : Counted) → AreRingCounts g (own_rings faces) insides n counted
    → AreSpareCounts faces insides n counted.spared → AreCountsOf g faces insides n counted
all_counts g faces insides n counted r s = record {
  edge_places = r.edge_places;
  filled_places = r.filled_places;
  spared_places = s.places;
  edges = r.edges;
  filled = r.filled;
  spared = s.active;
}

module _ (g : Graph) (sound : IsGraph g) (faces : List (List ℕ)) (are : AreRings g faces) where
  -- equal sets have equal counts
  pub counts_alike : (p q : ℕ → ℕ → Bool) (n : ℕ) (counted : Counted) → ((x v : ℕ) → v < g.units → p x v ≡ q x v) → AreRingCounts g faces p n counted → AreRingCounts g faces q n counted
  counts_alike p q n counted same s = record {
    edge_places = s.edge_places;
    filled_places = s.filled_places;
    edges = λ d l. s.edges d l ∙ edges_alike g (p d) (q d) (same d);
    filled = λ d l. s.filled d l ∙ filled_alike g (p d) (q d) (same d) faces are;
  }

  module _ (before after : ℕ → ℕ → Bool) (d u n mates corners : ℕ) (test : ℕ → Bool) (old : Counted) (lu : u < g.units) (ld : d < n)
      (others : (x v : ℕ) → v < g.units → ((x ≡ d) → (v ≡ u) → ⊥) → after x v ≡ before x v)
      (tests : (v : ℕ) → v < g.units → (v ≡ u → ⊥) → test v ≡ before d v)
      (are_mates : mates ≡ count_mates g test u) (are_corners : corners ≡ count_by (is_filled test) (corners_at u faces))
      (s : AreRingCounts g faces before n old) where
    elsewhere : (x : ℕ) → (x ≡ d → ⊥) → (v : ℕ) → v < g.units → before x v ≡ after x v
    elsewhere x off v l = sym (others x v l (λ e f. off e))

    module _ (there : after d u ≡ true) (absent : before d u ≡ false) where
      pub raised_edges : get_or old.edges d 0 + mates ≡ count_inner_edges g (after d)
      raised_edges =
          let more = edges_more g sound faces are (before d) (after d) test u lu there absent (λ v l off. others d v l (λ e f. off f)) tests in
          let was = s.edges d ld in
          omega (arith, more, was, are_mates)

      pub raised_filled : get_or old.filled d 0 + 1 + corners ≡ filled_by g faces (after d)
      raised_filled =
          let more = filled_more g sound faces are (before d) (after d) test u lu there absent (λ v l off. others d v l (λ e f. off f)) tests in
          let was = s.filled d ld in
          omega (arith, more, was, are_corners)

      -- a unit that comes
      pub raised : (new : Counted) → new.edges ≡ set old.edges d (get_or old.edges d 0 + mates) → new.filled ≡ set old.filled d (get_or old.filled d 0 + 1 + corners)
          → AreRingCounts g faces after n new
      raised new new_edges new_filled = record {
        edge_places = ap (length {A = ℕ}) new_edges ∙ length-set old.edges d (get_or old.edges d 0 + mates) ∙ s.edge_places;
        filled_places = ap (length {A = ℕ}) new_filled ∙ length-set old.filled d (get_or old.filled d 0 + 1 + corners) ∙ s.filled_places;
        edges = λ x l. ap (λ (t : List ℕ). get_or t x 0) new_edges ∙ elim (cases_eq x d) [
          | inl e ↦ subst (λ t. get_or (set old.edges d (get_or old.edges d 0 + mates)) t 0 ≡ count_inner_edges g (after t)) (sym e)
              (get_or-set_same old.edges d (get_or old.edges d 0 + mates) 0 (subst (λ t. d < t) (sym s.edge_places) ld) ∙ raised_edges)
          | inr off ↦ get_or-set_other old.edges d x (get_or old.edges d 0 + mates) 0 off ∙ s.edges x l ∙ edges_alike g (before x) (after x) (elsewhere x off)
        ];
        filled = λ x l. ap (λ (t : List ℕ). get_or t x 0) new_filled ∙ elim (cases_eq x d) [
          | inl e ↦ subst (λ t. get_or (set old.filled d (get_or old.filled d 0 + 1 + corners)) t 0 ≡ filled_by g faces (after t)) (sym e)
              (get_or-set_same old.filled d (get_or old.filled d 0 + 1 + corners) 0 (subst (λ t. d < t) (sym s.filled_places) ld) ∙ raised_filled)
          | inr off ↦ get_or-set_other old.filled d x (get_or old.filled d 0 + 1 + corners) 0 off ∙ s.filled x l ∙ filled_alike g (before x) (after x) (elsewhere x off) faces are
        ];
      }

    module _ (there : before d u ≡ true) (absent : after d u ≡ false) where
      less : (v : ℕ) → v < g.units → (v ≡ u → ⊥) → before d v ≡ after d v
      less v l off = sym (others d v l (λ e f. off f))

      tests_after : (v : ℕ) → v < g.units → (v ≡ u → ⊥) → test v ≡ after d v
      tests_after v l off = tests v l off ∙ less v l off

      pub lowered_edges : get_or old.edges d 0 ≡ count_inner_edges g (after d) + mates
      lowered_edges =
          let more = edges_more g sound faces are (after d) (before d) test u lu there absent less tests_after in
          let was = s.edges d ld in
          omega (arith, more, was, are_mates)

      pub lowered_filled : get_or old.filled d 0 ≡ filled_by g faces (after d) + 1 + corners
      lowered_filled =
          let more = filled_more g sound faces are (after d) (before d) test u lu there absent less tests_after in
          let was = s.filled d ld in
          omega (arith, more, was, are_corners)

      -- a unit that goes
      pub lowered : (new : Counted) → new.edges ≡ set old.edges d (get_or old.edges d 0 - mates) → new.filled ≡ set old.filled d (get_or old.filled d 0 - (1 + corners))
          → AreRingCounts g faces after n new
      lowered new new_edges new_filled = record {
        edge_places = ap (length {A = ℕ}) new_edges ∙ length-set old.edges d (get_or old.edges d 0 - mates) ∙ s.edge_places;
        filled_places = ap (length {A = ℕ}) new_filled ∙ length-set old.filled d (get_or old.filled d 0 - (1 + corners)) ∙ s.filled_places;
        edges = λ x l. ap (λ (t : List ℕ). get_or t x 0) new_edges ∙ elim (cases_eq x d) [
          | inl e ↦ subst (λ t. get_or (set old.edges d (get_or old.edges d 0 - mates)) t 0 ≡ count_inner_edges g (after t)) (sym e)
              (get_or-set_same old.edges d (get_or old.edges d 0 - mates) 0 (subst (λ t. d < t) (sym s.edge_places) ld) ∙ omega (arith, lowered_edges))
          | inr off ↦ get_or-set_other old.edges d x (get_or old.edges d 0 - mates) 0 off ∙ s.edges x l ∙ edges_alike g (before x) (after x) (elsewhere x off)
        ];
        filled = λ x l. ap (λ (t : List ℕ). get_or t x 0) new_filled ∙ elim (cases_eq x d) [
          | inl e ↦ subst (λ t. get_or (set old.filled d (get_or old.filled d 0 - (1 + corners))) t 0 ≡ filled_by g faces (after t)) (sym e)
              (get_or-set_same old.filled d (get_or old.filled d 0 - (1 + corners)) 0 (subst (λ t. d < t) (sym s.filled_places) ld) ∙ omega (arith, lowered_filled))
          | inr off ↦ get_or-set_other old.filled d x (get_or old.filled d 0 - (1 + corners)) 0 off ∙ s.filled x l ∙ filled_alike g (before x) (after x) (elsewhere x off) faces are
        ];
      }

  -- ---- from no unit to all

  none_inside : (p : ℕ → Bool) → ((v : ℕ) → p v ≡ false) → (faces : List (List ℕ)) → AreRings g faces → count_inner_faces p faces ≡ 0
  none_inside p none [] are = refl
  none_inside p none ([] ∷ later) are = absurd (omega (arith, are.0.size.0))
  none_inside p none ((v ∷ rest) ∷ later) are =
      let out : (p v && list_all p rest) ≡ false = and_left (p v) (list_all p rest) (none v) in
      omega (arith, none_inside p none later are.2, ap (λ b. cond {A = ℕ} b 1 0) out)

  sum_none : (n : ℕ) (f : ℕ → ℕ) → ((k : ℕ) → f k ≡ 0) → sum_below n f ≡ 0
  sum_none zero f none = refl
  sum_none (suc n) f none = omega (arith, sum_none n f none, none n)

  -- before the first unit
  pub none_counted : (p : ℕ → ℕ → Bool) (n : ℕ) (counted : Counted) → ((x v : ℕ) → p x v ≡ false) → length counted.edges ≡ n → length counted.filled ≡ n
      → ((d : ℕ) → get_or counted.edges d 0 ≡ 0) → ((d : ℕ) → get_or counted.filled d 0 ≡ 0) → AreRingCounts g faces p n counted
  none_counted p n counted none le lf ze zf = record {
    edge_places = le;
    filled_places = lf;
    edges = λ d l. ze d ∙ sym (sum_none g.units (λ w. count_below w (λ v. adjacent g v w && (p d v && p d w)))
        (λ w. count_below_none w (λ v. adjacent g v w && (p d v && p d w)) (λ v l. and_right (adjacent g v w) (p d v && p d w) (and_left (p d v) (p d w) (none d v)))));
    filled = λ d l. omega (arith, zf d, count_below_none g.units (p d) (λ k l. none d k), none_inside (p d) (none d) faces are);
  }

-- ---- the sets of a plan

-- no unit is before the first one
pub before_none : (plan : List ℕ) (x v : ℕ) → is_before plan 0 x v ≡ false
before_none plan x v = and_right (in_district plan x v) (nat_lt v 0) (false_from_ne_true (nat_lt v 0) (λ h. let l = ltb-true v 0 h in omega (arith, l)))

-- a unit below the end is counted exactly if it is in the district
pub before_all : (plan : List ℕ) (end x v : ℕ) → v < end → is_before plan end x v ≡ in_district plan x v
before_all plan end x v l = and_true (in_district plan x v) (nat_lt v end) (lt-ltb v end l)

-- a unit is counted in its own district, up to itself
pub before_here : (plan : List ℕ) (u : ℕ) → is_before plan (u + 1) (get_or plan u 0) u ≡ true
before_here plan u = and_from (in_district plan (get_or plan u 0) u) (nat_lt u (u + 1)) (eq-eqb (get_or plan u 0) (get_or plan u 0) refl) (lt-ltb u (u + 1) (omega arith))

-- a unit is not among those before it
pub before_itself : (plan : List ℕ) (u x : ℕ) → is_before plan u x u ≡ false
before_itself plan u x = and_right (in_district plan x u) (nat_lt u u) (false_from_ne_true (nat_lt u u) (λ h. let l = ltb-true u u h in omega (arith, l)))

-- a unit is in no other district than its own
other_district : (plan : List ℕ) (u x : ℕ) → (x ≡ get_or plan u 0 → ⊥) → in_district plan x u ≡ false
other_district plan u x off = ne_eqb (get_or plan u 0) x (λ e. off (sym e))

-- up to a unit, only the unit itself is added, in its own district
pub before_next : (plan : List ℕ) (u x v : ℕ) → ((x ≡ get_or plan u 0) → (v ≡ u) → ⊥) → is_before plan (u + 1) x v ≡ is_before plan u x v
before_next plan u x v other = elim (cases_eq v u) [
  | inl e ↦
      let out : in_district plan x v ≡ false = subst (λ t. in_district plan x t ≡ false) (sym e) (other_district plan u x (λ f. other f e)) in
      and_left (in_district plan x v) (nat_lt v (u + 1)) out ∙ sym (and_left (in_district plan x v) (nat_lt v u) out)
  | inr off ↦ elim (cases_lt v u) [
    | inl l ↦ before_all plan (u + 1) x v (omega (arith, l)) ∙ sym (before_all plan u x v l)
    | inr l ↦
        and_right (in_district plan x v) (nat_lt v (u + 1)) (false_from_ne_true (nat_lt v (u + 1)) (λ h. let k = ltb-true v (u + 1) h in omega (arith, k, l, off)))
        ∙ sym (and_right (in_district plan x v) (nat_lt v u) (false_from_ne_true (nat_lt v u) (λ h. let k = ltb-true v u h in omega (arith, k, l))))
  ]
]

-- ---- a move

-- the districts without the unit that moves
abbrev pub between : List ℕ → ℕ → ℕ → ℕ → Bool
between plan u x v = in_district plan x v && not (v == u)

-- during the move, the unit is in no district
pub between_itself : (plan : List ℕ) (u x : ℕ) → between plan u x u ≡ false
between_itself plan u x = and_right (in_district plan x u) (not (u == u)) (not_from_true (u == u) (eq-eqb u u refl))

-- during the move, each other unit is where it was
between_other : (plan : List ℕ) (u x v : ℕ) → (v ≡ u → ⊥) → between plan u x v ≡ in_district plan x v
between_other plan u x v off = and_true (in_district plan x v) (not (v == u)) (not_from_false (v == u) (ne_eqb v u off))

-- leaving a district changes only the unit's own place
pub left_out : (plan : List ℕ) (u x v : ℕ) → ((x ≡ get_or plan u 0) → (v ≡ u) → ⊥) → between plan u x v ≡ in_district plan x v
left_out plan u x v other = elim (cases_eq v u) [
  | inl e ↦
      let out : in_district plan x v ≡ false = subst (λ t. in_district plan x t ≡ false) (sym e) (other_district plan u x (λ f. other f e)) in
      and_left (in_district plan x v) (not (v == u)) out ∙ sym out
  | inr off ↦ between_other plan u x v off
]

-- joining a district changes only the unit's own place
pub put_in : (plan : List ℕ) (u d x v : ℕ) → u < length plan → ((x ≡ d) → (v ≡ u) → ⊥) → in_district (set plan u d) x v ≡ between plan u x v
put_in plan u d x v l other = elim (cases_eq v u) [
  | inl e ↦
      let at : get_or (set plan u d) v 0 ≡ d = subst (λ t. get_or (set plan u d) t 0 ≡ d) (sym e) (get_or-set_same plan u d 0 l) in
      ap (λ t. t == x) at ∙ ne_eqb d x (λ f. other (sym f) e) ∙ sym (subst (λ t. between plan u x t ≡ false) (sym e) (between_itself plan u x))
  | inr off ↦ ap (λ t. t == x) (get_or-set_other plan u v d 0 off) ∙ sym (between_other plan u x v off)
]

-- after the move, the unit is in its new district
pub put_there : (plan : List ℕ) (u d : ℕ) → u < length plan → in_district (set plan u d) d u ≡ true
put_there plan u d l = eq-eqb (get_or (set plan u d) u 0) d (get_or-set_same plan u d 0 l)

-- for each other unit, the tests agree
pub tests_between : (plan : List ℕ) (u x v : ℕ) → (v ≡ u → ⊥) → in_district plan x v ≡ between plan u x v
tests_between plan u x v off = sym (between_other plan u x v off)

-- each item of a list of zeros is zero
pub zeros_at : (n d : ℕ) → get_or (replicate {A = ℕ} n 0) d 0 ≡ 0
zeros_at zero d = refl
zeros_at (suc n) zero = refl
zeros_at (suc n) (suc d) = zeros_at n d
