-- The change of a set's counts with one unit.
use Rattle.std.proofs.Common.{◌≡◌, ℕ, zero, suc, ◌+◌, ◌<◌, ◌≤◌, Bool, true, false, cond, not, ◌&&◌, List, [], ◌∷◌, length, get_or, refl, sym, ap, ◌∙◌, subst, inl, inr, arith}
use Rattle.std.specs.Prelude.{◌==◌, All, count_by}
use Rattle.std.specs.List.{list_all}
use Rattle.std.proofs.lemmas.Bool.{and_left, and_right, or_right, cases_eq, eq-eqb, ne_eqb, not_from_true}
use Rattle.std.proofs.lemmas.List.Elements.{All-head, All-tail}
use Rattle.std.proofs.lemmas.List.Sums.{sum_by-cons}
use Rattle.audit_model.specs.Below.{count_below, sum_below}
use Rattle.audit_model.specs.Graph.{Graph, IsGraph, has, adjacent, count_edges}
use Rattle.audit_model.specs.Local.{IsSimple}
use Rattle.audit_model.proofs.Below.{count_below_same, count_below_le}
use Rattle.audit_model.proofs.ListFacts.{first_has}
use Rattle.audit_model.proofs.Rows.{counted_edges_le}
use Rattle.contig.specs.Faces.{AreRings, count_inner_edges, count_inner_faces, without_unit, count_mates}
use Rattle.contig.proofs.FaceCounting.{kept, units_with, edges_with, faces_with}
use Rattle.contig.specs.Corners.{is_filled, corners_at}
use Rattle.contig.specs.Counts.{filled_by}
use Rattle.contig.proofs.Seeing.{IsOther, AreOthers, corners_other, count_corners}

-- ---- equal sets

-- sets that agree on the units of a ring contain all of it, or neither does
pub all_alike : (p q : ℕ → Bool) (ring : List ℕ) → ((v : ℕ) → has ring v ≡ true → p v ≡ q v) → list_all p ring ≡ list_all q ring
all_alike p q [] same = refl
all_alike p q (v ∷ rest) same =
    ap (λ b. b && list_all p rest) (same v (first_has v rest))
    ∙ ap (λ b. q v && b) (all_alike p q rest (λ w h. same w (or_right (v == w) (has rest w) h)))

-- sets that agree on all units have equally many inner faces
faces_alike : (g : Graph) (p q : ℕ → Bool) (faces : List (List ℕ)) → AreRings g faces → ((v : ℕ) → v < g.units → p v ≡ q v) → count_inner_faces p faces ≡ count_inner_faces q faces
faces_alike g p q [] are same = refl
faces_alike g p q (face ∷ later) are same =
    let rest = faces_alike g p q later are.2 same in
    let one : cond {A = ℕ} (list_all p face) 1 0 ≡ cond (list_all q face) 1 0 =
    ap (λ b. cond {A = ℕ} b 1 0) (all_alike p q face (λ v h. same v (are.0.below v h))) in
    omega (arith, rest, one)

-- sums of equal terms are equal
sum_alike : (n m : ℕ) (f h : ℕ → ℕ) → n ≤ m → ((k : ℕ) → k < m → f k ≡ h k) → sum_below n f ≡ sum_below n h
sum_alike zero m f h l same = refl
sum_alike (suc n) m f h l same = omega (arith, sum_alike n m f h (omega (arith, l)) same, same n (omega (arith, l)))

module _ (g : Graph) (p q : ℕ → Bool) (same : (v : ℕ) → v < g.units → p v ≡ q v) where
  pub edges_alike : count_inner_edges g p ≡ count_inner_edges g q
  edges_alike = sum_alike g.units g.units (λ w. count_below w (λ v. adjacent g v w && (p v && p w))) (λ w. count_below w (λ v. adjacent g v w && (q v && q w))) (omega arith)
      (λ w l. count_below_same w (λ v. adjacent g v w && (p v && p w)) (λ v. adjacent g v w && (q v && q w))
      (λ v below. ap (λ b. adjacent g v w && (b && p w)) (same v (omega (arith, l, below))) ∙ ap (λ b. adjacent g v w && (q v && b)) (same w l)))

  pub filled_alike : (faces : List (List ℕ)) → AreRings g faces → filled_by g faces p ≡ filled_by g faces q
  filled_alike faces are = omega (arith, count_below_same g.units p q same, faces_alike g p q faces are same)

-- ---- one more unit

-- tests that agree on each corner count equally many
count_alike : (p q : ℕ × ℕ × ℕ × ℕ → Bool) (cs : List (ℕ × ℕ × ℕ × ℕ)) → All (λ t. p t ≡ q t) cs → count_by p cs ≡ count_by q cs
count_alike p q [] same = refl
count_alike p q (t ∷ rest) same =
    let first = sum_by-cons (λ c. cond {A = ℕ} (p c) 1 0) t rest in
    let other = sum_by-cons (λ c. cond {A = ℕ} (q c) 1 0) t rest in
    let one : cond {A = ℕ} (p t) 1 0 ≡ cond (q t) 1 0 = ap (λ b. cond {A = ℕ} b 1 0) (All-head (λ t. p t ≡ q t) t rest same) in
    let more = count_alike p q rest (All-tail (λ t. p t ≡ q t) t rest same) in
    omega (arith, first, other, one, more)

module _ (g : Graph) (sound : IsGraph g) (faces : List (List ℕ)) (are : AreRings g faces) (small large test : ℕ → Bool) (u : ℕ) (lu : u < g.units)
    (there : large u ≡ true) (absent : small u ≡ false) (more : (v : ℕ) → v < g.units → (v ≡ u → ⊥) → large v ≡ small v)
    (tests : (v : ℕ) → v < g.units → (v ≡ u → ⊥) → test v ≡ small v) where
  simple : IsSimple g
  simple = record { symmetric = sound.symmetric; loopless = sound.loopless }

  left : (v : ℕ) → v < g.units → without_unit large u v ≡ small v
  left v l = elim (cases_eq v u) [
    | inl e ↦ and_right (large v) (not (v == u)) (not_from_true (v == u) (eq-eqb v u e)) ∙ sym (ap small e ∙ absent)
    | inr off ↦ kept (large v) (v == u) (ne_eqb v u off) ∙ more v l off
  ]

  mates_alike : count_mates g large u ≡ count_mates g test u
  mates_alike = count_below_same g.units (λ v. adjacent g u v && large v) (λ v. adjacent g u v && test v) (λ v l. elim (cases_eq v u) [
    | inl e ↦
        let none : adjacent g u v ≡ false = subst (λ t. adjacent g u t ≡ false) (sym e) (sound.loopless u) in
        and_left (adjacent g u v) (large v) none ∙ sym (and_left (adjacent g u v) (test v) none)
    | inr off ↦ ap (λ b. adjacent g u v && b) (more v l off ∙ sym (tests v l off))
  ])

  pub edges_more : count_inner_edges g large ≡ count_inner_edges g small + count_mates g test u
  edges_more =
      let law = edges_with g simple large u there lu in
      let without = edges_alike g (without_unit large u) small left in
      omega (arith, law, without, mates_alike)

  same_filled : (t : ℕ × ℕ × ℕ × ℕ) → AreOthers g u t → is_filled large t ≡ is_filled test t
  same_filled t o =
      let at : (v : ℕ) → IsOther g u v → large v ≡ test v = λ v i. more v i.0 i.1 ∙ sym (tests v i.0 i.1) in
      ap (λ b. b && (large t.1 && (large t.2 && large t.3))) (at t.0 o.0) ∙ ap (λ b. test t.0 && (b && (large t.2 && large t.3))) (at t.1 o.1)
      ∙ ap (λ b. test t.0 && (test t.1 && (b && large t.3))) (at t.2 o.2) ∙ ap (λ b. test t.0 && (test t.1 && (test t.2 && b))) (at t.3 o.3)

  pub filled_more : filled_by g faces large ≡ filled_by g faces small + 1 + count_by (is_filled test) (corners_at u faces)
  filled_more =
      let units = units_with g large u (lu, there) in
      let law = faces_with large u faces in
      let at_u = count_corners large u there g faces are in
      let alike = count_alike (is_filled large) (is_filled test) (corners_at u faces)
      (λ k d l. same_filled (get_or (corners_at u faces) k d) (corners_other g u faces are k d l)) in
      let without = filled_alike g (without_unit large u) small left faces are in
      omega (arith, units, law, at_u, alike, without)

-- ---- bounds

-- a set has at most the graph's edges as inner edges
pub edges_few : (g : Graph) (inside : ℕ → Bool) → count_inner_edges g inside ≤ count_edges g (λ v w. true)
edges_few g inside = counted_edges_le g (λ v w. inside v && inside w) g.units (omega arith)

-- a set has at most all faces as inner faces
inner_few : (inside : ℕ → Bool) (faces : List (List ℕ)) → count_inner_faces inside faces ≤ length faces
inner_few inside [] = omega arith
inner_few inside (face ∷ later) = omega (arith, inner_few inside later, one (list_all inside face))
  where
    one : (b : Bool) → cond {A = ℕ} b 1 0 ≤ 1
    one true = omega arith
    one false = omega arith

-- the units and inner faces of a set are at most all units and faces
pub filled_few : (g : Graph) (inside : ℕ → Bool) (faces : List (List ℕ)) → filled_by g faces inside ≤ g.units + length faces
filled_few g inside faces = omega (arith, count_below_le g.units inside, inner_few inside faces)
