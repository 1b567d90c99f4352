-- Mates that are linked through faces have paths around the unit.
use Rattle.std.proofs.Common.{◌≡◌, ℕ, ◌+◌, ◌<◌, ◌≤◌, Bool, true, false, cond, not, ◌&&◌, List, [], ◌∷◌, ◌++◌, refl, sym, ap, ◌∙◌, subst, inl, inr, arith}
use Rattle.std.specs.Prelude.{◌==◌, slice_index}
use Rattle.std.specs.List.{list_all}
use Rattle.std.proofs.lemmas.Bool.{and_parts, and_from, or_cases, or_left, or_right, cases_Bool, cond-true, cond-false, eq-eqb, both_ways, not-true}
use Rattle.audit_model.specs.Below.{filter_below}
use Rattle.audit_model.specs.Graph.{Graph, has, adjacent, IsIn}
use Rattle.audit_model.specs.Local.{IsSimple, is_mate, MayLeave}
use Rattle.audit_model.specs.Path.{IsPath, HasPath, IsConnected, reached}
use Rattle.audit_model.specs.District.{in_district}
use Rattle.audit_model.proofs.Connected.{has-filter_below, filter_below-has, path_more, reached_has_path, path_is_reached}
use Rattle.audit_model.proofs.Below.{get_or-map_below}
use Rattle.audit_model.proofs.Paths.{first_in}
use Rattle.audit_model.proofs.Every.{each_from_all}
use Rattle.contig.proofs.Parting.{district_parts}
use Rattle.contig.proofs.Rings.{side_in, side_turned}
use Rattle.contig.specs.Faces.{has_side, IsRing, IsCycle, AreRings, AreCycles, share_face, IsClassing, count_units, count_inner_edges, count_inner_faces, link_graph, AreLinkedBy}

-- ---- links

-- sharing a face means sharing some ring of the list
share_some : (Is : List ℕ → Type 0) (Are : List (List ℕ) → Type 0) → ((face : List ℕ) (later : List (List ℕ)) → Are (face ∷ later) → Is face × Are later)
    → (inside : ℕ → Bool) (u p q : ℕ) (faces : List (List ℕ)) → Are faces → share_face faces inside u p q ≡ true
    → (ring : List ℕ) × Is ring × (list_all inside ring ≡ true) × (has_side ring u p ≡ true) × (has_side ring u q ≡ true)
share_some Is Are split inside u p q [] are h = absurd (both_ways false refl h)
share_some Is Are split inside u p q (face ∷ later) are h =
    elim (or_cases (list_all inside face && (has_side face u p && has_side face u q)) (share_face later inside u p q) h) [
      | inl e ↦
          let first = and_parts (list_all inside face) (has_side face u p && has_side face u q) e in
          let both = and_parts (has_side face u p) (has_side face u q) first.1 in
          (face, (split face later are).0, first.0, both.0, both.1)
      | inr e ↦ share_some Is Are split inside u p q later (split face later are).1 e
    ]

-- sharing a cycle of the list
pub share_ring : (g : Graph) (inside : ℕ → Bool) (u p q : ℕ) (faces : List (List ℕ)) → AreCycles g faces → share_face faces inside u p q ≡ true
    → (ring : List ℕ) × IsCycle g ring × (list_all inside ring ≡ true) × (has_side ring u p ≡ true) × (has_side ring u q ≡ true)
share_ring g = share_some (IsCycle g) (AreCycles g) (λ face later are. (are.0, are.2))

-- sharing a ring of three to five units
pub share_short_ring : (g : Graph) (inside : ℕ → Bool) (u p q : ℕ) (faces : List (List ℕ)) → AreRings g faces → share_face faces inside u p q ≡ true
    → (ring : List ℕ) × IsRing g ring × (list_all inside ring ≡ true) × (has_side ring u p ≡ true) × (has_side ring u q ≡ true)
share_short_ring g = share_some (IsRing g) (AreRings g) (λ face later are. (are.0, are.2))

-- sharing a face is symmetric
pub share_turned : (inside : ℕ → Bool) (u p q : ℕ) (faces : List (List ℕ)) → share_face faces inside u p q ≡ true → share_face faces inside u q p ≡ true
share_turned inside u p q [] h = absurd (both_ways false refl h)
share_turned inside u p q (face ∷ later) h =
    elim (or_cases (list_all inside face && (has_side face u p && has_side face u q)) (share_face later inside u p q) h) [
      | inl e ↦
          let first = and_parts (list_all inside face) (has_side face u p && has_side face u q) e in
          let both = and_parts (has_side face u p) (has_side face u q) first.1 in
          or_left (list_all inside face && (has_side face u q && has_side face u p)) (share_face later inside u q p)
          (and_from (list_all inside face) (has_side face u q && has_side face u p) first.0 (and_from (has_side face u q) (has_side face u p) both.1 both.0))
      | inr e ↦ or_right (list_all inside face && (has_side face u q && has_side face u p)) (share_face later inside u q p) (share_turned inside u p q later e)
    ]

module _ (g : Graph) (faces : List (List ℕ)) (inside : ℕ → Bool) (u : ℕ) where
  row_is : (v w : ℕ) → v < g.units → adjacent (link_graph g faces inside u) v w ≡ has (filter_below g.units (λ w. share_face faces inside u v w)) w
  row_is v w l = ap (λ row. has row w) (get_or-map_below g.units (λ v. filter_below g.units (λ w. share_face faces inside u v w)) v [] l)

  pub link_near : (v w : ℕ) → v < g.units → w < g.units → share_face faces inside u v w ≡ true → adjacent (link_graph g faces inside u) v w ≡ true
  link_near v w lv lw h = row_is v w lv ∙ filter_below-has g.units (λ w. share_face faces inside u v w) w lw h

  pub near_link : (v w : ℕ) → v < g.units → adjacent (link_graph g faces inside u) v w ≡ true → share_face faces inside u v w ≡ true
  near_link v w lv h = (has-filter_below g.units (λ w. share_face faces inside u v w) w (sym (row_is v w lv) ∙ h)).1

-- ---- without holes, the mates of a unit that may leave are linked

module _ (g : Graph) (faces : List (List ℕ)) (plan : List ℕ) (u : ℕ) (simple : IsSimple g) (are : AreCycles g faces) where
  district : ℕ → Bool
  district = in_district plan (slice_index plan u)

  -- units that share a face at u are mates of u
  pub shares_mate : (p q : ℕ) → share_face faces (in_district plan (slice_index plan u)) u p q ≡ true → IsIn g (is_mate g plan u) p
  shares_mate p q h =
      let (ring, is_ring, inner, up, uq) = share_ring g (in_district plan (slice_index plan u)) u p q faces are h in
      let member = side_in ring p u (side_turned ring u p up) in (
        is_ring.below p member,
        and_from (adjacent g u p) (in_district plan (slice_index plan u) p) (is_ring.sides u p up)
            (each_from_all (in_district plan (slice_index plan u)) ring p inner member),
      )

  links : Graph
  links = link_graph g faces (in_district plan (slice_index plan u)) u

  module _ (x : ℕ) (ix : IsIn g (is_mate g plan u) x) where
    found : ℕ → Bool
    found v = has (reached (link_graph g faces (in_district plan (slice_index plan u)) u) (is_mate g plan u) x) v

    found_on : (p q : ℕ) → share_face faces (in_district plan (slice_index plan u)) u p q ≡ true → found p ≡ true → found q ≡ true
    unfolding found
    found_on p q h f =
        let ip = shares_mate p q h in
        let iq = shares_mate q p (share_turned (in_district plan (slice_index plan u)) u p q faces h) in
        let path = reached_has_path (link_graph g faces (in_district plan (slice_index plan u)) u) (is_mate g plan u) x p f in
        path_is_reached (link_graph g faces (in_district plan (slice_index plan u)) u) (is_mate g plan u) x q ix (
          path.0 ++ q ∷ [],
          path_more (link_graph g faces (in_district plan (slice_index plan u)) u) (is_mate g plan u) path.0 x p q path.1 iq
              (link_near g faces (in_district plan (slice_index plan u)) u p q ip.0 iq.0 h),
        )

    class : ℕ → ℕ
    class v = cond (found v) 1 0

    classing : IsClassing faces (in_district plan (slice_index plan u)) u class
    unfolding class
    classing p q h = elim (cases_Bool (found p)) [
      | inl e ↦ cond-true {A = ℕ} (found p) 1 0 e ∙ sym (cond-true {A = ℕ} (found q) 1 0 (found_on p q h e))
      | inr e ↦ elim (cases_Bool (found q)) [
        | inr f ↦ cond-false {A = ℕ} (found p) 1 0 e ∙ sym (cond-false {A = ℕ} (found q) 1 0 f)
        | inl f ↦ absurd (both_ways (found p) e (found_on q p (share_turned (in_district plan (slice_index plan u)) u p q faces h) f))
      ]
    ]

    found_first : found x ≡ true
    unfolding found
    found_first = path_is_reached (link_graph g faces (in_district plan (slice_index plan u)) u) (is_mate g plan u) x x ix (x ∷ [], (refl, refl, ix))

    class_differs : (y : ℕ) → found y ≡ false → class x ≡ class y → ⊥
    unfolding class
    class_differs y f e =
        let one : class x ≡ 1 = cond-true {A = ℕ} (found x) 1 0 found_first in
        let none : class y ≡ 0 = cond-false {A = ℕ} (found y) 1 0 f in
        omega (arith, one, none, e)

    found_path : (y : ℕ) → found y ≡ true → HasPath (link_graph g faces (in_district plan (slice_index plan u)) u) (is_mate g plan u) x y
    unfolding found
    found_path y f = reached_has_path (link_graph g faces (in_district plan (slice_index plan u)) u) (is_mate g plan u) x y f

  -- a path that continues from u continues to a mate
  first_mate : (units : List ℕ) (w : ℕ) → IsPath g (in_district plan (slice_index plan u)) units u w → (w ≡ u → ⊥) → (v : ℕ) × IsIn g (is_mate g plan u) v
  first_mate [] w p off = absurd p
  first_mate (t ∷ []) w p off = absurd (off (sym p.1 ∙ p.0))
  first_mate (t ∷ v ∷ rest) w p off =
      let i = first_in g (in_district plan (slice_index plan u)) v rest v w p.3 in
      (v, (i.0, and_from (adjacent g u v) (in_district plan (slice_index plan u) v) (subst (λ k. adjacent g k v ≡ true) p.0 p.2) i.1))

  pub leaving_is_linked : u < g.units → IsConnected g (in_district plan (slice_index plan u))
      → count_inner_edges g (in_district plan (slice_index plan u)) + 1
      ≤ count_units g (in_district plan (slice_index plan u)) + count_inner_faces (in_district plan (slice_index plan u)) faces
      → MayLeave g plan u → AreLinkedBy g faces plan u
  leaving_is_linked l connected holes leaves = record {
    inhabited =
        let w = leaves.inhabited.0 in
        let parts = and_parts (in_district plan (slice_index plan u) w) (not (w == u)) leaves.inhabited.1.1 in
        let path = connected.joined u w (l, eq-eqb (slice_index plan u) (slice_index plan u) refl) (leaves.inhabited.1.0, parts.0) in
        first_mate path.0 w path.1 (λ e. both_ways (w == u) (not-true (w == u) parts.1) (eq-eqb w u e));
    joined = λ x y ix iy. elim (cases_Bool (found x ix y)) [
      | inl f ↦ found_path x ix y f
      | inr f ↦ absurd (district_parts g faces plan u x y (class x ix) simple are l connected holes (classing x ix) ix iy (class_differs x ix y f) leaves)
    ];
  }
