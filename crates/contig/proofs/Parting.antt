-- A unit of a set is split into two copies, one for the mates of one class. Labels equal along the edges differ at the
-- copies.
use Rattle.std.proofs.Common.{◌≡◌, ℕ, suc, ◌+◌, ◌<◌, ◌≤◌, Bool, true, false, cond, not, ◌&&◌, ◌||◌, List, [], ◌∷◌, refl, sym, ap, ◌∙◌, subst, inl, inr, arith}
use Rattle.std.specs.Prelude.{◌==◌, slice_index}
use Rattle.std.specs.List.{list_any, list_all}
use Rattle.std.proofs.lemmas.Bool.{and_parts, and_from, and_left, and_right, or_cases, or_left, or_right, or_parts, cases_Bool, cases_eq, cases_order, cond-true, cond-false, eq-eqb, eqb-true, ne_eqb, both_ways, not_from_false, not-true}
use Rattle.audit_model.specs.Below.{count_below}
use Rattle.audit_model.specs.Graph.{Graph, adjacent, count_edges, IsIn}
use Rattle.audit_model.specs.Local.{IsSimple, is_mate, stays_behind, MayLeave}
use Rattle.audit_model.specs.District.{in_district}
use Rattle.audit_model.specs.Path.{HasPath, IsConnected}
use Rattle.audit_model.proofs.Below.{count_below_more}
use Rattle.audit_model.proofs.Every.{each_from_all}
use Rattle.contig.proofs.Labels.{count_roots, edge_labels, edges_less, two_counted, path_same}
use Rattle.contig.proofs.Rings.{pair_same, pair_is, pair_turned, side_at, side_turned, side_in, own_side, round}
use Rattle.contig.specs.Faces.{is_pair, has_side, IsCycle, AreCycles, count_units, count_inner_edges, count_inner_faces, IsClassing}

module _ (g : Graph) (simple : IsSimple g) (inside : ℕ → Bool) (u : ℕ) (class : ℕ → ℕ) (x : ℕ) where
  -- the copy of v at its edge to w; u has two copies, and the second one is adjacent to mates of x's class
  copy : ℕ → ℕ → ℕ
  copy v w = cond ((v == u) && (class w == class x)) g.units v

  copy_off : (v w : ℕ) → (v ≡ u → ⊥) → copy v w ≡ v
  unfolding copy
  copy_off v w off = cond-false {A = ℕ} ((v == u) && (class w == class x)) g.units v (and_left (v == u) (class w == class x) (ne_eqb v u off))

  copy_second : (w : ℕ) → class w ≡ class x → copy u w ≡ g.units
  unfolding copy
  copy_second w e = cond-true {A = ℕ} ((u == u) && (class w == class x)) g.units u
      (and_from (u == u) (class w == class x) (eq-eqb u u refl) (eq-eqb (class w) (class x) e))

  copy_first : (w : ℕ) → (class w ≡ class x → ⊥) → copy u w ≡ u
  unfolding copy
  copy_first w off = cond-false {A = ℕ} ((u == u) && (class w == class x)) g.units u (and_right (u == u) (class w == class x) (ne_eqb (class w) (class x) off))

  copy_same : (v p q : ℕ) → (v ≡ u → class p ≡ class q) → copy v p ≡ copy v q
  unfolding copy
  copy_same v p q h = elim (cases_eq v u) [
    | inl e ↦ ap (λ k. cond ((v == u) && (k == class x)) g.units v) (h e)
    | inr off ↦ copy_off v p off ∙ sym (copy_off v q off)
  ]

  -- the units of the set, and the second copy of u
  doubled : ℕ → Bool
  doubled k = (k == g.units) || inside k

  count_doubled : count_below g.units inside + 1 ≤ count_below (suc g.units) doubled
  unfolding doubled count_below
  count_doubled = omega (
    arith,
    count_below_more g.units inside doubled (λ k h. or_right (k == g.units) (inside k) h),
    cond-true {A = ℕ} (doubled g.units) 1 0 (or_left (g.units == g.units) (inside g.units) (eq-eqb g.units g.units refl)),
  )

  -- the labels are equal along the edges that pass the test
  IsEven : (ℕ → ℕ) → (ℕ → ℕ → Bool) → Type 0
  IsEven label t = (v w : ℕ) → v < g.units → w < g.units → adjacent g v w ≡ true → t v w ≡ true → label (copy v w) ≡ label (copy w v)

  -- the sides of inner faces pass the test
  IsCovered : (ℕ → ℕ → Bool) → List (List ℕ) → Type 0
  IsCovered t [] = Unit {0}
  IsCovered t (face ∷ later) = (list_all inside face ≡ true → (v w : ℕ) → has_side face v w ≡ true → t v w ≡ true) × IsCovered t later

  IsMutual : (ℕ → ℕ → Bool) → Type 0
  IsMutual t = (v w : ℕ) → t v w ≡ true → t w v ≡ true

  Labelled : (ℕ → ℕ → Bool) → ℕ → Type 0
  Labelled t extra = (label : ℕ → ℕ) × IsEven label t × (count_below (suc g.units) doubled + extra ≤ count_roots (suc g.units) doubled label + count_edges g t)

  not_beside : (v w : ℕ) → adjacent g v w ≡ true → v ≡ w → ⊥
  not_beside v w near e = both_ways (adjacent g w w) (simple.loopless w) (subst (λ k. adjacent g k w ≡ true) e near)

  from_edges : (t : ℕ → ℕ → Bool) → IsMutual t → Labelled t 0
  unfolding IsEven IsMutual Labelled
  from_edges t mutual_t =
      let (label, same, roots) = edge_labels copy (suc g.units) doubled g.units (λ v w. adjacent g v w && t v w) in (
        label,
        λ v w lv lw near passes. elim (cases_order v w) [
          | inl e ↦ absurd (not_beside v w near e)
          | inr o ↦ elim o [
            | inl l ↦ same v w l lw (and_from (adjacent g v w) (t v w) near passes)
            | inr l ↦ sym (same w v l lv (and_from (adjacent g w v) (t w v) (simple.symmetric w v ∙ near) (mutual_t v w passes)))
          ]
        ],
        omega (arith, roots),
      )

  -- ---- a test without an edge

  without : (ℕ → ℕ → Bool) → ℕ → ℕ → ℕ → ℕ → Bool
  without t a b v w = t v w && not (is_pair a b v w)

  without_mutual : (t : ℕ → ℕ → Bool) (a b : ℕ) → IsMutual t → IsMutual (without t a b)
  unfolding IsMutual without
  without_mutual t a b mutual_t v w h =
      let parts = and_parts (t v w) (not (is_pair a b v w)) h in
      and_from (t w v) (not (is_pair a b w v)) (mutual_t v w parts.0) (not_from_false (is_pair a b w v) (missing (is_pair a b w v) refl (not-true (is_pair a b v w) parts.1)))
    where
      missing : (c : Bool) → is_pair a b w v ≡ c → is_pair a b v w ≡ false → c ≡ false
      missing true e f = absurd (both_ways (is_pair a b v w) f (pair_turned a b w v e))
      missing false e f = refl

  without_covered : (t : ℕ → ℕ → Bool) (a b : ℕ) (later : List (List ℕ)) → list_any (λ face. has_side face a b) later ≡ false
      → IsCovered t later → IsCovered (without t a b) later
  unfolding IsCovered without
  without_covered t a b [] own covered = tt
  without_covered t a b (face ∷ later) own covered = (
    λ inner v w h. and_from (t v w) (not (is_pair a b v w)) (covered.0 inner v w h) (not_from_false (is_pair a b v w) (missing v w h (is_pair a b v w) refl)),
    without_covered t a b later (or_parts (has_side face a b) (list_any (λ other. has_side other a b) later) own).1 covered.1,
  )
    where
      missing : (v w : ℕ) → has_side face v w ≡ true → (c : Bool) → is_pair a b v w ≡ c → c ≡ false
      missing v w h true e = absurd (both_ways (has_side face a b) (or_parts (has_side face a b) (list_any (λ other. has_side other a b) later) own).0 (side_at face a b v w e h))
      missing v w h false e = refl

  without_fewer : (t : ℕ → ℕ → Bool) (a b : ℕ) → IsMutual t → a < g.units → b < g.units → adjacent g a b ≡ true → t a b ≡ true
      → count_edges g (without t a b) + 1 ≤ count_edges g t
  unfolding IsMutual without
  without_fewer t a b mutual_t la lb near passes = elim (cases_order a b) [
    | inl e ↦ absurd (not_beside a b near e)
    | inr o ↦ elim o [
      | inl l ↦ edges_less g t (without t a b) a b l lb near passes (gone a b (pair_same a b)) weaker
      | inr l ↦ edges_less g t (without t a b) b a l la (simple.symmetric b a ∙ near) (mutual_t a b passes) (gone b a (pair_turned a b a b (pair_same a b))) weaker
    ]
  ]
    where
      gone : (v w : ℕ) → is_pair a b v w ≡ true → without t a b v w ≡ false
      gone v w h = and_right (t v w) (not (is_pair a b v w)) (ap not h)

      weaker : (v w : ℕ) → without t a b v w ≡ true → t v w ≡ true
      weaker v w h = (and_parts (t v w) (not (is_pair a b v w)) h).0

  -- ---- faces, one after another

  -- a label that is even without a face's own side is even with it
  with_own : (t : ℕ → ℕ → Bool) (a b : ℕ) (rest : List ℕ) (label : ℕ → ℕ) → IsCycle g (a ∷ b ∷ rest)
      → ((v w : ℕ) → has_side (a ∷ b ∷ rest) v w ≡ true → t v w ≡ true)
      → ((p q : ℕ) → has_side (a ∷ b ∷ rest) u p ≡ true → has_side (a ∷ b ∷ rest) u q ≡ true → class p ≡ class q)
      → IsEven label (without t a b) → IsEven label t
  unfolding IsEven without
  with_own t a b rest label ring passing classing even v w lv lw near passes = elim (cases_Bool (is_pair a b v w)) [
    | inr off ↦ even v w lv lw near (and_from (t v w) (not (is_pair a b v w)) passes (not_from_false (is_pair a b v w) off))
    | inl on ↦ elim (pair_is a b v w on) [
      | inl e ↦ subst (λ k. label (copy v k) ≡ label (copy k v)) e.1 (subst (λ k. label (copy k b) ≡ label (copy b k)) e.0 closed)
      | inr e ↦ subst (λ k. label (copy k w) ≡ label (copy w k)) e.1 (subst (λ k. label (copy b k) ≡ label (copy k b)) e.0 (sym closed))
    ]
  ]
    where
      below : (p q : ℕ) → has_side (a ∷ b ∷ rest) p q ≡ true → p < g.units
      below p q h = ring.below p (side_in (a ∷ b ∷ rest) p q h)

      closed : label (copy a b) ≡ label (copy b a)
      closed = round copy label a b rest ring.apart (own_side a b rest ring.size)
          (λ p q h off. even p q (below p q h) (below q p (side_turned (a ∷ b ∷ rest) p q h)) (ring.sides p q h)
          (and_from (t p q) (not (is_pair a b p q)) (passing p q h) (not_from_false (is_pair a b p q) off)))
          (λ k p q hp hq. copy_same k p q (λ e. classing p q (subst (λ m. has_side (a ∷ b ∷ rest) m p ≡ true) e hp) (subst (λ m. has_side (a ∷ b ∷ rest) m q ≡ true) e hq)))

  labels : (faces : List (List ℕ)) (t : ℕ → ℕ → Bool) → IsMutual t → AreCycles g faces → IsClassing faces inside u class → IsCovered t faces
      → Labelled t (count_inner_faces inside faces)
  unfolding Labelled IsCovered
  labels [] t mutual_t are classing covered = from_edges t mutual_t
  labels ([] ∷ later) t mutual_t are classing covered = absurd are.1
  labels ((a ∷ []) ∷ later) t mutual_t are classing covered = absurd are.1
  labels ((a ∷ b ∷ rest) ∷ later) t mutual_t are classing covered =
      elim (cases_Bool (list_all inside (a ∷ b ∷ rest))) [
        | inr outer ↦
            let (label, even, roots) = labels later t mutual_t are.2 after covered.1 in
            (label, even, omega (arith, roots, cond-false {A = ℕ} (list_all inside (a ∷ b ∷ rest)) 1 0 outer))
        | inl inner ↦
            let (label, even, roots) = labels later (without t a b) (without_mutual t a b mutual_t) are.2 after (without_covered t a b later are.1 covered.1) in
            let own : has_side (a ∷ b ∷ rest) a b ≡ true = own_side a b rest are.0.size in
            let fewer = without_fewer t a b mutual_t (are.0.below a (side_in (a ∷ b ∷ rest) a b own))
            (are.0.below b (side_in (a ∷ b ∷ rest) b a (side_turned (a ∷ b ∷ rest) a b own))) (are.0.sides a b own) (covered.0 inner a b own) in (
              label,
              with_own t a b rest label are.0 (covered.0 inner) (together inner) even,
              omega (arith, roots, fewer, cond-true {A = ℕ} (list_all inside (a ∷ b ∷ rest)) 1 0 inner),
            )
      ]
    where
      first : ℕ → ℕ → Bool
      first p q = list_all inside (a ∷ b ∷ rest) && (has_side (a ∷ b ∷ rest) u p && has_side (a ∷ b ∷ rest) u q)

      others : ℕ → ℕ → Bool
      others p q = list_any (λ face. list_all inside face && (has_side face u p && has_side face u q)) later

      after : IsClassing later inside u class
      after p q h = classing p q (or_right (first p q) (others p q) h)

      together : list_all inside (a ∷ b ∷ rest) ≡ true → (p q : ℕ) → has_side (a ∷ b ∷ rest) u p ≡ true → has_side (a ∷ b ∷ rest) u q ≡ true → class p ≡ class q
      together inner p q hp hq = classing p q (or_left (first p q) (others p q)
          (and_from (list_all inside (a ∷ b ∷ rest)) (has_side (a ∷ b ∷ rest) u p && has_side (a ∷ b ∷ rest) u q) inner
          (and_from (has_side (a ∷ b ∷ rest) u p) (has_side (a ∷ b ∷ rest) u q) hp hq)))

  -- ---- the set

  both_inside : ℕ → ℕ → Bool
  both_inside v w = inside v && inside w

  inside_mutual : IsMutual both_inside
  unfolding IsMutual both_inside
  inside_mutual v w h = let parts = and_parts (inside v) (inside w) h in and_from (inside w) (inside v) parts.1 parts.0

  inside_covered : (faces : List (List ℕ)) → IsCovered both_inside faces
  unfolding IsCovered both_inside
  inside_covered [] = tt
  inside_covered (face ∷ later) = (
    λ inner v w h. and_from (inside v) (inside w) (each_from_all inside face v inner (side_in face v w h))
        (each_from_all inside face w inner (side_in face w v (side_turned face v w h))),
    inside_covered later,
  )

  module _ (connected : IsConnected g inside) (in_set : IsIn g inside u) (label : ℕ → ℕ) (even : IsEven label both_inside) where
    -- if both copies have one label, so have all units
    all_one : label g.units ≡ label u → (k : ℕ) → k < suc g.units → doubled k ≡ true → label k ≡ label u
    unfolding IsEven both_inside doubled
    all_one same k l h = elim (cases_eq k g.units) [
      | inl e ↦ ap label e ∙ same
      | inr off ↦ elim (or_cases (k == g.units) (inside k) h) [
        | inl e ↦ absurd (off (eqb-true k g.units e))
        | inr i ↦ let path = connected.joined k u (omega (arith, l, off), i) in_set in path_same g inside label step path.0 k u path.1
      ]
    ]
      where
        plain : (v w : ℕ) → label (copy v w) ≡ label v
        plain v w = elim (cases_eq v u) [
          | inr off ↦ ap label (copy_off v w off)
          | inl e ↦ elim (cases_eq (class w) (class x)) [
            | inl second ↦ ap (λ m. label (copy m w)) e ∙ ap label (copy_second w second) ∙ same ∙ ap label (sym e)
            | inr first ↦ ap (λ m. label (copy m w)) e ∙ ap label (copy_first w first) ∙ ap label (sym e)
          ]
        ]

        step : (v w : ℕ) → IsIn g inside v → IsIn g inside w → adjacent g v w ≡ true → label v ≡ label w
        step v w iv iw near = sym (plain v w) ∙ even v w iv.0 iw.0 near (and_from (inside v) (inside w) iv.1 iw.1) ∙ plain w v

    -- if two mates of different classes have a path without u, both copies have one label
    path_joins : (y : ℕ) → IsIn g inside x → adjacent g u x ≡ true → IsIn g inside y → adjacent g u y ≡ true → (class x ≡ class y → ⊥)
        → HasPath g (λ v. inside v && not (v == u)) x y → label g.units ≡ label u
    unfolding IsEven both_inside
    path_joins y ix near_x iy near_y differ path =
        ap label (sym (copy_second x refl)) ∙ even u x in_set.0 ix.0 near_x (and_from (inside u) (inside x) in_set.1 ix.1)
        ∙ ap label (copy_off x u (λ e. not_beside u x near_x (sym e)))
        ∙ path_same g (λ v. inside v && not (v == u)) label step path.0 x y path.1
        ∙ ap label (sym (copy_off y u (λ e. not_beside u y near_y (sym e))))
        ∙ sym (even u y in_set.0 iy.0 near_y (and_from (inside u) (inside y) in_set.1 iy.1)) ∙ ap label (copy_first y (λ e. differ (sym e)))
      where
        off : (v : ℕ) → not (v == u) ≡ true → v ≡ u → ⊥
        off v h e = both_ways (v == u) (not-true (v == u) h) (eq-eqb v u e)

        step : (v w : ℕ) → IsIn g (λ v. inside v && not (v == u)) v → IsIn g (λ v. inside v && not (v == u)) w → adjacent g v w ≡ true → label v ≡ label w
        step v w iv iw near =
            let pv = and_parts (inside v) (not (v == u)) iv.1 in
            let pw = and_parts (inside w) (not (w == u)) iw.1 in
            ap label (sym (copy_off v w (off v pv.1))) ∙ even v w iv.0 iw.0 near (and_from (inside v) (inside w) pv.0 pw.0) ∙ ap label (copy_off w v (off w pw.1))

  pub classes_part : (faces : List (List ℕ)) → AreCycles g faces → IsConnected g inside → IsIn g inside u
      → count_inner_edges g inside + 1 ≤ count_units g inside + count_inner_faces inside faces → IsClassing faces inside u class
      → IsIn g inside x → adjacent g u x ≡ true → (y : ℕ) → IsIn g inside y → adjacent g u y ≡ true → (class x ≡ class y → ⊥)
      → HasPath g (λ v. inside v && not (v == u)) x y → ⊥
  unfolding Labelled both_inside
  classes_part faces are connected in_set holes classing ix near_x y iy near_y differ path =
      let (label, even, roots) = labels faces both_inside inside_mutual are classing (inside_covered faces) in
      let (j, k, lj, lk, own_j, own_k, apart) = two_counted (suc g.units) (λ k. doubled k && (label k == k)) (omega (arith, roots, count_doubled, holes)) in
      let same : label g.units ≡ label u = path_joins connected in_set label even y ix near_x iy near_y differ path in
      let parts_j = and_parts (doubled j) (label j == j) own_j in
      let parts_k = and_parts (doubled k) (label k == k) own_k in
      apart (sym (eqb-true (label j) j parts_j.1) ∙ all_one connected in_set label even same j lj parts_j.0
      ∙ sym (all_one connected in_set label even same k lk parts_k.0) ∙ eqb-true (label k) k parts_k.1)

-- two mates of different classes have no path in their district without u
pub district_parts : (g : Graph) (faces : List (List ℕ)) (plan : List ℕ) (u x y : ℕ) (class : ℕ → ℕ) → IsSimple g → AreCycles g faces → u < g.units
    → IsConnected g (in_district plan (slice_index plan u))
    → count_inner_edges g (in_district plan (slice_index plan u)) + 1
    ≤ count_units g (in_district plan (slice_index plan u)) + count_inner_faces (in_district plan (slice_index plan u)) faces
    → IsClassing faces (in_district plan (slice_index plan u)) u class
    → IsIn g (is_mate g plan u) x → IsIn g (is_mate g plan u) y → (class x ≡ class y → ⊥) → MayLeave g plan u → ⊥
district_parts g faces plan u x y class simple are l connected holes classing ix iy differ leaves =
    let mate_x = and_parts (adjacent g u x) (in_district plan (slice_index plan u) x) ix.1 in
    let mate_y = and_parts (adjacent g u y) (in_district plan (slice_index plan u) y) iy.1 in
    classes_part g simple (in_district plan (slice_index plan u)) u class x faces are connected
    (l, eq-eqb (slice_index plan u) (slice_index plan u) refl) holes classing
    (ix.0, mate_x.1) mate_x.0 y (iy.0, mate_y.1) mate_y.0 differ
    (leaves.joined x y (ix.0, stays x mate_x.0 mate_x.1) (iy.0, stays y mate_y.0 mate_y.1))
  where
    stays : (v : ℕ) → adjacent g u v ≡ true → in_district plan (slice_index plan u) v ≡ true → stays_behind plan u v ≡ true
    stays v near i = and_from (in_district plan (slice_index plan u) v) (not (v == u)) i (not_from_false (v == u)
        (ne_eqb v u (λ e. both_ways (adjacent g u u) (simple.loopless u) (subst (λ k. adjacent g u k ≡ true) e near))))
