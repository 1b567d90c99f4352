-- A path around a unit, along the faces that link its mates.
use Rattle.std.proofs.Common.{◌≡◌, ℕ, Bool, true, not, ◌||◌, List, [], ◌∷◌, refl, sym, ◌∙◌, subst, inl, inr, arith}
use Rattle.std.specs.Prelude.{◌==◌, ◌⊎◌, slice_index}
use Rattle.std.proofs.lemmas.Bool.{and_parts, and_from, or_cases, or_left, or_right, cases_eq, eq-eqb, eqb-true, both_ways, not-true, false≢true}
use Rattle.audit_model.specs.Graph.{Graph, has, adjacent, IsIn}
use Rattle.audit_model.specs.Local.{IsSimple, is_mate, stays_behind, MayLeave}
use Rattle.audit_model.specs.Path.{IsPath, HasPath, IsConnected}
use Rattle.audit_model.specs.District.{in_district}
use Rattle.audit_model.proofs.Paths.{path_one, path_before, joined_from, first_in}
use Rattle.audit_model.proofs.ListFacts.{first_has, other, has_2, has_3, has_4}
use Rattle.audit_model.proofs.Bools.{in_1, in_2, in_3, in_4}
use Rattle.audit_model.proofs.Every.{each_from_all}
use Rattle.audit_model.proofs.Local.{left_behind, not_beside_itself}
use Rattle.contig.proofs.RingLinks.{near_link, share_short_ring}
use Rattle.contig.proofs.Rings.{pair_same, pair_is, side_in, by_five, five_1, five_2, five_3, five_4, five_5, unit_of_five, has_5}
use Rattle.contig.specs.Faces.{is_pair, has_side, IsRing, AreRings, share_face, link_graph, AreLinkedBy}

-- ---- rings, rotated to begin with u

-- rotating a triangle keeps its sides
pub turn_three : (a b c x y : ℕ) → has_side (a ∷ b ∷ c ∷ []) x y ≡ true → has_side (b ∷ c ∷ a ∷ []) x y ≡ true
turn_three a b c x y h = elim (or_cases (is_pair a b x y || is_pair b c x y) (is_pair c a x y) h) [
  | inl e ↦ elim (or_cases (is_pair a b x y) (is_pair b c x y) e) [
    | inl f ↦ or_right (is_pair b c x y || is_pair c a x y) (is_pair a b x y) f
    | inr f ↦ or_left (is_pair b c x y || is_pair c a x y) (is_pair a b x y) (or_left (is_pair b c x y) (is_pair c a x y) f)
  ]
  | inr f ↦ or_left (is_pair b c x y || is_pair c a x y) (is_pair a b x y) (or_right (is_pair b c x y) (is_pair c a x y) f)
]

-- rotating a square keeps its sides
pub turn_four : (a b c d x y : ℕ) → has_side (a ∷ b ∷ c ∷ d ∷ []) x y ≡ true → has_side (b ∷ c ∷ d ∷ a ∷ []) x y ≡ true
turn_four a b c d x y h = elim (or_cases (is_pair a b x y || is_pair b c x y || is_pair c d x y) (is_pair d a x y) h) [
  | inl e ↦ elim (or_cases (is_pair a b x y || is_pair b c x y) (is_pair c d x y) e) [
    | inl e' ↦ elim (or_cases (is_pair a b x y) (is_pair b c x y) e') [
      | inl f ↦ in_4 (is_pair b c x y) (is_pair c d x y) (is_pair d a x y) (is_pair a b x y) f
      | inr f ↦ in_1 (is_pair b c x y) (is_pair c d x y) (is_pair d a x y) (is_pair a b x y) f
    ]
    | inr f ↦ in_2 (is_pair b c x y) (is_pair c d x y) (is_pair d a x y) (is_pair a b x y) f
  ]
  | inr f ↦ in_3 (is_pair b c x y) (is_pair c d x y) (is_pair d a x y) (is_pair a b x y) f
]

-- rotating a pentagon keeps its sides
pub turn_five : (a b c d e x y : ℕ) → has_side (a ∷ b ∷ c ∷ d ∷ e ∷ []) x y ≡ true → has_side (b ∷ c ∷ d ∷ e ∷ a ∷ []) x y ≡ true
turn_five a b c d e x y h =
    by_five (has_side (b ∷ c ∷ d ∷ e ∷ a ∷ []) x y ≡ true) (is_pair a b x y) (is_pair b c x y) (is_pair c d x y) (is_pair d e x y) (is_pair e a x y)
    (five_5 (is_pair b c x y) (is_pair c d x y) (is_pair d e x y) (is_pair e a x y) (is_pair a b x y))
    (five_1 (is_pair b c x y) (is_pair c d x y) (is_pair d e x y) (is_pair e a x y) (is_pair a b x y))
    (five_2 (is_pair b c x y) (is_pair c d x y) (is_pair d e x y) (is_pair e a x y) (is_pair a b x y))
    (five_3 (is_pair b c x y) (is_pair c d x y) (is_pair d e x y) (is_pair e a x y) (is_pair a b x y))
    (five_4 (is_pair b c x y) (is_pair c d x y) (is_pair d e x y) (is_pair e a x y) (is_pair a b x y))
    h

-- the neighbors of the first unit of a triangle are its second and its last
beside_three : (u b c p : ℕ) → (u ≡ b → ⊥) → (u ≡ c → ⊥) → has_side (u ∷ b ∷ c ∷ []) u p ≡ true → (p ≡ b) ⊎ (p ≡ c)
beside_three u b c p off-b off-c h = elim (or_cases (is_pair u b u p || is_pair b c u p) (is_pair c u u p) h) [
  | inl e ↦ elim (or_cases (is_pair u b u p) (is_pair b c u p) e) [
    | inl f ↦ elim (pair_is u b u p f) [
      | inl k ↦ inl (sym k.1)
      | inr k ↦ absurd (off-b (sym k.1))
    ]
    | inr f ↦ elim (pair_is b c u p f) [
      | inl k ↦ absurd (off-b (sym k.0))
      | inr k ↦ absurd (off-c (sym k.1))
    ]
  ]
  | inr f ↦ elim (pair_is c u u p f) [
    | inl k ↦ absurd (off-c (sym k.0))
    | inr k ↦ inr (sym k.0)
  ]
]

-- the neighbors of the first unit of a square are its second and its last
beside_four : (u b c d p : ℕ) → (u ≡ b → ⊥) → (u ≡ c → ⊥) → (u ≡ d → ⊥) → has_side (u ∷ b ∷ c ∷ d ∷ []) u p ≡ true → (p ≡ b) ⊎ (p ≡ d)
beside_four u b c d p off-b off-c off-d h = elim (or_cases (is_pair u b u p || is_pair b c u p || is_pair c d u p) (is_pair d u u p) h) [
  | inl e ↦ elim (or_cases (is_pair u b u p || is_pair b c u p) (is_pair c d u p) e) [
    | inl e' ↦ elim (or_cases (is_pair u b u p) (is_pair b c u p) e') [
      | inl f ↦ elim (pair_is u b u p f) [
        | inl k ↦ inl (sym k.1)
        | inr k ↦ absurd (off-b (sym k.1))
      ]
      | inr f ↦ elim (pair_is b c u p f) [
        | inl k ↦ absurd (off-b (sym k.0))
        | inr k ↦ absurd (off-c (sym k.1))
      ]
    ]
    | inr f ↦ elim (pair_is c d u p f) [
      | inl k ↦ absurd (off-c (sym k.0))
      | inr k ↦ absurd (off-d (sym k.1))
    ]
  ]
  | inr f ↦ elim (pair_is d u u p f) [
    | inl k ↦ absurd (off-d (sym k.0))
    | inr k ↦ inr (sym k.0)
  ]
]

-- the neighbors of the first unit of a pentagon are its second and its last
beside_five : (u b c d e p : ℕ) → (u ≡ b → ⊥) → (u ≡ c → ⊥) → (u ≡ d → ⊥) → (u ≡ e → ⊥) → has_side (u ∷ b ∷ c ∷ d ∷ e ∷ []) u p ≡ true → (p ≡ b) ⊎ (p ≡ e)
beside_five u b c d e p off-b off-c off-d off-e h =
    by_five ((p ≡ b) ⊎ (p ≡ e)) (is_pair u b u p) (is_pair b c u p) (is_pair c d u p) (is_pair d e u p) (is_pair e u u p)
    (λ k. elim (pair_is u b u p k) [ inl m ↦ inl (sym m.1) | inr m ↦ absurd (off-b (sym m.1)) ])
    (λ k. elim (pair_is b c u p k) [ inl m ↦ absurd (off-b (sym m.0)) | inr m ↦ absurd (off-c (sym m.1)) ])
    (λ k. elim (pair_is c d u p k) [ inl m ↦ absurd (off-c (sym m.0)) | inr m ↦ absurd (off-d (sym m.1)) ])
    (λ k. elim (pair_is d e u p k) [ inl m ↦ absurd (off-d (sym m.0)) | inr m ↦ absurd (off-e (sym m.1)) ])
    (λ k. elim (pair_is e u u p k) [ inl m ↦ absurd (off-e (sym m.0)) | inr m ↦ inr (sym m.0) ])
    h

module _ (g : Graph) (simple : IsSimple g) (set : ℕ → Bool) (u : ℕ) where
  turned_near : (v w : ℕ) → adjacent g v w ≡ true → adjacent g w v ≡ true
  turned_near v w h = simple.symmetric w v ∙ h

  -- a path between any two of the endpoints of a path
  between : (b d p q : ℕ) → HasPath g set b d → HasPath g set d b → IsIn g set b → IsIn g set d → (p ≡ b) ⊎ (p ≡ d) → (q ≡ b) ⊎ (q ≡ d) → HasPath g set p q
  between b d p q there back ib id ep eq = elim ep [
    | inl e ↦ elim eq [
      | inl f ↦ subst (λ t. HasPath g set p t) (e ∙ sym f) (path_one g set p (subst (IsIn g set) (sym e) ib))
      | inr f ↦ subst (λ t. HasPath g set t q) (sym e) (subst (λ t. HasPath g set b t) (sym f) there)
    ]
    | inr e ↦ elim eq [
      | inl f ↦ subst (λ t. HasPath g set t q) (sym e) (subst (λ t. HasPath g set d t) (sym f) back)
      | inr f ↦ subst (λ t. HasPath g set p t) (e ∙ sym f) (path_one g set p (subst (IsIn g set) (sym e) id))
    ]
  ]

  -- around a triangle or a square that begins with u
  past_three : (a b c p q : ℕ) → a ≡ u → (a ≡ b → ⊥) → (a ≡ c → ⊥) → IsIn g set b → IsIn g set c → adjacent g b c ≡ true
      → has_side (a ∷ b ∷ c ∷ []) u p ≡ true → has_side (a ∷ b ∷ c ∷ []) u q ≡ true → HasPath g set p q
  past_three a b c p q e off-b off-c ib ic bc hp hq =
      let which : (t : ℕ) → has_side (a ∷ b ∷ c ∷ []) u t ≡ true → (t ≡ b) ⊎ (t ≡ c) =
      λ t h. beside_three u b c t (λ f. off-b (e ∙ f)) (λ f. off-c (e ∙ f)) (subst (λ k. has_side (k ∷ b ∷ c ∷ []) u t ≡ true) e h) in
      between b c p q (path_before g set b c c ib bc (path_one g set c ic)) (path_before g set c b b ic (turned_near b c bc) (path_one g set b ib)) ib ic (which p hp) (which q hq)

  past_four : (a b c d p q : ℕ) → a ≡ u → (a ≡ b → ⊥) → (a ≡ c → ⊥) → (a ≡ d → ⊥) → IsIn g set b → IsIn g set c → IsIn g set d
      → adjacent g b c ≡ true → adjacent g c d ≡ true
      → has_side (a ∷ b ∷ c ∷ d ∷ []) u p ≡ true → has_side (a ∷ b ∷ c ∷ d ∷ []) u q ≡ true → HasPath g set p q
  past_four a b c d p q e off-b off-c off-d ib ic id bc cd hp hq =
      let which : (t : ℕ) → has_side (a ∷ b ∷ c ∷ d ∷ []) u t ≡ true → (t ≡ b) ⊎ (t ≡ d) =
      λ t h. beside_four u b c d t (λ f. off-b (e ∙ f)) (λ f. off-c (e ∙ f)) (λ f. off-d (e ∙ f)) (subst (λ k. has_side (k ∷ b ∷ c ∷ d ∷ []) u t ≡ true) e h) in
      between b d p q (path_before g set b c d ib bc (path_before g set c d d ic cd (path_one g set d id)))
      (path_before g set d c b id (turned_near c d cd) (path_before g set c b b ic (turned_near b c bc) (path_one g set b ib))) ib id (which p hp) (which q hq)

  past_five : (a b c d e p q : ℕ) → a ≡ u → (a ≡ b → ⊥) → (a ≡ c → ⊥) → (a ≡ d → ⊥) → (a ≡ e → ⊥) → IsIn g set b → IsIn g set c → IsIn g set d → IsIn g set e
      → adjacent g b c ≡ true → adjacent g c d ≡ true → adjacent g d e ≡ true
      → has_side (a ∷ b ∷ c ∷ d ∷ e ∷ []) u p ≡ true → has_side (a ∷ b ∷ c ∷ d ∷ e ∷ []) u q ≡ true → HasPath g set p q
  past_five a b c d e p q at off-b off-c off-d off-e ib ic id ie bc cd de hp hq =
      let which : (t : ℕ) → has_side (a ∷ b ∷ c ∷ d ∷ e ∷ []) u t ≡ true → (t ≡ b) ⊎ (t ≡ e) =
      λ t h. beside_five u b c d e t (λ f. off-b (at ∙ f)) (λ f. off-c (at ∙ f)) (λ f. off-d (at ∙ f)) (λ f. off-e (at ∙ f))
      (subst (λ k. has_side (k ∷ b ∷ c ∷ d ∷ e ∷ []) u t ≡ true) at h) in
      between b e p q (path_before g set b c e ib bc (path_before g set c d e ic cd (path_before g set d e e id de (path_one g set e ie))))
      (path_before g set e d b ie (turned_near d e de) (path_before g set d c b id (turned_near c d cd) (path_before g set c b b ic (turned_near b c bc) (path_one g set b ib))))
      ib ie (which p hp) (which q hq)

  -- around any ring at u whose other units are in the set
  past_ring : (ring : List ℕ) (p q : ℕ) → IsRing g ring → ((v : ℕ) → has ring v ≡ true → (v ≡ u → ⊥) → IsIn g set v)
      → has_side ring u p ≡ true → has_side ring u q ≡ true → HasPath g set p q
  past_ring [] p q is_ring others hp hq = absurd (false≢true hp)
  past_ring (a ∷ []) p q is_ring others hp hq = absurd (false≢true hp)
  past_ring (a ∷ b ∷ []) p q is_ring others hp hq = absurd (false≢true hp)
  past_ring (a ∷ b ∷ c ∷ []) p q is_ring others hp hq = elim (or_cases (a == u) (has (b ∷ c ∷ []) u) (side_in (a ∷ b ∷ c ∷ []) u p hp)) [
    | inl e ↦ at_a (eqb-true a u e)
    | inr h ↦ elim (or_cases (b == u) (has (c ∷ []) u) h) [
      | inl e ↦ at_b (eqb-true b u e)
      | inr h' ↦ elim (or_cases (c == u) (has [] u) h') [
        | inl e ↦ at_c (eqb-true c u e)
        | inr n ↦ absurd (false≢true n)
      ]
    ]
  ]
    where
      a-b : a ≡ b → ⊥
      a-b e = other (b ∷ c ∷ []) a b is_ring.apart.0 (first_has b (c ∷ [])) e

      a-c : a ≡ c → ⊥
      a-c e = other (b ∷ c ∷ []) a c is_ring.apart.0 (has_2 b c []) e

      b-c : b ≡ c → ⊥
      b-c e = other (c ∷ []) b c is_ring.apart.1.0 (first_has c []) e

      ab : adjacent g a b ≡ true
      ab = is_ring.sides a b (or_left (is_pair a b a b || is_pair b c a b) (is_pair c a a b) (or_left (is_pair a b a b) (is_pair b c a b) (pair_same a b)))

      bc : adjacent g b c ≡ true
      bc = is_ring.sides b c (or_left (is_pair a b b c || is_pair b c b c) (is_pair c a b c) (or_right (is_pair a b b c) (is_pair b c b c) (pair_same b c)))

      ca : adjacent g c a ≡ true
      ca = is_ring.sides c a (or_right (is_pair a b c a || is_pair b c c a) (is_pair c a c a) (pair_same c a))

      in_a : (a ≡ u → ⊥) → IsIn g set a
      in_a off = others a (first_has a (b ∷ c ∷ [])) off

      in_b : (b ≡ u → ⊥) → IsIn g set b
      in_b off = others b (has_2 a b (c ∷ [])) off

      in_c : (c ≡ u → ⊥) → IsIn g set c
      in_c off = others c (has_3 a b c []) off

      at_a : a ≡ u → HasPath g set p q
      at_a e = past_three a b c p q e a-b a-c (in_b (λ f. a-b (e ∙ sym f))) (in_c (λ f. a-c (e ∙ sym f))) bc hp hq

      at_b : b ≡ u → HasPath g set p q
      at_b e = past_three b c a p q e b-c (λ f. a-b (sym f)) (in_c (λ f. b-c (e ∙ sym f))) (in_a (λ f. a-b (f ∙ sym e))) ca
          (turn_three a b c u p hp) (turn_three a b c u q hq)

      at_c : c ≡ u → HasPath g set p q
      at_c e = past_three c a b p q e (λ f. a-c (sym f)) (λ f. b-c (sym f)) (in_a (λ f. a-c (f ∙ sym e))) (in_b (λ f. b-c (f ∙ sym e))) ab
          (turn_three b c a u p (turn_three a b c u p hp)) (turn_three b c a u q (turn_three a b c u q hq))
  past_ring (a ∷ b ∷ c ∷ d ∷ []) p q is_ring others hp hq = elim (or_cases (a == u) (has (b ∷ c ∷ d ∷ []) u) (side_in (a ∷ b ∷ c ∷ d ∷ []) u p hp)) [
    | inl e ↦ at_a (eqb-true a u e)
    | inr h ↦ elim (or_cases (b == u) (has (c ∷ d ∷ []) u) h) [
      | inl e ↦ at_b (eqb-true b u e)
      | inr h' ↦ elim (or_cases (c == u) (has (d ∷ []) u) h') [
        | inl e ↦ at_c (eqb-true c u e)
        | inr k ↦ elim (or_cases (d == u) (has [] u) k) [
          | inl e ↦ at_d (eqb-true d u e)
          | inr n ↦ absurd (false≢true n)
        ]
      ]
    ]
  ]
    where
      a-b : a ≡ b → ⊥
      a-b e = other (b ∷ c ∷ d ∷ []) a b is_ring.apart.0 (first_has b (c ∷ d ∷ [])) e

      a-c : a ≡ c → ⊥
      a-c e = other (b ∷ c ∷ d ∷ []) a c is_ring.apart.0 (has_2 b c (d ∷ [])) e

      a-d : a ≡ d → ⊥
      a-d e = other (b ∷ c ∷ d ∷ []) a d is_ring.apart.0 (has_3 b c d []) e

      b-c : b ≡ c → ⊥
      b-c e = other (c ∷ d ∷ []) b c is_ring.apart.1.0 (first_has c (d ∷ [])) e

      b-d : b ≡ d → ⊥
      b-d e = other (c ∷ d ∷ []) b d is_ring.apart.1.0 (has_2 c d []) e

      c-d : c ≡ d → ⊥
      c-d e = other (d ∷ []) c d is_ring.apart.1.1.0 (first_has d []) e

      ab : adjacent g a b ≡ true
      ab = is_ring.sides a b (in_1 (is_pair a b a b) (is_pair b c a b) (is_pair c d a b) (is_pair d a a b) (pair_same a b))

      bc : adjacent g b c ≡ true
      bc = is_ring.sides b c (in_2 (is_pair a b b c) (is_pair b c b c) (is_pair c d b c) (is_pair d a b c) (pair_same b c))

      cd : adjacent g c d ≡ true
      cd = is_ring.sides c d (in_3 (is_pair a b c d) (is_pair b c c d) (is_pair c d c d) (is_pair d a c d) (pair_same c d))

      da : adjacent g d a ≡ true
      da = is_ring.sides d a (in_4 (is_pair a b d a) (is_pair b c d a) (is_pair c d d a) (is_pair d a d a) (pair_same d a))

      in_a : (a ≡ u → ⊥) → IsIn g set a
      in_a off = others a (first_has a (b ∷ c ∷ d ∷ [])) off

      in_b : (b ≡ u → ⊥) → IsIn g set b
      in_b off = others b (has_2 a b (c ∷ d ∷ [])) off

      in_c : (c ≡ u → ⊥) → IsIn g set c
      in_c off = others c (has_3 a b c (d ∷ [])) off

      in_d : (d ≡ u → ⊥) → IsIn g set d
      in_d off = others d (has_4 a b c d []) off

      at_a : a ≡ u → HasPath g set p q
      at_a e = past_four a b c d p q e a-b a-c a-d (in_b (λ f. a-b (e ∙ sym f))) (in_c (λ f. a-c (e ∙ sym f))) (in_d (λ f. a-d (e ∙ sym f))) bc cd hp hq

      at_b : b ≡ u → HasPath g set p q
      at_b e = past_four b c d a p q e b-c b-d (λ f. a-b (sym f)) (in_c (λ f. b-c (e ∙ sym f))) (in_d (λ f. b-d (e ∙ sym f))) (in_a (λ f. a-b (f ∙ sym e))) cd da
          (turn_four a b c d u p hp) (turn_four a b c d u q hq)

      at_c : c ≡ u → HasPath g set p q
      at_c e = past_four c d a b p q e c-d (λ f. a-c (sym f)) (λ f. b-c (sym f)) (in_d (λ f. c-d (e ∙ sym f))) (in_a (λ f. a-c (f ∙ sym e))) (in_b (λ f. b-c (f ∙ sym e))) da ab
          (turn_four b c d a u p (turn_four a b c d u p hp)) (turn_four b c d a u q (turn_four a b c d u q hq))

      at_d : d ≡ u → HasPath g set p q
      at_d e = past_four d a b c p q e (λ f. a-d (sym f)) (λ f. b-d (sym f)) (λ f. c-d (sym f)) (in_a (λ f. a-d (f ∙ sym e))) (in_b (λ f. b-d (f ∙ sym e))) (in_c (λ f. c-d (f ∙ sym e))) ab bc
          (turn_four c d a b u p (turn_four b c d a u p (turn_four a b c d u p hp))) (turn_four c d a b u q (turn_four b c d a u q (turn_four a b c d u q hq)))
  past_ring (a ∷ b ∷ c ∷ d ∷ e ∷ []) p q is_ring others hp hq = unit_of_five (HasPath g set p q) a b c d e u at_a at_b at_c at_d at_e (side_in (a ∷ b ∷ c ∷ d ∷ e ∷ []) u p hp)
    where
      a-b : a ≡ b → ⊥
      a-b h = other (b ∷ c ∷ d ∷ e ∷ []) a b is_ring.apart.0 (first_has b (c ∷ d ∷ e ∷ [])) h

      a-c : a ≡ c → ⊥
      a-c h = other (b ∷ c ∷ d ∷ e ∷ []) a c is_ring.apart.0 (has_2 b c (d ∷ e ∷ [])) h

      a-d : a ≡ d → ⊥
      a-d h = other (b ∷ c ∷ d ∷ e ∷ []) a d is_ring.apart.0 (has_3 b c d (e ∷ [])) h

      a-e : a ≡ e → ⊥
      a-e h = other (b ∷ c ∷ d ∷ e ∷ []) a e is_ring.apart.0 (has_4 b c d e []) h

      b-c : b ≡ c → ⊥
      b-c h = other (c ∷ d ∷ e ∷ []) b c is_ring.apart.1.0 (first_has c (d ∷ e ∷ [])) h

      b-d : b ≡ d → ⊥
      b-d h = other (c ∷ d ∷ e ∷ []) b d is_ring.apart.1.0 (has_2 c d (e ∷ [])) h

      b-e : b ≡ e → ⊥
      b-e h = other (c ∷ d ∷ e ∷ []) b e is_ring.apart.1.0 (has_3 c d e []) h

      c-d : c ≡ d → ⊥
      c-d h = other (d ∷ e ∷ []) c d is_ring.apart.1.1.0 (first_has d (e ∷ [])) h

      c-e : c ≡ e → ⊥
      c-e h = other (d ∷ e ∷ []) c e is_ring.apart.1.1.0 (has_2 d e []) h

      d-e : d ≡ e → ⊥
      d-e h = other (e ∷ []) d e is_ring.apart.1.1.1.0 (first_has e []) h

      ab : adjacent g a b ≡ true
      ab = is_ring.sides a b (five_1 (is_pair a b a b) (is_pair b c a b) (is_pair c d a b) (is_pair d e a b) (is_pair e a a b) (pair_same a b))

      bc : adjacent g b c ≡ true
      bc = is_ring.sides b c (five_2 (is_pair a b b c) (is_pair b c b c) (is_pair c d b c) (is_pair d e b c) (is_pair e a b c) (pair_same b c))

      cd : adjacent g c d ≡ true
      cd = is_ring.sides c d (five_3 (is_pair a b c d) (is_pair b c c d) (is_pair c d c d) (is_pair d e c d) (is_pair e a c d) (pair_same c d))

      de : adjacent g d e ≡ true
      de = is_ring.sides d e (five_4 (is_pair a b d e) (is_pair b c d e) (is_pair c d d e) (is_pair d e d e) (is_pair e a d e) (pair_same d e))

      ea : adjacent g e a ≡ true
      ea = is_ring.sides e a (five_5 (is_pair a b e a) (is_pair b c e a) (is_pair c d e a) (is_pair d e e a) (is_pair e a e a) (pair_same e a))

      in_a : (a ≡ u → ⊥) → IsIn g set a
      in_a off = others a (first_has a (b ∷ c ∷ d ∷ e ∷ [])) off

      in_b : (b ≡ u → ⊥) → IsIn g set b
      in_b off = others b (has_2 a b (c ∷ d ∷ e ∷ [])) off

      in_c : (c ≡ u → ⊥) → IsIn g set c
      in_c off = others c (has_3 a b c (d ∷ e ∷ [])) off

      in_d : (d ≡ u → ⊥) → IsIn g set d
      in_d off = others d (has_4 a b c d (e ∷ [])) off

      in_e : (e ≡ u → ⊥) → IsIn g set e
      in_e off = others e (has_5 a b c d e []) off

      at_a : a ≡ u → HasPath g set p q
      at_a h = past_five a b c d e p q h a-b a-c a-d a-e (in_b (λ f. a-b (h ∙ sym f))) (in_c (λ f. a-c (h ∙ sym f))) (in_d (λ f. a-d (h ∙ sym f))) (in_e (λ f. a-e (h ∙ sym f)))
          bc cd de hp hq

      at_b : b ≡ u → HasPath g set p q
      at_b h = past_five b c d e a p q h b-c b-d b-e (λ f. a-b (sym f)) (in_c (λ f. b-c (h ∙ sym f))) (in_d (λ f. b-d (h ∙ sym f))) (in_e (λ f. b-e (h ∙ sym f))) (in_a (λ f. a-b (f ∙ sym h)))
          cd de ea (turn_five a b c d e u p hp) (turn_five a b c d e u q hq)

      at_c : c ≡ u → HasPath g set p q
      at_c h = past_five c d e a b p q h c-d c-e (λ f. a-c (sym f)) (λ f. b-c (sym f)) (in_d (λ f. c-d (h ∙ sym f))) (in_e (λ f. c-e (h ∙ sym f))) (in_a (λ f. a-c (f ∙ sym h))) (in_b (λ f. b-c (f ∙ sym h)))
          de ea ab (turn_five b c d e a u p (turn_five a b c d e u p hp)) (turn_five b c d e a u q (turn_five a b c d e u q hq))

      at_d : d ≡ u → HasPath g set p q
      at_d h = past_five d e a b c p q h d-e (λ f. a-d (sym f)) (λ f. b-d (sym f)) (λ f. c-d (sym f)) (in_e (λ f. d-e (h ∙ sym f))) (in_a (λ f. a-d (f ∙ sym h))) (in_b (λ f. b-d (f ∙ sym h))) (in_c (λ f. c-d (f ∙ sym h)))
          ea ab bc (turn_five c d e a b u p (turn_five b c d e a u p (turn_five a b c d e u p hp))) (turn_five c d e a b u q (turn_five b c d e a u q (turn_five a b c d e u q hq)))

      at_e : e ≡ u → HasPath g set p q
      at_e h = past_five e a b c d p q h (λ f. a-e (sym f)) (λ f. b-e (sym f)) (λ f. c-e (sym f)) (λ f. d-e (sym f)) (in_a (λ f. a-e (f ∙ sym h))) (in_b (λ f. b-e (f ∙ sym h))) (in_c (λ f. c-e (f ∙ sym h))) (in_d (λ f. d-e (f ∙ sym h)))
          ab bc cd (turn_five d e a b c u p (turn_five c d e a b u p (turn_five b c d e a u p (turn_five a b c d e u p hp)))) (turn_five d e a b c u q (turn_five c d e a b u q (turn_five b c d e a u q (turn_five a b c d e u q hq))))
  past_ring (a ∷ b ∷ c ∷ d ∷ e ∷ f ∷ rest) p q is_ring others hp hq = absurd (omega (arith, is_ring.size.1))

-- ---- around the unit

module _ (g : Graph) (faces : List (List ℕ)) (plan : List ℕ) (u : ℕ) (simple : IsSimple g) (are : AreRings g faces) where
  mate_behind : (v : ℕ) → IsIn g (is_mate g plan u) v → IsIn g (stays_behind plan u) v
  mate_behind v i =
      let parts = and_parts (adjacent g u v) (in_district plan (slice_index plan u) v) i.1 in
      left_behind g plan u v (i.0, parts.1) (not_beside_itself g u simple v parts.0)

  -- a link gives a path around u
  link_path : (p q : ℕ) → share_face faces (in_district plan (slice_index plan u)) u p q ≡ true → HasPath g (stays_behind plan u) p q
  link_path p q h =
      let (ring, is_ring, inner, hp, hq) = share_short_ring g (in_district plan (slice_index plan u)) u p q faces are h in
      past_ring g simple (stays_behind plan u) u ring p q is_ring
      (λ v member off. left_behind g plan u v (is_ring.below v member, each_from_all (in_district plan (slice_index plan u)) ring v inner member) off) hp hq

  -- a path of links gives a path around u
  links_path : (units : List ℕ) (p q : ℕ) → IsPath (link_graph g faces (in_district plan (slice_index plan u)) u) (is_mate g plan u) units p q
      → HasPath g (stays_behind plan u) p q
  links_path [] p q path = absurd path
  links_path (w ∷ []) p q path = (w ∷ [], (path.0, path.1, mate_behind w path.2))
  links_path (w ∷ t ∷ rest) p q path =
      let step = link_path w t (near_link g faces (in_district plan (slice_index plan u)) u w t path.1.0 path.2) in
      subst (λ k. HasPath g (stays_behind plan u) k q) path.0 (joined_from g (stays_behind plan u) step.0 w t q step.1 (links_path (t ∷ rest) t q path.3))

  module _ (linked : AreLinkedBy g faces plan u) where
    -- two mates have a path that avoids u
    way_round : (a b : ℕ) → IsIn g (in_district plan (slice_index plan u)) a → IsIn g (in_district plan (slice_index plan u)) b
        → adjacent g a u ≡ true → adjacent g u b ≡ true → HasPath g (stays_behind plan u) a b
    way_round a b ia ib au ub =
        let path = linked.joined a b (ia.0, and_from (adjacent g u a) (in_district plan (slice_index plan u) a) (simple.symmetric u a ∙ au) ia.1)
        (ib.0, and_from (adjacent g u b) (in_district plan (slice_index plan u) b) ub ib.1) in
        links_path path.0 a b path.1

    -- a path of the district between units that stay behind gives one that avoids u
    detour : (units : List ℕ) (x y : ℕ) → IsPath g (in_district plan (slice_index plan u)) units x y → (x ≡ u → ⊥) → (y ≡ u → ⊥) → HasPath g (stays_behind plan u) x y
    detour [] x y p off-x off-y = absurd p
    detour (w ∷ []) x y p off-x off-y =
        let i = left_behind g plan u w p.2 (λ e. off-x (sym p.0 ∙ e)) in (w ∷ [], (p.0, p.1, i))
    detour (w ∷ t ∷ []) x y p off-x off-y =
        let off-t : t ≡ u → ⊥ = λ e. off-y (sym p.3.1 ∙ e) in
        (w ∷ t ∷ [], (p.0, left_behind g plan u w p.1 (λ e. off-x (sym p.0 ∙ e)), p.2, (refl, p.3.1, left_behind g plan u t p.3.2 off-t)))
    detour (w ∷ t ∷ s ∷ rest) x y p off-x off-y =
        let off-w : w ≡ u → ⊥ = λ e. off-x (sym p.0 ∙ e) in
        elim (cases_eq t u) [
          | inr off-t ↦ subst (λ v. HasPath g (stays_behind plan u) v y) p.0
              (path_before g (stays_behind plan u) w t y (left_behind g plan u w p.1 off-w) p.2 (detour (t ∷ s ∷ rest) t y p.3 off-t off-y))
          | inl at ↦
              let au : adjacent g w u ≡ true = subst (λ v. adjacent g w v ≡ true) at p.2 in
              let ub : adjacent g u s ≡ true = subst (λ v. adjacent g v s ≡ true) at p.3.2 in
              let path = way_round w s p.1 (first_in g (in_district plan (slice_index plan u)) s rest s y p.3.3) au ub in
              subst (λ v. HasPath g (stays_behind plan u) v y) p.0
              (joined_from g (stays_behind plan u) path.0 w s y path.1 (detour (s ∷ rest) s y p.3.3 (not_beside_itself g u simple s ub) off-y))
        ]

    pub linked_may_leave : IsConnected g (in_district plan (slice_index plan u)) → MayLeave g plan u
    linked_may_leave connected = record {
      inhabited = (linked.inhabited.0, mate_behind linked.inhabited.0 linked.inhabited.1);
      joined = λ x y ix iy.
          let px = and_parts (in_district plan (slice_index plan u) x) (not (x == u)) ix.1 in
          let py = and_parts (in_district plan (slice_index plan u) y) (not (y == u)) iy.1 in
          let path = connected.joined x y (ix.0, px.0) (iy.0, py.0) in
          detour path.0 x y path.1 (apart x px.1) (apart y py.1);
    }
      where
        apart : (v : ℕ) → not (v == u) ≡ true → v ≡ u → ⊥
        apart v h e = both_ways (v == u) (not-true (v == u) h) (eq-eqb v u e)
