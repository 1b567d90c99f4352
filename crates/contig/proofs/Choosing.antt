-- The rings that count for a set: each active spare ring in place of the face's ring.
use Rattle.std.proofs.Common.{◌≡◌, ℕ, ◌+◌, Bool, true, false, cond, not, ◌&&◌, ◌||◌, List, [], ◌∷◌, length, refl, sym, ap, ◌∙◌, subst, inl, inr, arith}
use Rattle.std.specs.List.{list_any, list_all}
use Rattle.std.proofs.lemmas.Bool.{and_parts, and_right, or_parts, or_from, or_cases, or_left, or_right, cases_Bool, cond-true, cond-false, not-true, not_from_true, false≢true}
use Rattle.audit_model.specs.Graph.{Graph}
use Rattle.contig.specs.Faces.{SparedFace, WithoutSpare, WithSpare, has_side, IsRing, OwnsSide, AreRings, count_inner_faces, share_face, own_ring, spare_ring, own_rings, both_rings, AreFaces, is_active, chosen, count_active}

-- the ring of a face that counts for a set
abbrev pub chosen_ring : (ℕ → Bool) → SparedFace → List ℕ
chosen_ring inside face = cond (is_active inside face) (spare_ring face) (own_ring face)

-- of an active spare, the spare ring is inside, and the ring is not
pub active_parts : (inside : ℕ → Bool) (face : SparedFace) → is_active inside face ≡ true → (list_all inside (spare_ring face) ≡ true) × (list_all inside (own_ring face) ≡ false)
active_parts inside face h =
    let parts = and_parts (list_all inside (spare_ring face)) (not (list_all inside (own_ring face))) h in
    (parts.0, not-true (list_all inside (own_ring face)) parts.1)

-- if the ring is inside, the spare is not active
pub inner_not_active : (inside : ℕ → Bool) (face : SparedFace) → list_all inside (own_ring face) ≡ true → is_active inside face ≡ false
inner_not_active inside face h = and_right (list_all inside (spare_ring face)) (not (list_all inside (own_ring face))) (not_from_true (list_all inside (own_ring face)) h)

-- ---- the chosen rings are rings that own their sides

-- both rings of a face have one own side
pub spare_owns : (face : SparedFace) (later : List (List ℕ)) → OwnsSide (own_ring face) later → OwnsSide (spare_ring face) later
spare_owns (WithoutSpare ring) later h = h
spare_owns (WithSpare a b c d) later h = h

-- what none of the rings and spare rings has, none of the chosen rings has
none_chosen : (p : List ℕ → Bool) (inside : ℕ → Bool) (faces : List SparedFace) → list_any p (both_rings faces) ≡ false → list_any p (chosen inside faces) ≡ false
none_chosen p inside [] h = refl
none_chosen p inside (face ∷ later) h =
    let first = or_parts (p (own_ring face)) (p (spare_ring face) || list_any p (both_rings later)) h in
    let rest = or_parts (p (spare_ring face)) (list_any p (both_rings later)) first.1 in
    or_from (p (chosen_ring inside face)) (list_any p (chosen inside later))
    (elim (cases_Bool (is_active inside face)) [
      | inl e ↦ ap p (cond-true {A = List ℕ} (is_active inside face) (spare_ring face) (own_ring face) e) ∙ rest.0
      | inr e ↦ ap p (cond-false {A = List ℕ} (is_active inside face) (spare_ring face) (own_ring face) e) ∙ first.0
    ])
    (none_chosen p inside later rest.1)

owns_chosen : (inside : ℕ → Bool) (ring : List ℕ) (later : List SparedFace) → OwnsSide ring (both_rings later) → OwnsSide ring (chosen inside later)
owns_chosen inside [] later h = h
owns_chosen inside (a ∷ []) later h = h
owns_chosen inside (a ∷ b ∷ rest) later h = none_chosen (λ face. has_side face a b) inside later h

-- the chosen rings of faces are rings, each with a side that no later one has
pub chosen_are_rings : (g : Graph) (inside : ℕ → Bool) (faces : List SparedFace) → AreFaces g faces → AreRings g (chosen inside faces)
chosen_are_rings g inside [] are = tt
chosen_are_rings g inside (face ∷ later) are =
    let rest = chosen_are_rings g inside later are.4 in
    elim (cases_Bool (is_active inside face)) [
      | inl e ↦ subst (λ (ring : List ℕ). IsRing g ring × OwnsSide ring (chosen inside later) × AreRings g (chosen inside later))
          (sym (cond-true {A = List ℕ} (is_active inside face) (spare_ring face) (own_ring face) e))
          (are.1, owns_chosen inside (spare_ring face) later (spare_owns face (both_rings later) are.3), rest)
      | inr e ↦ subst (λ (ring : List ℕ). IsRing g ring × OwnsSide ring (chosen inside later) × AreRings g (chosen inside later))
          (sym (cond-false {A = List ℕ} (is_active inside face) (spare_ring face) (own_ring face) e))
          (are.0, owns_chosen inside (own_ring face) later are.3, rest)
    ]

-- what none of the rings and spare rings has, none of the rings has
none_own : (p : List ℕ → Bool) (faces : List SparedFace) → list_any p (both_rings faces) ≡ false → list_any p (own_rings faces) ≡ false
none_own p [] h = refl
none_own p (face ∷ later) h =
    let first = or_parts (p (own_ring face)) (p (spare_ring face) || list_any p (both_rings later)) h in
    let rest = or_parts (p (spare_ring face)) (list_any p (both_rings later)) first.1 in
    or_from (p (own_ring face)) (list_any p (own_rings later)) first.0 (none_own p later rest.1)

owns_own : (ring : List ℕ) (later : List SparedFace) → OwnsSide ring (both_rings later) → OwnsSide ring (own_rings later)
owns_own [] later h = h
owns_own (a ∷ []) later h = h
owns_own (a ∷ b ∷ rest) later h = none_own (λ face. has_side face a b) later h

-- the rings of faces are rings, each with a side that no later one has
pub own_are_rings : (g : Graph) (faces : List SparedFace) → AreFaces g faces → AreRings g (own_rings faces)
own_are_rings g [] are = tt
own_are_rings g (face ∷ later) are = (are.0, owns_own (own_ring face) later are.3, own_are_rings g later are.4)

-- there is one ring per face
pub own_length : (faces : List SparedFace) → length (own_rings faces) ≡ length faces
own_length [] = refl
own_length (face ∷ later) = omega (arith, own_length later)

-- ---- counts

-- the chosen ring is inside if the ring is or the spare is active
chosen_inner : (inside : ℕ → Bool) (face : SparedFace)
    → cond {A = ℕ} (list_all inside (chosen_ring inside face)) 1 0 ≡ cond (list_all inside (own_ring face)) 1 0 + cond (is_active inside face) 1 0
chosen_inner inside face = elim (cases_Bool (is_active inside face)) [
  | inl e ↦
      let parts = active_parts inside face e in
      let is = ap (list_all inside) (cond-true {A = List ℕ} (is_active inside face) (spare_ring face) (own_ring face) e) in
      omega (
        arith,
        cond-true {A = ℕ} (list_all inside (chosen_ring inside face)) 1 0 (is ∙ parts.0),
        cond-false {A = ℕ} (list_all inside (own_ring face)) 1 0 parts.1,
        cond-true {A = ℕ} (is_active inside face) 1 0 e,
      )
  | inr e ↦
      let is = ap (λ (ring : List ℕ). cond {A = ℕ} (list_all inside ring) 1 0) (cond-false {A = List ℕ} (is_active inside face) (spare_ring face) (own_ring face) e) in
      omega (arith, is, cond-false {A = ℕ} (is_active inside face) 1 0 e)
]

-- each active spare is one more inner face
pub chosen_counted : (inside : ℕ → Bool) (faces : List SparedFace)
    → count_inner_faces inside (chosen inside faces) ≡ count_inner_faces inside (own_rings faces) + count_active inside faces
chosen_counted inside [] = refl
chosen_counted inside (face ∷ later) = omega (arith, chosen_counted inside later, chosen_inner inside face)

-- ---- shared faces

-- x and y are the two neighbors of u on an inner ring
abbrev pub joins : (ℕ → Bool) → ℕ → ℕ → ℕ → List ℕ → Bool
joins inside u x y ring = list_all inside ring && (has_side ring u x && has_side ring u y)

-- neighbors that share an inner ring share a chosen ring
pub own_shared : (inside : ℕ → Bool) (u x y : ℕ) (faces : List SparedFace) → share_face (own_rings faces) inside u x y ≡ true → share_face (chosen inside faces) inside u x y ≡ true
own_shared inside u x y [] h = absurd (false≢true h)
own_shared inside u x y (face ∷ later) h = elim (or_cases (joins inside u x y (own_ring face)) (share_face (own_rings later) inside u x y) h) [
  | inl e ↦
      let inner = (and_parts (list_all inside (own_ring face)) (has_side (own_ring face) u x && has_side (own_ring face) u y) e).0 in
      let is = cond-false {A = List ℕ} (is_active inside face) (spare_ring face) (own_ring face) (inner_not_active inside face inner) in
      or_left (joins inside u x y (chosen_ring inside face)) (share_face (chosen inside later) inside u x y)
      (subst (λ (ring : List ℕ). joins inside u x y ring ≡ true) (sym is) e)
  | inr e ↦ or_right (joins inside u x y (chosen_ring inside face)) (share_face (chosen inside later) inside u x y) (own_shared inside u x y later e)
]
