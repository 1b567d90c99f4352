-- The change of a set's counts with one unit.
use Rattle.std.proofs.Common.{◌≡◌, ℕ, zero, suc, ◌+◌, ◌<◌, ◌≤◌, Bool, true, false, cond, not, ◌&&◌, List, [], ◌∷◌, refl, sym, ap, ◌∙◌, subst, inl, inr, arith}
use Rattle.std.specs.Prelude.{◌==◌}
use Rattle.std.specs.List.{list_all}
use Rattle.std.proofs.lemmas.Bool.{and_left, and_right, or_parts, or_cases, cases_Bool, cases_eq, cond-true, cond-false, eq-eqb, ne_eqb, not_from_false, not_from_true, true≢false}
use Rattle.audit_model.specs.Below.{count_below, sum_below}
use Rattle.audit_model.specs.Graph.{Graph, has, adjacent, IsIn}
use Rattle.audit_model.specs.Local.{IsSimple}
use Rattle.audit_model.proofs.Below.{count_below_same, count_below_without, count_below_none}
use Rattle.contig.specs.Faces.{count_units, count_inner_edges, count_inner_faces, without_unit, count_mates, count_inner_faces_at}

-- ---- counts

-- an item that is not taken out stays
pub kept : (a b : Bool) → b ≡ false → (a && not b) ≡ a
kept true b e = not_from_false b e
kept false b e = refl

-- a count is the count without one number, plus that number's own
pub count_split : (n : ℕ) (p : ℕ → Bool) (u : ℕ) → u < n → count_below n p ≡ count_below n (λ k. p k && not (k == u)) + cond (p u) 1 0
count_split n p u l = elim (cases_Bool (p u)) [
  | inl e ↦ omega (arith, count_below_without n p u l e, cond-true {A = ℕ} (p u) 1 0 e)
  | inr e ↦ omega (arith, count_below_same n p (λ k. p k && not (k == u)) (λ k below. same k e), cond-false {A = ℕ} (p u) 1 0 e)
]
  where
    same : (k : ℕ) → p u ≡ false → p k ≡ (p k && not (k == u))
    same k e = elim (cases_eq k u) [
      | inl h ↦ let off : p k ≡ false = ap p h ∙ e in off ∙ sym (and_left (p k) (not (k == u)) off)
      | inr h ↦ sym (kept (p k) (k == u) (ne_eqb k u h))
    ]

-- ---- edges

-- taking a unit out of a pair takes it out of the end in the set
moved_out : (a b c d e : Bool) → e ≡ false → ((a && (b && c)) && not d) ≡ (a && ((b && not d) && (c && not e)))
moved_out a b c d true h = absurd (true≢false h)
moved_out false b c d false h = refl
moved_out true false c d false h = refl
moved_out true true false true false h = refl
moved_out true true false false false h = refl
moved_out true true true true false h = refl
moved_out true true true false false h = refl

-- a true test in the middle of a conjunction may be left out
with_both : (a b c : Bool) → b ≡ true → (a && (b && c)) ≡ (a && c)
with_both a b c h = ap (λ t. a && (t && c)) h

-- a true test at the end of a conjunction may be left out
with_last : (a b c : Bool) → c ≡ true → (a && (b && c)) ≡ (a && b)
with_last a true c h = ap (λ t. a && t) h
with_last a false c h = refl

module _ (g : Graph) (simple : IsSimple g) (inside : ℕ → Bool) (u : ℕ) (in_set : inside u ≡ true) where
  row : ℕ → ℕ
  row w = count_below w (λ v. adjacent g v w && (inside v && inside w))

  row_after : ℕ → ℕ
  row_after w = count_below w (λ v. adjacent g v w && (without_unit inside u v && without_unit inside u w))

  mate : ℕ → Bool
  mate v = adjacent g u v && inside v

  -- a unit before u loses no edge to a smaller unit
  row_before : (w : ℕ) → w < u → row w ≡ row_after w
  unfolding row row_after
  row_before w l = count_below_same w (λ v. adjacent g v w && (inside v && inside w)) (λ v. adjacent g v w && (without_unit inside u v && without_unit inside u w))
      (λ v below. sym (kept (adjacent g v w && (inside v && inside w)) (v == u) (ne_eqb v u (λ e. omega (arith, l, below, e))))
      ∙ moved_out (adjacent g v w) (inside v) (inside w) (v == u) (w == u) (ne_eqb w u (λ e. omega (arith, l, e))))

  -- u loses all its edges to smaller units
  row_at : (row u ≡ count_below u mate) × (row_after u ≡ 0)
  unfolding row row_after mate
  row_at = (
    count_below_same u (λ v. adjacent g v u && (inside v && inside u)) (λ v. adjacent g u v && inside v)
        (λ v below. with_last (adjacent g v u) (inside v) (inside u) in_set ∙ ap (λ t. t && inside v) (simple.symmetric v u)),
    count_below_none u (λ v. adjacent g v u && (without_unit inside u v && without_unit inside u u))
        (λ v below. and_right (adjacent g v u) (without_unit inside u v && without_unit inside u u) (and_right (without_unit inside u v) (without_unit inside u u)
        (and_right (inside u) (not (u == u)) (not_from_true (u == u) (eq-eqb u u refl))))),
  )

  -- a unit after u loses its edge to u
  row_behind : (w : ℕ) → u < w → row w ≡ row_after w + cond (mate w) 1 0
  unfolding row row_after mate
  row_behind w l =
      let split = count_split w (λ v. adjacent g v w && (inside v && inside w)) u l in
      let same : count_below w (λ v. (adjacent g v w && (inside v && inside w)) && not (v == u)) ≡ row_after w =
      count_below_same w (λ v. (adjacent g v w && (inside v && inside w)) && not (v == u)) (λ v. adjacent g v w && (without_unit inside u v && without_unit inside u w))
      (λ v below. moved_out (adjacent g v w) (inside v) (inside w) (v == u) (w == u) (ne_eqb w u (λ e. omega (arith, l, e)))) in
      let one : cond {A = ℕ} (adjacent g u w && (inside u && inside w)) 1 0 ≡ cond (adjacent g u w && inside w) 1 0 =
      ap (λ b. cond {A = ℕ} b 1 0) (with_both (adjacent g u w) (inside u) (inside w) in_set) in
      omega (arith, split, same, one)

  rows : (m : ℕ) → (m ≤ u → sum_below m row ≡ sum_below m row_after) × (u < m → sum_below m row ≡ sum_below m row_after + count_below m mate)
  unfolding count_below mate
  rows zero = (λ l. refl, λ l. absurd (omega (arith, l)))
  rows (suc m) =
      let before = rows m in (
        λ l. omega (arith, before.0 (omega (arith, l)), row_before m (omega (arith, l))),
        λ l. elim (cases_eq m u) [
          | inl e ↦
              let own : row m ≡ count_below m mate = subst (λ k. row k ≡ count_below k mate) (sym e) row_at.0 in
              let none : row_after m ≡ 0 = subst (λ k. row_after k ≡ 0) (sym e) row_at.1 in
              let loop : adjacent g u m ≡ false = subst (λ k. adjacent g u k ≡ false) (sym e) (simple.loopless u) in
              omega (arith, before.0 (omega (arith, e)), own, none, cond-false {A = ℕ} (mate m) 1 0 (and_left (adjacent g u m) (inside m) loop))
          | inr off ↦ omega (arith, before.1 (omega (arith, l, off)), row_behind m (omega (arith, l, off)))
        ],
      )

  pub edges_with : u < g.units → count_inner_edges g inside ≡ count_inner_edges g (without_unit inside u) + count_mates g inside u
  unfolding row row_after mate
  edges_with l = (rows g.units).1 l

-- a set has one more unit than without one of its units
pub units_with : (g : Graph) (inside : ℕ → Bool) (u : ℕ) → IsIn g inside u → count_units g inside ≡ count_units g (without_unit inside u) + 1
units_with g inside u i = count_below_without g.units inside u i.0 i.1

-- ---- faces

-- a face that has u is not inside the set without u
all_without : (inside : ℕ → Bool) (u : ℕ) (face : List ℕ) → has face u ≡ true → list_all (without_unit inside u) face ≡ false
all_without inside u [] h = absurd (true≢false (sym h))
all_without inside u (v ∷ face) h = elim (or_cases (v == u) (has face u) h) [
  | inl e ↦ and_left (without_unit inside u v) (list_all (without_unit inside u) face) (and_right (inside v) (not (v == u)) (not_from_true (v == u) e))
  | inr e ↦ and_right (without_unit inside u v) (list_all (without_unit inside u) face) (all_without inside u face e)
]

-- a face that does not have u is inside the set exactly if it is without u
all_same : (inside : ℕ → Bool) (u : ℕ) (face : List ℕ) → has face u ≡ false → list_all (without_unit inside u) face ≡ list_all inside face
all_same inside u [] h = refl
all_same inside u (v ∷ face) h =
    let parts = or_parts (v == u) (has face u) h in
    ap (λ b. b && list_all (without_unit inside u) face) (kept (inside v) (v == u) parts.0) ∙ ap (λ b. inside v && b) (all_same inside u face parts.1)

-- a face counts for the set as it does without the unit, and once more if it has the unit and is inside
face_with : (inside : ℕ → Bool) (u : ℕ) (face : List ℕ)
    → cond {A = ℕ} (list_all inside face) 1 0 ≡ cond (list_all (without_unit inside u) face) 1 0 + cond (has face u && list_all inside face) 1 0
face_with inside u face = elim (cases_Bool (has face u)) [
  | inl e ↦ omega (
    arith,
    cond-false {A = ℕ} (list_all (without_unit inside u) face) 1 0 (all_without inside u face e),
    ap (λ b. cond {A = ℕ} (b && list_all inside face) 1 0) e,
  )
  | inr e ↦ omega (
    arith,
    ap (λ b. cond {A = ℕ} b 1 0) (all_same inside u face e),
    cond-false {A = ℕ} (has face u && list_all inside face) 1 0 (and_left (has face u) (list_all inside face) e),
  )
]

-- a set has the inner faces it has without the unit, and those at the unit
pub faces_with : (inside : ℕ → Bool) (u : ℕ) (faces : List (List ℕ))
    → count_inner_faces inside faces ≡ count_inner_faces (without_unit inside u) faces + count_inner_faces_at u inside faces
faces_with inside u [] = refl
faces_with inside u (face ∷ later) = omega (arith, faces_with inside u later, face_with inside u face)
