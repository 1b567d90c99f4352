-- A connected district without one unit is connected exactly if that unit's mates are joined within it.
use Rattle.std.proofs.Common.{◌≡◌, ℕ, ◌<◌, true, not, List, [], ◌∷◌, refl, sym, ◌∙◌, subst, inl, inr}
use Rattle.std.specs.Prelude.{◌==◌, ◌⊎◌, slice_index}
use Rattle.std.proofs.lemmas.Bool.{and_parts, and_from, cases_eq, eq-eqb, both_ways, not-true}
use Rattle.audit_model.specs.Graph.{Graph, adjacent, IsIn, IsGraph}
use Rattle.audit_model.specs.Local.{is_mate, stays_behind, MayLeave}
use Rattle.audit_model.specs.Path.{IsPath, HasPath, IsConnected}
use Rattle.audit_model.specs.District.{in_district}
use Rattle.audit_model.proofs.Paths.{path_one, path_before, path_joined, first_in}
use Rattle.audit_model.proofs.Local.{left_behind}
use Rattle.contig.proofs.Growing.{mate_stays}

module _ (g : Graph) (plan : List ℕ) (u : ℕ) (graph : IsGraph g) where
  mate : (v : ℕ) → IsIn g (in_district plan (slice_index plan u)) v → adjacent g u v ≡ true → IsIn g (is_mate g plan u) v
  mate v i a = (i.0, and_from (adjacent g u v) (in_district plan (slice_index plan u) v) a i.1)

  -- a path to u passes a mate of u
  to_mate : (units : List ℕ) (x : ℕ) → IsPath g (in_district plan (slice_index plan u)) units x u → (x ≡ u → ⊥)
      → (m : ℕ) × IsIn g (is_mate g plan u) m × HasPath g (stays_behind plan u) x m
  to_mate [] x p off = absurd p
  to_mate (w ∷ []) x p off = absurd (off (sym p.0 ∙ p.1))
  to_mate (w ∷ t ∷ rest) x p off = elim (cases_eq t u) [
    | inl at ↦
        let wu : adjacent g w u ≡ true = subst (λ v. adjacent g w v ≡ true) at p.2 in
        let m = mate w p.1 (graph.symmetric u w ∙ wu) in
        (w, m, subst (λ v. HasPath g (stays_behind plan u) v w) p.0 (path_one g (stays_behind plan u) w (mate_stays g plan u w graph m)))
    | inr on ↦
        let rest_of = to_mate (t ∷ rest) t p.3 on in (
          rest_of.0,
          rest_of.1,
          subst (λ v. HasPath g (stays_behind plan u) v rest_of.0) p.0
              (path_before g (stays_behind plan u) w t rest_of.0 (left_behind g plan u w p.1 (λ e. off (sym p.0 ∙ e))) p.2 rest_of.2),
        )
  ]

  -- a path to another unit avoids u, or its last part begins with a mate of u
  from_mate : (units : List ℕ) (x y : ℕ) → IsPath g (in_district plan (slice_index plan u)) units x y → (y ≡ u → ⊥)
      → HasPath g (stays_behind plan u) x y ⊎ ((m : ℕ) × IsIn g (is_mate g plan u) m × HasPath g (stays_behind plan u) m y)
  from_mate [] x y p off = absurd p
  from_mate (w ∷ []) x y p off = inl (w ∷ [], (p.0, p.1, left_behind g plan u w p.2 (λ e. off (sym p.1 ∙ e))))
  from_mate (w ∷ t ∷ rest) x y p off = elim (from_mate (t ∷ rest) t y p.3 off) [
    | inr found ↦ inr found
    | inl path ↦ elim (cases_eq w u) [
      | inl at ↦ inr (t, mate t (first_in g (in_district plan (slice_index plan u)) t rest t y p.3) (subst (λ v. adjacent g v t ≡ true) at p.2), path)
      | inr on ↦ inl (subst (λ v. HasPath g (stays_behind plan u) v y) p.0 (path_before g (stays_behind plan u) w t y (left_behind g plan u w p.1 on) p.2 path))
    ]
  ]

  module _ (lt : u < g.units) (connected : IsConnected g (in_district plan (slice_index plan u))) where
    u_in : IsIn g (in_district plan (slice_index plan u)) u
    u_in = (lt, eq-eqb (slice_index plan u) (slice_index plan u) refl)

    in_district_of : (v : ℕ) → IsIn g (stays_behind plan u) v → IsIn g (in_district plan (slice_index plan u)) v
    in_district_of v i = (i.0, (and_parts (in_district plan (slice_index plan u) v) (not (v == u)) i.1).0)

    is_other : (v : ℕ) → IsIn g (stays_behind plan u) v → v ≡ u → ⊥
    is_other v i e = both_ways (v == u) (not-true (v == u) (and_parts (in_district plan (slice_index plan u) v) (not (v == u)) i.1).1) (eq-eqb v u e)

    mate_before : (x : ℕ) → IsIn g (stays_behind plan u) x → (m : ℕ) × IsIn g (is_mate g plan u) m × HasPath g (stays_behind plan u) x m
    mate_before x i = let path = connected.joined x u (in_district_of x i) u_in in to_mate path.0 x path.1 (is_other x i)

    mate_after : (y : ℕ) → IsIn g (stays_behind plan u) y → (m : ℕ) × IsIn g (is_mate g plan u) m × HasPath g (stays_behind plan u) m y
    mate_after y i =
        let path = connected.joined u y u_in (in_district_of y i) in
        elim (from_mate path.0 u y path.1 (is_other y i)) [
          | inr found ↦ found
          | inl direct ↦ absurd (starts direct.0 direct.1)
        ]
      where
        starts : (units : List ℕ) → IsPath g (stays_behind plan u) units u y → ⊥
        starts [] p = p
        starts (w ∷ []) p = is_other w p.2 p.0
        starts (w ∷ t ∷ rest) p = is_other w p.1 p.0

    -- if all mates are joined, u may leave
    pub leaves : (m : ℕ) → IsIn g (stays_behind plan u) m
        → ((a b : ℕ) → IsIn g (is_mate g plan u) a → IsIn g (is_mate g plan u) b → HasPath g (stays_behind plan u) a b) → MayLeave g plan u
    leaves m i joined = record {
      inhabited = (m, i);
      joined = λ x y ix iy.
          let first = mate_before x ix in
          let final = mate_after y iy in
          path_joined g (stays_behind plan u) x first.0 y first.2 (path_joined g (stays_behind plan u) first.0 final.0 y (joined first.0 final.0 first.1 final.1) final.2);
    }

    -- a unit that may leave has a mate
    pub has_mate : MayLeave g plan u → (m : ℕ) × IsIn g (is_mate g plan u) m
    has_mate may = let found = mate_before may.inhabited.0 may.inhabited.1 in (found.0, found.1)
