-- A unit whose neighbors are connected among themselves may leave its district.
use Rattle.std.proofs.Common.{◌≡◌, ℕ, Bool, true, not, List, [], ◌∷◌, refl, sym, ◌∙◌, subst, inl, inr}
use Rattle.std.specs.Prelude.{◌==◌, slice_index}
use Rattle.std.proofs.lemmas.Bool.{and_parts, and_from, cases_eq, eq-eqb, ne_eqb, both_ways, not_from_false, not-true}
use Rattle.audit_model.specs.Graph.{Graph, adjacent, IsIn, IsGraph}
use Rattle.audit_model.specs.Local.{is_mate, stays_behind, IsLocal, MayLeave, IsSimple}
use Rattle.audit_model.specs.Path.{IsPath, HasPath, IsConnected}
use Rattle.audit_model.specs.District.{in_district}
use Rattle.audit_model.proofs.Paths.{path_before, joined_from}

-- a path within a set is one within a greater set
path_within : (g : Graph) (small large : ℕ → Bool) → ((v : ℕ) → small v ≡ true → large v ≡ true)
    → (units : List ℕ) (x y : ℕ) → IsPath g small units x y → IsPath g large units x y
path_within g small large more [] x y p = absurd p
path_within g small large more (w ∷ []) x y p = (p.0, p.1, (p.2.0, more w p.2.1))
path_within g small large more (w ∷ t ∷ rest) x y p = (p.0, (p.1.0, more w p.1.1), p.2, path_within g small large more (t ∷ rest) t y p.3)

-- each other unit of a unit's district stays behind
pub left_behind : (g : Graph) (plan : List ℕ) (u v : ℕ) → IsIn g (in_district plan (slice_index plan u)) v → (v ≡ u → ⊥) → IsIn g (stays_behind plan u) v
left_behind g plan u v i off = (i.0, and_from (in_district plan (slice_index plan u) v) (not (v == u)) i.1 (not_from_false (v == u) (ne_eqb v u off)))

-- no unit of a simple graph is its own neighbor
pub not_beside_itself : (g : Graph) (u : ℕ) → IsSimple g → (b : ℕ) → adjacent g u b ≡ true → b ≡ u → ⊥
not_beside_itself g u simple b h e = both_ways (adjacent g u u) (simple.loopless u) (subst (λ t. adjacent g u t ≡ true) e h)

-- ---- around the unit

module _ (g : Graph) (plan : List ℕ) (u : ℕ) (simple : IsSimple g) (local : IsLocal g plan u) where
  district : ℕ → Bool
  district = in_district plan (slice_index plan u)

  -- a mate of u stays behind
  mate_stays : (v : ℕ) → is_mate g plan u v ≡ true → stays_behind plan u v ≡ true
  mate_stays v h =
      let parts = and_parts (adjacent g u v) (in_district plan (slice_index plan u) v) h in
      and_from (in_district plan (slice_index plan u) v) (not (v == u)) parts.1
      (not_from_false (v == u) (ne_eqb v u (λ e. both_ways (adjacent g u u) (simple.loopless u) (subst (λ t. adjacent g u t ≡ true) e parts.0))))

  -- each unit of the district except u stays behind
  behind : (v : ℕ) → IsIn g district v → (v ≡ u → ⊥) → IsIn g (stays_behind plan u) v
  unfolding district
  behind v i off = left_behind g plan u v i off

  -- two mates have a path that avoids u
  round : (a b : ℕ) → IsIn g district a → IsIn g district b → adjacent g a u ≡ true → adjacent g u b ≡ true → HasPath g (stays_behind plan u) a b
  unfolding district
  round a b ia ib au ub =
      let mate_a : is_mate g plan u a ≡ true = and_from (adjacent g u a) (in_district plan (slice_index plan u) a) (simple.symmetric u a ∙ au) ia.1 in
      let mate_b : is_mate g plan u b ≡ true = and_from (adjacent g u b) (in_district plan (slice_index plan u) b) ub ib.1 in
      let path = local.joined a b (ia.0, mate_a) (ib.0, mate_b) in
      (path.0, path_within g (is_mate g plan u) (stays_behind plan u) mate_stays path.0 a b path.1)

  -- the first unit of a path is in the set
  first_in : (v : ℕ) (rest : List ℕ) (y : ℕ) → IsPath g district (v ∷ rest) v y → IsIn g district v
  first_in v [] y p = p.2
  first_in v (w ∷ rest) y p = p.1

  -- a path of the district between units that stay behind gives one that avoids u
  detour : (units : List ℕ) (x y : ℕ) → IsPath g district units x y → (x ≡ u → ⊥) → (y ≡ u → ⊥) → HasPath g (stays_behind plan u) x y
  detour [] x y p off-x off-y = absurd p
  detour (w ∷ []) x y p off-x off-y =
      let i = behind w p.2 (λ e. off-x (sym p.0 ∙ e)) in (w ∷ [], (p.0, p.1, i))
  detour (w ∷ t ∷ []) x y p off-x off-y =
      let off-t : t ≡ u → ⊥ = λ e. off-y (sym p.3.1 ∙ e) in
      (w ∷ t ∷ [], (p.0, behind w p.1 (λ e. off-x (sym p.0 ∙ e)), p.2, (refl, p.3.1, behind t p.3.2 off-t)))
  detour (w ∷ t ∷ s ∷ rest) x y p off-x off-y =
      let off-w : w ≡ u → ⊥ = λ e. off-x (sym p.0 ∙ e) in
      elim (cases_eq t u) [
        | inr off-t ↦ subst (λ v. HasPath g (stays_behind plan u) v y) p.0
            (path_before g (stays_behind plan u) w t y (behind w p.1 off-w) p.2 (detour (t ∷ s ∷ rest) t y p.3 off-t off-y))
        | inl at ↦
            let au : adjacent g w u ≡ true = subst (λ v. adjacent g w v ≡ true) at p.2 in
            let ub : adjacent g u s ≡ true = subst (λ v. adjacent g v s ≡ true) at p.3.2 in
            let path = round w s p.1 (first_in s rest y p.3.3) au ub in
            subst (λ v. HasPath g (stays_behind plan u) v y) p.0
            (joined_from g (stays_behind plan u) path.0 w s y path.1 (detour (s ∷ rest) s y p.3.3 (not_beside_itself g u simple s ub) off-y))
      ]

  pub may_leave : IsConnected g (in_district plan (slice_index plan u)) → MayLeave g plan u
  unfolding district
  may_leave connected = record {
    inhabited = (local.inhabited.0, (local.inhabited.1.0, mate_stays local.inhabited.0 local.inhabited.1.1));
    joined = λ x y ix iy.
        let px = and_parts (in_district plan (slice_index plan u) x) (not (x == u)) ix.1 in
        let py = and_parts (in_district plan (slice_index plan u) y) (not (y == u)) iy.1 in
        let path = connected.joined x y (ix.0, px.0) (iy.0, py.0) in
        detour path.0 x y path.1 (apart x px.1) (apart y py.1);
  }
    where
      apart : (v : ℕ) → not (v == u) ≡ true → v ≡ u → ⊥
      apart v h e = both_ways (v == u) (not-true (v == u) h) (eq-eqb v u e)

-- a graph within its invariant is simple
pub simple : (g : Graph) → IsGraph g → IsSimple g
simple g graph = record { symmetric = graph.symmetric; loopless = graph.loopless }
