-- A district with one more unit: the full plan has a filler in the district, and the bare plan has it elsewhere.
use Rattle.std.proofs.Common.{◌≡◌, ℕ, ◌<◌, Bool, true, not, List, length, get_or, set, sym, ap, ◌∙◌, subst, inl, inr, get_or-set_same, get_or-set_other}
use Rattle.std.specs.Prelude.{◌==◌, ◌⊎◌, slice_index}
use Rattle.std.proofs.lemmas.List.{set-set, set-get_or}
use Rattle.std.proofs.lemmas.Bool.{and_parts, and_from, cases_eq, eq-eqb, eqb-true, ne_eqb, both_ways, not_from_false, not-true}
use Rattle.audit_model.specs.Graph.{Graph, adjacent, IsIn, IsGraph}
use Rattle.audit_model.specs.Local.{stays_behind, MayLeave}
use Rattle.audit_model.specs.Path.{HasPath, IsConnected}
use Rattle.audit_model.specs.District.{in_district}
use Rattle.audit_model.proofs.Paths.{path_one, path_before, path_after, path_joined, path_within}

-- a set with the same units as a connected one is connected
connected_alike : (g : Graph) (p q : ℕ → Bool) → ((v : ℕ) → IsIn g p v → IsIn g q v) → ((v : ℕ) → IsIn g q v → IsIn g p v) → IsConnected g p → IsConnected g q
connected_alike g p q more less connected = record {
  inhabited = (connected.inhabited.0, more connected.inhabited.0 connected.inhabited.1);
  joined = λ x y ix iy. path_within g p q more x y (connected.joined x y (less x ix) (less y iy));
}

-- a connected set stays connected with one more unit that has a neighbor in it
connected_more : (g : Graph) (small large : ℕ → Bool) (f m : ℕ) → IsGraph g → ((v : ℕ) → IsIn g small v → IsIn g large v)
    → ((v : ℕ) → IsIn g large v → (v ≡ f) ⊎ IsIn g small v) → IsIn g large f → IsIn g small m → adjacent g f m ≡ true → IsConnected g small → IsConnected g large
connected_more g small large f m graph more only large_f small_m near connected = record {
  inhabited = (f, large_f);
  joined = λ x y ix iy. path_joined g large x m y (before x ix) (after y iy);
}
  where
    at_m : HasPath g large m m
    at_m = path_one g large m (more m small_m)

    before : (x : ℕ) → IsIn g large x → HasPath g large x m
    before x ix = elim (only x ix) [
      | inl e ↦ subst (λ t. HasPath g large t m) (sym e) (path_before g large f m m large_f near at_m)
      | inr i ↦ path_within g small large more x m (connected.joined x m i small_m)
    ]

    after : (y : ℕ) → IsIn g large y → HasPath g large m y
    after y iy = elim (only y iy) [
      | inl e ↦ subst (λ t. HasPath g large m t) (sym e) (path_after g large m m f at_m large_f (graph.symmetric m f ∙ near))
      | inr i ↦ path_within g small large more m y (connected.joined m y small_m i)
    ]

-- ---- one filler

-- the full plan has f in u's district, the bare plan has f elsewhere, and they agree on all other units
pub record IsFilled (full bare : List ℕ) (u f : ℕ) : Type 0 where
  pub same : (v : ℕ) → (v ≡ f → ⊥) → get_or full v 0 ≡ get_or bare v 0
  pub inside : get_or full f 0 ≡ get_or full u 0
  pub outside : get_or bare f 0 ≡ get_or bare u 0 → ⊥

module _ (g : Graph) (full bare : List ℕ) (u f : ℕ) (s : IsFilled full bare u f) where
  home : get_or full u 0 ≡ get_or bare u 0
  home = s.same u (λ e. s.outside (ap (λ t. get_or bare t 0) (sym e)))

  -- a unit of the bare district is another one than f
  other : (v : ℕ) → in_district bare (slice_index bare u) v ≡ true → v ≡ f → ⊥
  other v h e = s.outside (ap (λ t. get_or bare t 0) (sym e) ∙ eqb-true (get_or bare v 0) (get_or bare u 0) h)

  to_full : (v : ℕ) → in_district bare (slice_index bare u) v ≡ true → in_district full (slice_index full u) v ≡ true
  to_full v h = eq-eqb (get_or full v 0) (get_or full u 0) (s.same v (other v h) ∙ eqb-true (get_or bare v 0) (get_or bare u 0) h ∙ sym home)

  to_bare : (v : ℕ) → (v ≡ f → ⊥) → in_district full (slice_index full u) v ≡ true → in_district bare (slice_index bare u) v ≡ true
  to_bare v off h = eq-eqb (get_or bare v 0) (get_or bare u 0) (sym (s.same v off) ∙ eqb-true (get_or full v 0) (get_or full u 0) h ∙ home)

  not_u : f ≡ u → ⊥
  not_u e = s.outside (ap (λ t. get_or bare t 0) e)

  split : (v : ℕ) → IsIn g (in_district full (slice_index full u)) v → (v ≡ f) ⊎ IsIn g (in_district bare (slice_index bare u)) v
  split v i = elim (cases_eq v f) [ inl e ↦ inl e | inr off ↦ inr (i.0, to_bare v off i.1) ]

  behind_full : (v : ℕ) → IsIn g (stays_behind bare u) v → IsIn g (stays_behind full u) v
  behind_full v i =
      let parts = and_parts (in_district bare (slice_index bare u) v) (not (v == u)) i.1 in
      (i.0, and_from (in_district full (slice_index full u) v) (not (v == u)) (to_full v parts.0) parts.1)

  behind_bare : (v : ℕ) → (v ≡ f → ⊥) → IsIn g (stays_behind full u) v → IsIn g (stays_behind bare u) v
  behind_bare v off i =
      let parts = and_parts (in_district full (slice_index full u) v) (not (v == u)) i.1 in
      (i.0, and_from (in_district bare (slice_index bare u) v) (not (v == u)) (to_bare v off parts.0) parts.1)

  module _ (graph : IsGraph g) (m : ℕ) (lf : f < g.units) (im : IsIn g (stays_behind bare u) m) (near : adjacent g f m ≡ true) where
    -- the district with the filler is connected
    pub filled_connected : IsConnected g (in_district bare (slice_index bare u)) → IsConnected g (in_district full (slice_index full u))
    filled_connected connected =
        connected_more g (in_district bare (slice_index bare u)) (in_district full (slice_index full u)) f m graph
        (λ v i. (i.0, to_full v i.1)) split (lf, eq-eqb (get_or full f 0) (get_or full u 0) s.inside)
        (im.0, (and_parts (in_district bare (slice_index bare u) m) (not (m == u)) im.1).0) near connected

    -- a unit that may leave the bare district may leave the full one
    pub filled_may : MayLeave g bare u → MayLeave g full u
    filled_may may =
        connected_more g (stays_behind bare u) (stays_behind full u) f m graph behind_full
        (λ v i. elim (cases_eq v f) [ inl e ↦ inl e | inr off ↦ inr (behind_bare v off i) ])
        (lf, and_from (in_district full (slice_index full u) f) (not (f == u)) (eq-eqb (get_or full f 0) (get_or full u 0) s.inside) (not_from_false (f == u) (ne_eqb f u not_u)))
        im near may

  -- ---- the full plan with u elsewhere

  module _ (rest : List ℕ) (alike : (v : ℕ) → (v ≡ u → ⊥) → get_or rest v 0 ≡ get_or full v 0) (gone : get_or rest u 0 ≡ get_or full u 0 → ⊥) where
    rest_home : get_or rest f 0 ≡ get_or full u 0
    rest_home = alike f not_u ∙ s.inside

    -- a unit of the filler's district there is another one than u
    rest_other : (v : ℕ) → in_district rest (slice_index rest f) v ≡ true → v ≡ u → ⊥
    rest_other v h e = gone (ap (λ t. get_or rest t 0) (sym e) ∙ eqb-true (get_or rest v 0) (get_or rest f 0) h ∙ rest_home)

    from_rest : (v : ℕ) → in_district rest (slice_index rest f) v ≡ true → stays_behind full u v ≡ true
    from_rest v h =
        let off = rest_other v h in
        and_from (in_district full (slice_index full u) v) (not (v == u))
        (eq-eqb (get_or full v 0) (get_or full u 0) (sym (alike v off) ∙ eqb-true (get_or rest v 0) (get_or rest f 0) h ∙ rest_home))
        (not_from_false (v == u) (ne_eqb v u off))

    is_off : (v w : ℕ) → not (v == w) ≡ true → v ≡ w → ⊥
    is_off v w h e = both_ways (v == w) (not-true (v == w) h) (eq-eqb v w e)

    to_rest : (v : ℕ) → stays_behind full u v ≡ true → in_district rest (slice_index rest f) v ≡ true
    to_rest v h =
        let parts = and_parts (in_district full (slice_index full u) v) (not (v == u)) h in
        eq-eqb (get_or rest v 0) (get_or rest f 0) (alike v (is_off v u parts.1) ∙ eqb-true (get_or full v 0) (get_or full u 0) parts.0 ∙ sym rest_home)

    -- without u, the district is the filler's
    pub rest_connected : MayLeave g full u → IsConnected g (in_district rest (slice_index rest f))
    rest_connected may = connected_alike g (stays_behind full u) (in_district rest (slice_index rest f)) (λ v i. (i.0, to_rest v i.1)) (λ v i. (i.0, from_rest v i.1)) may

    -- if the filler may leave it, u may leave the bare district
    pub bare_may : MayLeave g rest f → MayLeave g bare u
    bare_may may = connected_alike g (stays_behind rest f) (stays_behind bare u) more less may
      where
        more : (v : ℕ) → IsIn g (stays_behind rest f) v → IsIn g (stays_behind bare u) v
        more v i =
            let parts = and_parts (in_district rest (slice_index rest f) v) (not (v == f)) i.1 in
            behind_bare v (is_off v f parts.1) (i.0, from_rest v parts.0)

        less : (v : ℕ) → IsIn g (stays_behind bare u) v → IsIn g (stays_behind rest f) v
        less v i =
            let off = other v (and_parts (in_district bare (slice_index bare u) v) (not (v == u)) i.1).0 in
            (i.0, and_from (in_district rest (slice_index rest f) v) (not (v == f)) (to_rest v (behind_full v i).1) (not_from_false (v == f) (ne_eqb v f off)))

-- ---- plans that differ in one unit

-- moving f into u's district fills it
pub filled_by : (plan : List ℕ) (u f : ℕ) → f < length plan → (get_or plan f 0 ≡ get_or plan u 0 → ⊥) → IsFilled (set plan f (get_or plan u 0)) plan u f
filled_by plan u f lf outside = record {
  same = λ v off. get_or-set_other plan f v (get_or plan u 0) 0 off;
  inside = get_or-set_same plan f (get_or plan u 0) 0 lf ∙ sym (get_or-set_other plan f u (get_or plan u 0) 0 (λ e. outside (ap (λ t. get_or plan t 0) (sym e))));
  outside = outside;
}

-- moving f out of u's district leaves it bare
pub bare_by : (plan : List ℕ) (u f d : ℕ) → f < length plan → (f ≡ u → ⊥) → get_or plan f 0 ≡ get_or plan u 0 → (d ≡ get_or plan u 0 → ⊥) → IsFilled plan (set plan f d) u f
bare_by plan u f d lf apart inside outside = record {
  same = λ v off. sym (get_or-set_other plan f v d 0 off);
  inside = inside;
  outside = λ e. outside (sym (get_or-set_same plan f d 0 lf) ∙ e ∙ get_or-set_other plan f u d 0 (λ h. apart (sym h)));
}

-- moving f elsewhere and back changes nothing
pub put_back : (plan : List ℕ) (f d : ℕ) → set (set plan f d) f (get_or plan f 0) ≡ plan
put_back plan f d = set-set plan f d (get_or plan f 0) ∙ set-get_or plan f 0
