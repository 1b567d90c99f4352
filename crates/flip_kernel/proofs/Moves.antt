-- A proposal is a move exactly if four conditions hold: the pair is open, both populations stay within bounds, the plan
-- after it meets the rules, and the unit may leave its district.
use Rattle.std.proofs.Common.{◌≡◌, ℕ, ◌+◌, ◌<◌, ◌≤◌, Bool, true, false, cond, not, ◌==◌, List, [], ◌∷◌, length, get_or, set, refl, sym, ap, ◌∙◌, subst, inl, inr, arith, length-set}
use Rattle.std.specs.Prelude.{◌⊎◌, ◌↔◌, IsTrue, nat_le}
use Rattle.std.proofs.lemmas.Bool.{and_from, and_parts, cases_eq, le-leb, leb-true, eq-eqb, eqb-true, ne_eqb, and_right, both_ways, false≢true, cond-true, cond-false, not_from_true, not_from_false}
use Rattle.std.proofs.lemmas.List.{get_or-set_same, get_or-set_other}
use Rattle.audit_model.specs.Graph.{Graph, IsGraph, adjacent, IsIn}
use Rattle.audit_model.specs.Job.{Job, rules}
use Rattle.audit_model.specs.JobOf.{IsJob}
use Rattle.audit_model.specs.Local.{stays_behind, MayLeave}
use Rattle.audit_model.specs.Length.{cut_length}
use Rattle.audit_model.specs.Meets.{Meets, meets_rules}
use Rattle.audit_model.specs.Path.{IsPath, HasPath, IsConnected}
use Rattle.audit_model.specs.District.{in_district, district_sum}
use Rattle.audit_model.specs.Plan.{cut_edges, IsBalanced, IsLegal, least_population, greatest_population}
use Rattle.audit_model.proofs.Accepted.{balanced_between}
use Rattle.audit_model.proofs.Bools.{and_true}
use Rattle.audit_model.proofs.Meeting.{meets_passes, passes_meets}
use Rattle.audit_model.proofs.Paths.{path_one, path_before, path_after, path_joined, path_within, first_in}
use Rattle.district_sums.proofs.Shifted.{shifted_sum}
use Rattle.flip_kernel.specs.ChainState.{IsMove, KeepsBounds, allows}
use Rattle.flip_kernel.specs.OpenPairs.{is_open}
use Rattle.flip_kernel.proofs.Beside.{open_from, open_neighbour, in_other}
use Rattle.flip_kernel.proofs.Holding.{put_back}

-- ---- connected sets

-- equal sets are connected alike
connected_same : (g : Graph) (p q : ℕ → Bool) → ((v : ℕ) → p v ≡ q v) → IsConnected g p → IsConnected g q
connected_same g p q same connected = record {
  inhabited = (connected.inhabited.0, into connected.inhabited.0 connected.inhabited.1);
  joined = λ x y ix iy. path_within g p q into x y (connected.joined x y (back x ix) (back y iy));
}
  where
    into : (v : ℕ) → IsIn g p v → IsIn g q v
    into v i = (i.0, sym (same v) ∙ i.1)

    back : (v : ℕ) → IsIn g q v → IsIn g p v
    back v i = (i.0, same v ∙ i.1)

-- a connected set with one more unit adjacent to it is connected
connected_more : (g : Graph) (small large : ℕ → Bool) (u w : ℕ) → IsGraph g → u < g.units → large u ≡ true → ((v : ℕ) → small v ≡ true → large v ≡ true)
    → ((v : ℕ) → large v ≡ true → (v ≡ u) ⊎ (small v ≡ true)) → adjacent g u w ≡ true → small w ≡ true → IsConnected g small → IsConnected g large
connected_more g small large u w sound lt u_in more one near w_in connected = record {
  inhabited = (u, (lt, u_in));
  joined = λ x y ix iy. path_joined g large x w y (to_w x ix) (from_w y iy);
}
  where
    into : (v : ℕ) → IsIn g small v → IsIn g large v
    into v i = (i.0, more v i.1)

    w_small : IsIn g small w
    w_small = (sound.below u w near, w_in)

    to_w : (x : ℕ) → IsIn g large x → HasPath g large x w
    to_w x ix = elim (one x ix.1) [
      | inl e ↦ subst (λ (v : ℕ). HasPath g large v w) (sym e) (path_before g large u w w (lt, u_in) near (path_one g large w (into w w_small)))
      | inr old ↦ path_within g small large into x w (connected.joined x w (ix.0, old) w_small)
    ]

    from_w : (y : ℕ) → IsIn g large y → HasPath g large w y
    from_w y iy = elim (one y iy.1) [
      | inl e ↦ subst (λ (v : ℕ). HasPath g large w v) (sym e) (path_after g large w w u (path_one g large w (into w w_small)) (lt, u_in) (sound.symmetric w u ∙ near))
      | inr old ↦ path_within g small large into w y (connected.joined w y w_small (iy.0, old))
    ]

-- the second unit of a path that leads elsewhere
second_of : (g : Graph) (inside : ℕ → Bool) (units : List ℕ) (u x : ℕ) → IsPath g inside units u x → (x ≡ u → ⊥) → (v : ℕ) × (adjacent g u v ≡ true) × (inside v ≡ true)
second_of g inside [] u x p off = absurd p
second_of g inside (a ∷ []) u x p off = absurd (off (sym p.1 ∙ p.0))
second_of g inside (a ∷ b ∷ rest) u x p off = (b, subst (λ (v : ℕ). adjacent g v b ≡ true) p.0 p.2, (first_in g inside b rest b x p.3).1)

-- ---- the rules and the length

-- a plan that is allowed meets the rules, and its cut edges are not too long
allows_parts : (job : Job) (plan : List ℕ) → allows job plan ≡ true
    → (cut_length job.graph job.counts.lengths plan ≤ job.setting.max_length) × Meets (rules job) (cut_edges job.graph plan) plan
allows_parts job plan h =
    let parts = and_parts (nat_le (cut_length job.graph job.counts.lengths plan) job.setting.max_length) (meets_rules (rules job) (cut_edges job.graph plan) plan) h in
    (leb-true (cut_length job.graph job.counts.lengths plan) job.setting.max_length parts.0, passes_meets (rules job) (cut_edges job.graph plan) plan parts.1)

-- a legal plan is allowed
pub legal_allows : (job : Job) (plan : List ℕ) → IsLegal job plan → allows job plan ≡ true
legal_allows job plan legal =
    and_from (nat_le (cut_length job.graph job.counts.lengths plan) job.setting.max_length) (meets_rules (rules job) (cut_edges job.graph plan) plan)
    (le-leb (cut_length job.graph job.counts.lengths plan) job.setting.max_length legal.short)
    (meets_passes (rules job) (cut_edges job.graph plan) plan legal.meeting)

-- ---- the plan after the flip

module _ (job : Job) (plan : List ℕ) (u d : ℕ) (sound : IsJob job) (legal : IsLegal job plan) (inside : u < job.graph.units) (within : d < job.districts)
    (off : get_or plan u 0 ≡ d → ⊥) where
  l : u < length plan
  l = omega (arith, inside, legal.complete)

  graph : IsGraph job.graph
  graph = sound.within.input.simple

  in_home : get_or plan u 0 < job.districts
  in_home = legal.in_range u inside

  in_old : (v : ℕ) → in_district (set plan u d) (get_or plan u 0) v ≡ stays_behind plan u v
  in_old v = elim (cases_eq v u) [
    | inl e ↦
        ap (in_district (set plan u d) (get_or plan u 0)) e
        ∙ ap (λ (x : ℕ). x == get_or plan u 0) (get_or-set_same plan u d 0 l)
        ∙ ne_eqb d (get_or plan u 0) (λ x. off (sym x))
        ∙ sym (and_right (in_district plan (get_or plan u 0) v) (not (v == u)) (not_from_true (v == u) (eq-eqb v u e)))
    | inr apart ↦
        ap (λ (x : ℕ). x == get_or plan u 0) (get_or-set_other plan u v d 0 apart)
        ∙ sym (and_true (in_district plan (get_or plan u 0) v) (not (v == u)) (not_from_false (v == u) (ne_eqb v u apart)))
  ]

  u_in : in_district (set plan u d) d u ≡ true
  u_in = eq-eqb (get_or (set plan u d) u 0) d (get_or-set_same plan u d 0 l)

  in_more : (v : ℕ) → in_district plan d v ≡ true → in_district (set plan u d) d v ≡ true
  in_more v h =
      let apart : v ≡ u → ⊥ = λ e. off (ap (λ (x : ℕ). get_or plan x 0) (sym e) ∙ eqb-true (get_or plan v 0) d h) in
      ap (λ (x : ℕ). x == d) (get_or-set_other plan u v d 0 apart) ∙ h

  in_one : (v : ℕ) → in_district (set plan u d) d v ≡ true → (v ≡ u) ⊎ (in_district plan d v ≡ true)
  in_one v h = elim (cases_eq v u) [
    | inl e ↦ inl e
    | inr apart ↦ inr (sym (ap (λ (x : ℕ). x == d) (get_or-set_other plan u v d 0 apart)) ∙ h)
  ]

  -- ---- populations

  abbrev people : ℕ
  people = get_or job.counts.population u 0

  abbrev sum_in : List ℕ → ℕ → ℕ
  sum_in p e = district_sum job.counts.population p e

  left_sum : sum_in (set plan u d) (get_or plan u 0) + people ≡ sum_in plan (get_or plan u 0)
  left_sum =
      let home : ℕ = get_or plan u 0 in
      let shifted = shifted_sum plan u d l job.counts.population home in
      let from : cond {A = ℕ} (home == home) people 0 ≡ people = cond-true {A = ℕ} (home == home) people 0 (eq-eqb home home refl) in
      let to : cond {A = ℕ} (d == home) people 0 ≡ 0 = cond-false {A = ℕ} (d == home) people 0 (ne_eqb d home (λ x. off (sym x))) in
      omega (arith, shifted, from, to)

  joined_sum : sum_in (set plan u d) d ≡ sum_in plan d + people
  joined_sum =
      let home : ℕ = get_or plan u 0 in
      let shifted = shifted_sum plan u d l job.counts.population d in
      let from : cond {A = ℕ} (home == d) people 0 ≡ 0 = cond-false {A = ℕ} (home == d) people 0 (ne_eqb home d off) in
      let to : cond {A = ℕ} (d == d) people 0 ≡ people = cond-true {A = ℕ} (d == d) people 0 (eq-eqb d d refl) in
      omega (arith, shifted, from, to)

  same_sum : (e : ℕ) → (e ≡ get_or plan u 0 → ⊥) → (e ≡ d → ⊥) → sum_in (set plan u d) e ≡ sum_in plan e
  same_sum e apart other =
      let home : ℕ = get_or plan u 0 in
      let shifted = shifted_sum plan u d l job.counts.population e in
      let from : cond {A = ℕ} (home == e) people 0 ≡ 0 = cond-false {A = ℕ} (home == e) people 0 (ne_eqb home e (λ x. apart (sym x))) in
      let to : cond {A = ℕ} (d == e) people 0 ≡ 0 = cond-false {A = ℕ} (d == e) people 0 (ne_eqb d e (λ x. other (sym x))) in
      omega (arith, shifted, from, to)

  bounded : (p : List ℕ) (e : ℕ) → IsBalanced job (sum_in p e) → (least_population job ≤ sum_in p e) × (sum_in p e ≤ greatest_population job)
  bounded p e balanced = (balanced_between job (sum_in p e) (omega (arith, within))).0 balanced

  balanced_from : (p : List ℕ) (e : ℕ) → least_population job ≤ sum_in p e → sum_in p e ≤ greatest_population job → IsBalanced job (sum_in p e)
  balanced_from p e low high = (balanced_between job (sum_in p e) (omega (arith, within))).1 (low, high)

  abbrev Keeps : Type 0
  Keeps = KeepsBounds (least_population job) (greatest_population job) people (sum_in plan (get_or plan u 0)) (sum_in plan d)

  balanced_after : Keeps → (e : ℕ) → e < job.districts → IsBalanced job (sum_in (set plan u d) e)
  balanced_after keeps e le = elim (cases_eq e (get_or plan u 0)) [
    | inl home ↦
        let old = bounded plan (get_or plan u 0) (legal.balanced (get_or plan u 0) in_home) in
        subst (λ (x : ℕ). IsBalanced job (sum_in (set plan u d) x)) (sym home)
        (balanced_from (set plan u d) (get_or plan u 0) (omega (arith, keeps.left, left_sum)) (omega (arith, old.1, left_sum)))
    | inr apart ↦ elim (cases_eq e d) [
      | inl here ↦
          let old = bounded plan d (legal.balanced d within) in
          subst (λ (x : ℕ). IsBalanced job (sum_in (set plan u d) x)) (sym here)
          (balanced_from (set plan u d) d (omega (arith, old.0, joined_sum)) (omega (arith, keeps.joined, joined_sum)))
      | inr other ↦ subst (λ (n : ℕ). IsBalanced job n) (sym (same_sum e apart other)) (legal.balanced e le)
    ]
  ]

  -- a district has at least the people of each of its units, and both populations are within the bounds
  pub people_fit : (people ≤ sum_in plan (get_or plan u 0))
      × ((least_population job ≤ sum_in plan (get_or plan u 0)) × (sum_in plan (get_or plan u 0) ≤ greatest_population job))
      × (sum_in plan d ≤ greatest_population job)
  people_fit = (
    omega (arith, left_sum),
    bounded plan (get_or plan u 0) (legal.balanced (get_or plan u 0) in_home),
    (bounded plan d (legal.balanced d within)).1,
  )

  -- ---- both directions

  connected_after : is_open job.graph plan u d ≡ true → MayLeave job.graph plan u → (e : ℕ) → e < job.districts → IsConnected job.graph (in_district (set plan u d) e)
  connected_after beside leaves e le = elim (cases_eq e (get_or plan u 0)) [
    | inl home ↦ subst (λ (x : ℕ). IsConnected job.graph (in_district (set plan u d) x)) (sym home)
        (connected_same job.graph (stays_behind plan u) (in_district (set plan u d) (get_or plan u 0)) (λ v. sym (in_old v)) leaves)
    | inr apart ↦ elim (cases_eq e d) [
      | inl here ↦
          let w = open_neighbour job.graph plan u d beside in
          subst (λ (x : ℕ). IsConnected job.graph (in_district (set plan u d) x)) (sym here)
          (connected_more job.graph (in_district plan d) (in_district (set plan u d) d) u w.0 graph inside u_in in_more in_one w.1 (eq-eqb (get_or plan w.0 0) d w.2)
          (legal.connected d within))
      | inr other ↦ connected_same job.graph (in_district plan e) (in_district (set plan u d) e) (λ v. sym (in_other job.graph plan u d l e v other apart)) (legal.connected e le)
    ]
  ]

  pub is_move : is_open job.graph plan u d ≡ true → Keeps → allows job (set plan u d) ≡ true → MayLeave job.graph plan u → IsMove job plan u d
  is_move beside keeps allowed leaves = let parts = allows_parts job (set plan u d) allowed in record {
    elsewhere = off;
    legal = record {
      complete = length-set plan u d ∙ legal.complete;
      in_range = λ v lv. elim (cases_eq v u) [
        | inl e ↦ subst (λ (x : ℕ). x < job.districts) (sym (ap (λ (x : ℕ). get_or (set plan u d) x 0) e ∙ get_or-set_same plan u d 0 l)) within
        | inr apart ↦ subst (λ (x : ℕ). x < job.districts) (sym (get_or-set_other plan u v d 0 apart)) (legal.in_range v lv)
      ];
      connected = connected_after beside leaves;
      balanced = balanced_after keeps;
      meeting = parts.1;
      short = parts.0;
    };
  }

  module _ (move : IsMove job plan u d) where
    pub move_is_open : is_open job.graph plan u d ≡ true
    move_is_open =
        let x = (legal.connected d within).inhabited in
        let apart : x.0 ≡ u → ⊥ = λ e. off (ap (λ (v : ℕ). get_or plan v 0) (sym e) ∙ eqb-true (get_or plan x.0 0) d x.1.1) in
        let path = (move.legal.connected d within).joined u x.0 (inside, u_in) (x.1.0, in_more x.0 x.1.1) in
        let second = second_of job.graph (in_district (set plan u d) d) path.0 u x.0 path.1 apart in
        elim (in_one second.0 second.2) [
          | inl e ↦ absurd (both_ways (adjacent job.graph u u) (graph.loopless u) (subst (λ (v : ℕ). adjacent job.graph u v ≡ true) e second.1))
          | inr old ↦ open_from job.graph plan u d second.0 off second.1 (eqb-true (get_or plan second.0 0) d old)
        ]

    pub move_keeps : Keeps
    move_keeps =
        let from = bounded (set plan u d) (get_or plan u 0) (move.legal.balanced (get_or plan u 0) in_home) in
        let to = bounded (set plan u d) d (move.legal.balanced d within) in
        record { left = omega (arith, from.0, left_sum); joined = omega (arith, to.1, joined_sum) }

    pub move_leaves : MayLeave job.graph plan u
    move_leaves = connected_same job.graph (in_district (set plan u d) (get_or plan u 0)) (stays_behind plan u) in_old (move.legal.connected (get_or plan u 0) in_home)

  -- without kept bounds, the flip is not a move
  pub not_kept : (kept : Bool) → kept ≡ false → IsTrue kept ↔ Keeps → IsTrue false ↔ IsMove job plan u d
  not_kept kept is observed = (λ moved. absurd (false≢true moved), λ move. absurd (both_ways kept is (observed.1 (move_keeps move))))

-- after a move, the pair back is open
pub left_is_open : (job : Job) (plan : List ℕ) (u d : ℕ) → IsJob job → IsLegal job plan → u < job.graph.units → d < job.districts → IsMove job plan u d
    → is_open job.graph (set plan u d) u (get_or plan u 0) ≡ true
left_is_open job plan u d sound legal inside within move =
    let here : get_or (set plan u d) u 0 ≡ d = get_or-set_same plan u d 0 (omega (arith, inside, legal.complete)) in
    let off : get_or (set plan u d) u 0 ≡ get_or plan u 0 → ⊥ = λ e. move.elsewhere (sym e ∙ here) in
    move_is_open job (set plan u d) u (get_or plan u 0) sound move.legal inside (legal.in_range u inside) off
    (record { elsewhere = off; legal = subst (IsLegal job) (sym (put_back plan (set plan u d) u d (get_or plan u 0) refl refl)) legal })
