-- The edges against the pairs of adjacent nodes.
use Rattle.std.proofs.Common.{◌≡◌, ℕ, zero, suc, ◌+◌, ◌<◌, ◌≤◌, Bool, true, false, not, ◌||◌, cond, List, [], ◌∷◌, ◌++◌, length, get_or, Option, Some, None, refl, sym, ap, ◌∙◌, subst, inl, inr, arith, length-append, append-nil}
use Rattle.std.specs.Prelude.{◌==◌, ◌⊎◌, ◌↔◌, ◌≢◌, nat_lt}
use Rattle.std.specs.Option.{option_and_then}
use Rattle.std.proofs.lemmas.Bool.{and_parts, and_from, or_cases, or_left, or_right, cases_lt, cases_order, cond-true, cond-false, lt-ltb, le-ltb, eq-eqb, eqb-true, ne_eqb, both_ways, false≢true, not_from_false, not-true, false_from_ne_true}
use Rattle.std.proofs.lemmas.List.{get_or_append_left, get_or_push, get_or_past, ext_get_or}
use Rattle.serde_json.specs.Data.{Data}
use Rattle.audit_model.specs.declared.setting.Label.{Label}
use Rattle.audit_model.specs.Below.{any_below, filter_below, map_below}
use Rattle.audit_model.specs.Graph.{Graph, IsGraph, has, adjacent}
use Rattle.audit_model.specs.Label.{same_label}
use Rattle.audit_statement.specs.Reading.{id_of, same_id}
use Rattle.audit_model.proofs.Connected.{has-filter_below, filter_below-has}
use Rattle.audit_model.proofs.Options.{option_map_none}
use Rattle.audit_model.proofs.Below.{any_below_some, any_below_from, length-map_below, get_or-map_below}
use Rattle.audit_model.proofs.First.{first_below_none, first_passes}
use Rattle.audit_model.proofs.ListFacts.{has_at, at_has, rises, first_has}
use Rattle.dual_graph.specs.Pairs.{pair_at, has_pair, ArePairsRising, ArePairs, Joins}
use Rattle.dual_graph.proofs.Counting.{edges_counted}
use Rattle.dual_graph.proofs.Ordered.{pair_is, pair_found, pair_there}
use Rattle.dual_json.specs.Edges.{entries_at, edge, has_edge, names_node, joined_in, graph_in, edges_in, LeadsTo, AreListed}
use Rattle.dual_json.specs.Places.{nth, object_at, place_of_label, repeated_label}
use Rattle.dual_json.proofs.Indexed.{same_turned, same_alike}

-- ---- distinct ids

-- without a repeated id, ids at two places differ
pub ids_apart : (ids : List Label) → repeated_label ids ≡ None → (i j : ℕ) → i < j → j < length ids → same_label (nth ids i) (nth ids j) ≡ false
ids_apart ids none i j l inside =
    let never = first_below_none (length ids) (λ k. any_below k (λ m. same_label (nth ids m) (nth ids k))) j (option_map_none _ _ none) inside in
    false_from_ne_true (same_label (nth ids i) (nth ids j)) (λ same. both_ways (any_below j (λ m. same_label (nth ids m) (nth ids j))) never
    (any_below_from j (λ m. same_label (nth ids m) (nth ids j)) i l same))

module _ (ids : List Label) (apart : repeated_label ids ≡ None) where
  -- the place of a label is unique
  one_place : (l : Label) (v w : ℕ) → v < length ids → w < length ids → same_label l (nth ids v) ≡ true → same_label l (nth ids w) ≡ true → v ≡ w
  one_place l v w lv lw sv sw =
      let back : same_label (nth ids v) (nth ids w) ≡ true = sym (same_alike l (nth ids v) (nth ids w) sv) ∙ sw in
      elim (cases_order v w) [
        | inl e ↦ e
        | inr off ↦ elim off [
          | inl under ↦ absurd (both_ways (same_label (nth ids v) (nth ids w)) (ids_apart ids apart v w under lw) back)
          | inr over ↦ absurd (both_ways (same_label (nth ids w) (nth ids v)) (ids_apart ids apart w v over lv) (same_turned (nth ids w) (nth ids v) ∙ back))
        ]
      ]

  found_or : (l : Label) (v : ℕ) (o : Option ℕ) → place_of_label ids l ≡ o → v < length ids → same_label l (nth ids v) ≡ true → o ≡ Some v
  found_or l v None is lv same = absurd (both_ways (same_label l (nth ids v)) (first_below_none (length ids) (λ i. same_label l (nth ids i)) v is lv) same)
  found_or l v (Some w) is lv same =
      let found = first_passes (length ids) (λ i. same_label l (nth ids i)) w is in
      ap Some (sym (one_place l v w lv found.0 same found.1))

  place_here : (l : Label) (v : ℕ) → v < length ids → same_label l (nth ids v) ≡ true → place_of_label ids l ≡ Some v
  place_here l v lv same = found_or l v (place_of_label ids l) refl lv same

  same_place : (o : Option Label) (v : ℕ) → v < length ids → same_id o (Some (nth ids v)) ≡ true → option_and_then (place_of_label ids) o ≡ Some v
  same_place None v lv same = absurd (false≢true same)
  same_place (Some l) v lv same = place_here l v lv same

  place_same : (o : Option Label) (v : ℕ) → option_and_then (place_of_label ids) o ≡ Some v → (v < length ids) × (same_id o (Some (nth ids v)) ≡ true)
  place_same None v is = cc is
  place_same (Some l) v is = let found = first_passes (length ids) (λ i. same_label l (nth ids i)) v is in (found.0, found.1)

  leads_names : (entries : List Data) (v : ℕ) → LeadsTo ids entries (length entries) v → (v < length ids) × (names_node ids entries v ≡ true)
  leads_names entries v leads =
      let same = place_same (id_of (object_at entries leads.0)) v leads.2 in
      (same.0, any_below_from (length entries) (λ place. same_id (id_of (object_at entries place)) (Some (nth ids v))) leads.0 leads.1 same.1)

  names_leads : (entries : List Data) (v : ℕ) → v < length ids → names_node ids entries v ≡ true → LeadsTo ids entries (length entries) v
  names_leads entries v lv names =
      let found = any_below_some (length entries) (λ place. same_id (id_of (object_at entries place)) (Some (nth ids v))) names in
      (found.0, found.1, same_place (id_of (object_at entries found.0)) v lv found.2)

-- ---- edges

-- the pair of an edge from a smaller to a greater unit
edge_up : (u v : ℕ) → u < v → edge u v ≡ (u, v)
edge_up u v l = cond-true {A = ℕ × ℕ} (nat_lt u v) (u, v) (v, u) (lt-ltb u v l)

-- the pair of an edge to a unit that is not greater
edge_down : (u v : ℕ) → v ≤ u → edge u v ≡ (v, u)
edge_down u v l = cond-false {A = ℕ × ℕ} (nat_lt u v) (u, v) (v, u) (le-ltb u v l)

-- the smaller and the greater unit of an edge
pub record HasEnds (u v : ℕ) (e : ℕ × ℕ) : Type 0 where
  pub smaller : e.0 < e.1
  pub either : ((e.0 ≡ u) × (e.1 ≡ v)) ⊎ ((e.0 ≡ v) × (e.1 ≡ u))

-- the pair of an edge has its two units
pub edge_ends : (u v : ℕ) (e : ℕ × ℕ) → v ≢ u → e ≡ edge u v → HasEnds u v e
edge_ends u v e off is = elim (cases_lt u v) [
  | inl up ↦
      let same : e ≡ (u, v) = is ∙ edge_up u v up in
      let a : e.0 ≡ u = ap (λ (p : ℕ × ℕ). p.0) same in
      let b : e.1 ≡ v = ap (λ (p : ℕ × ℕ). p.1) same in
      record { smaller = omega (arith, a, b, up); either = inl (a, b) }
  | inr down ↦
      let same : e ≡ (v, u) = is ∙ edge_down u v down in
      let a : e.0 ≡ v = ap (λ (p : ℕ × ℕ). p.0) same in
      let b : e.1 ≡ u = ap (λ (p : ℕ × ℕ). p.1) same in
      record { smaller = omega (arith, a, b, down, off); either = inr (a, b) }
]

-- ---- rows

-- the first number of a rising list is below all others
rises_far : (x : ℕ) (xs : List ℕ) → ((i : ℕ) → i + 1 < length (x ∷ xs) → get_or (x ∷ xs) i 0 < get_or (x ∷ xs) (i + 1) 0) → (v : ℕ) → has xs v ≡ true → x < v
rises_far x xs rising v there =
    let at = has_at xs v there in
    let is = at.2 in
    let under = at.1 in
    let up : x < get_or xs at.0 0 = rises (x ∷ xs) 0 (suc at.0) rising (omega arith) (omega (arith, under)) in
    omega (arith, up, is)

-- a rising list without its first number rises
later : (x : ℕ) (xs : List ℕ) → ((i : ℕ) → i + 1 < length (x ∷ xs) → get_or (x ∷ xs) i 0 < get_or (x ∷ xs) (i + 1) 0) → (i : ℕ) → i + 1 < length xs → get_or xs i 0 < get_or xs (i + 1) 0
later x xs rising i l =
    let next : suc i + 1 ≡ suc (i + 1) = omega arith in
    subst (λ (j : ℕ). get_or xs i 0 < get_or (x ∷ xs) j 0) next (rising (suc i) (omega arith))

-- a member is the first item or one of the others
one_of : (x : ℕ) (xs : List ℕ) (v : ℕ) → has (x ∷ xs) v ≡ true → (x ≡ v) ⊎ (has xs v ≡ true)
one_of x xs v h = elim (or_cases (x == v) (has xs v) h) [ inl e ↦ inl (eqb-true x v e) | inr e ↦ inr e ]

-- rising lists with equal members are equal
pub rising_same : (xs ys : List ℕ) → ((i : ℕ) → i + 1 < length xs → get_or xs i 0 < get_or xs (i + 1) 0) → ((i : ℕ) → i + 1 < length ys → get_or ys i 0 < get_or ys (i + 1) 0)
    → ((v : ℕ) → has xs v ≡ true → has ys v ≡ true) → ((v : ℕ) → has ys v ≡ true → has xs v ≡ true) → xs ≡ ys
rising_same [] [] rx ry into back = refl
rising_same [] (y ∷ ys) rx ry into back = absurd (false≢true (back y (first_has y ys)))
rising_same (x ∷ xs) [] rx ry into back = absurd (false≢true (into x (first_has x xs)))
rising_same (x ∷ xs) (y ∷ ys) rx ry into back =
    let same : x ≡ y = elim (one_of y ys x (into x (first_has x xs))) [
      | inl e ↦ sym e
      | inr in_ys ↦ elim (one_of x xs y (back y (first_has y ys))) [
        | inl e ↦ e
        | inr in_xs ↦ absurd (let up = rises_far y ys ry x in_ys in let down = rises_far x xs rx y in_xs in omega (arith, up, down))
      ]
    ] in
    ap (λ (a : ℕ). a ∷ xs) same
    ∙ ap (λ (l : List ℕ). y ∷ l) (rising_same xs ys (later x xs rx) (later y ys ry)
    (λ v h. elim (one_of y ys v (into v (or_right (x == v) (has xs v) h))) [
      | inl e ↦ absurd (let up = rises_far x xs rx v h in omega (arith, up, e, same))
      | inr there ↦ there
    ])
    (λ v h. elim (one_of x xs v (back v (or_right (y == v) (has ys v) h))) [
      | inl e ↦ absurd (let up = rises_far y ys ry v h in omega (arith, up, e, same))
      | inr there ↦ there
    ]))

-- appending a greater number keeps a list rising
rises_push : (xs : List ℕ) (n : ℕ) → ((i : ℕ) → i + 1 < length xs → get_or xs i 0 < get_or xs (i + 1) 0) → ((v : ℕ) → has xs v ≡ true → v < n)
    → (i : ℕ) → i + 1 < length (xs ++ n ∷ []) → get_or (xs ++ n ∷ []) i 0 < get_or (xs ++ n ∷ []) (i + 1) 0
rises_push xs n rising below i l = elim (cases_lt (i + 1) (length xs)) [
  | inl inside ↦
      let a : get_or (xs ++ n ∷ []) i 0 ≡ get_or xs i 0 = get_or_append_left xs (n ∷ []) 0 i (omega (arith, inside)) in
      let b : get_or (xs ++ n ∷ []) (i + 1) 0 ≡ get_or xs (i + 1) 0 = get_or_append_left xs (n ∷ []) 0 (i + 1) inside in
      omega (arith, a, b, rising i inside)
  | inr past ↦
      let end : length xs ≡ i + 1 = omega (arith, past, l, length-append xs (n ∷ [])) in
      let a : get_or (xs ++ n ∷ []) i 0 ≡ get_or xs i 0 = get_or_append_left xs (n ∷ []) 0 i (omega (arith, end)) in
      let b : get_or (xs ++ n ∷ []) (i + 1) 0 ≡ n = get_or_push xs n 0 (i + 1) end in
      let under : get_or xs i 0 < n = below (get_or xs i 0) (at_has xs i (omega (arith, end))) in
      omega (arith, a, b, under)
]

-- filtering one more number keeps the list rising, by whether it passes
filter_rises_by : (n : ℕ) (test : ℕ → Bool) (b : Bool) → ((i : ℕ) → i + 1 < length (filter_below n test) → get_or (filter_below n test) i 0 < get_or (filter_below n test) (i + 1) 0)
    → (i : ℕ) → i + 1 < length (filter_below n test ++ cond b (n ∷ []) []) → get_or (filter_below n test ++ cond b (n ∷ []) []) i 0 < get_or (filter_below n test ++ cond b (n ∷ []) []) (i + 1) 0
filter_rises_by n test true before = rises_push (filter_below n test) n before (λ v h. (has-filter_below n test v h).0)
filter_rises_by n test false before = subst (λ (xs : List ℕ). (i : ℕ) → i + 1 < length xs → get_or xs i 0 < get_or xs (i + 1) 0) (sym (append-nil (filter_below n test))) before

-- filtered numbers rise
pub filter_rises : (n : ℕ) (test : ℕ → Bool) (i : ℕ) → i + 1 < length (filter_below n test) → get_or (filter_below n test) i 0 < get_or (filter_below n test) (i + 1) 0
filter_rises zero test i l = absurd (omega (arith, l))
filter_rises (suc n) test i l = filter_rises_by n test (test n) (filter_rises n test) i l

-- a graph is determined by its units and adjacencies
pub graph_is : (g : Graph) (n : ℕ) (joins : ℕ → ℕ → Bool) → IsGraph g → g.units ≡ n
    → ((u v : ℕ) → adjacent g u v ≡ true → joins u v ≡ true) → ((u v : ℕ) → u < n → v < n → joins u v ≡ true → adjacent g u v ≡ true)
    → g ≡ record { units = n; neighbours = map_below n (λ u. filter_below n (joins u)) }
graph_is g n joins is units from to =
    let long : length g.neighbours ≡ length (map_below n (λ u. filter_below n (joins u))) = is.width ∙ units ∙ sym (length-map_below n (λ u. filter_below n (joins u))) in
    let rows : g.neighbours ≡ map_below n (λ u. filter_below n (joins u)) = ext_get_or [] g.neighbours (map_below n (λ u. filter_below n (joins u))) long
    (λ u l.
    let lu : u < n = omega (arith, l, is.width, units) in
    rising_same (get_or g.neighbours u []) (filter_below n (joins u)) (is.rising u) (filter_rises n (joins u))
    (λ v h. let lv : v < n = omega (arith, is.below u v h, units) in filter_below-has n (joins u) v lv (from u v h))
    (λ v h. let found = has-filter_below n (joins u) v h in to u v lu found.0 found.1)
    ∙ sym (get_or-map_below n (λ u. filter_below n (joins u)) u [] lu)) in
    made units rows
  where
    made : g.units ≡ n → g.neighbours ≡ map_below n (λ u. filter_below n (joins u)) → g ≡ record { units = n; neighbours = map_below n (λ u. filter_below n (joins u)) }
    made a b = ap (λ (m : ℕ). record { units = m; neighbours = g.neighbours }) a ∙ ap (λ (rows : List (List ℕ)). record { units = n; neighbours = rows }) b

-- ---- the graph as a whole

module _ (ids : List Label) (lists : List (List Data)) (long : length lists ≡ length ids) (apart : repeated_label ids ≡ None)
    (before pairs : List (ℕ × ℕ)) (are : AreListed ids lists (length lists) before) (same : (u v : ℕ) → (has_pair pairs u v ≡ true) ↔ (has_pair before u v ≡ true))
    (rising : ArePairsRising pairs) where
  ends : (e : ℕ × ℕ) → has_edge pairs e ≡ true → (u : ℕ) × (v : ℕ) × (u < length ids) × (v < length ids) × (names_node ids (entries_at lists u) v ≡ true) × (v ≢ u) × HasEnds u v e
  ends e h =
      let found = are.from e ((same e.0 e.1).0 h) in
      let lu : found.0 < length ids = let under = found.2 in omega (arith, under, long) in
      let leads = leads_names ids apart (entries_at lists found.0) found.1 found.3 in
      (found.0, found.1, lu, leads.0, leads.1, found.4, edge_ends found.0 found.1 e found.4 found.5)

  pub edges_pairs : ArePairs (length ids) pairs
  edges_pairs = record {
    small = λ k l. (ends (pair_at pairs k) (pair_there pairs k l)).6.smaller;
    below = λ k l.
        let found = ends (pair_at pairs k) (pair_there pairs k l) in
        let lu = found.2 in
        let lv = found.3 in
        elim found.6.either [
          | inl e ↦ let b = e.1 in omega (arith, b, lv)
          | inr e ↦ let b = e.1 in omega (arith, b, lu)
        ];
    rising = rising;
  }

  -- the edge is present if one node names the other
  there : (u v : ℕ) → u < length ids → v < length ids → v ≢ u → names_node ids (entries_at lists u) v ≡ true → has_edge pairs (edge u v) ≡ true
  there u v lu lv off names = (same (edge u v).0 (edge u v).1).1 (are.to u v (omega (arith, lu, long)) (names_leads ids apart (entries_at lists u) v lv names) off)

  joins_at : (u v : ℕ) (e : ℕ × ℕ) → has_edge pairs e ≡ true → ((e.0 ≡ u) × (e.1 ≡ v)) ⊎ ((e.0 ≡ v) × (e.1 ≡ u)) → Joins pairs u v
  joins_at u v e h either =
      let at = pair_found pairs e.0 e.1 h in (
        at.0,
        at.1,
        elim either [
          | inl ends ↦ inl (pair_is (pair_at pairs at.0) u v (at.2 ∙ ends.0) (at.3 ∙ ends.1))
          | inr ends ↦ inr (pair_is (pair_at pairs at.0) v u (at.2 ∙ ends.0) (at.3 ∙ ends.1))
        ],
      )

  pub joined_joins : (u v : ℕ) → u < length ids → v < length ids → joined_in ids lists u v ≡ true → Joins pairs u v
  joined_joins u v lu lv joined =
      let parts = and_parts (not (u == v)) (names_node ids (entries_at lists u) v || names_node ids (entries_at lists v) u) joined in
      let off : u ≢ v = λ e. both_ways (u == v) (not-true (u == v) parts.0) (eq-eqb u v e) in
      let back : v ≢ u = λ e. off (sym e) in
      elim (or_cases (names_node ids (entries_at lists u) v) (names_node ids (entries_at lists v) u) parts.1) [
        | inl names ↦ joins_at u v (edge u v) (there u v lu lv back names) (edge_ends u v (edge u v) back refl).either
        | inr names ↦ joins_at u v (edge v u) (there v u lv lu off names)
            (elim (edge_ends v u (edge v u) off refl).either [ inl e ↦ inr e | inr e ↦ inl e ])
      ]

  joined_up : (u v : ℕ) → u ≢ v → (names_node ids (entries_at lists u) v ≡ true) ⊎ (names_node ids (entries_at lists v) u ≡ true) → joined_in ids lists u v ≡ true
  joined_up u v off names = and_from (not (u == v)) (names_node ids (entries_at lists u) v || names_node ids (entries_at lists v) u) (not_from_false (u == v) (ne_eqb u v off))
      (elim names [
        | inl e ↦ or_left (names_node ids (entries_at lists u) v) (names_node ids (entries_at lists v) u) e
        | inr e ↦ or_right (names_node ids (entries_at lists u) v) (names_node ids (entries_at lists v) u) e
      ])

  pub joins_joined : (u v : ℕ) → Joins pairs u v → (u < length ids) × (v < length ids) × (joined_in ids lists u v ≡ true)
  joins_joined u v joins =
      let x = pair_at pairs joins.0 in
      let found = ends x (pair_there pairs joins.0 joins.1) in
      elim joins.2 [
        | inl e ↦ ends_joined u v x found (ap (λ (p : ℕ × ℕ). p.0) e) (ap (λ (p : ℕ × ℕ). p.1) e)
        | inr e ↦
            let turned = ends_joined v u x found (ap (λ (p : ℕ × ℕ). p.0) e) (ap (λ (p : ℕ × ℕ). p.1) e) in
            (turned.1, turned.0, joined_turned v u turned.2)
      ]
    where
      joined_turned : (u v : ℕ) → joined_in ids lists u v ≡ true → joined_in ids lists v u ≡ true
      joined_turned u v h =
          let parts = and_parts (not (u == v)) (names_node ids (entries_at lists u) v || names_node ids (entries_at lists v) u) h in
          let off : v ≢ u = λ e. both_ways (u == v) (not-true (u == v) parts.0) (eq-eqb u v (sym e)) in
          joined_up v u off (elim (or_cases (names_node ids (entries_at lists u) v) (names_node ids (entries_at lists v) u) parts.1) [ inl e ↦ inr e | inr e ↦ inl e ])

      ends_joined : (u v : ℕ) (x : ℕ × ℕ) → ((a : ℕ) × (b : ℕ) × (a < length ids) × (b < length ids) × (names_node ids (entries_at lists a) b ≡ true) × (b ≢ a) × HasEnds a b x)
          → x.0 ≡ u → x.1 ≡ v → (u < length ids) × (v < length ids) × (joined_in ids lists u v ≡ true)
      ends_joined u v x found eu ev = elim found.6.either [
        | inl e ↦
            let a : found.0 ≡ u = sym e.0 ∙ eu in
            let b : found.1 ≡ v = sym e.1 ∙ ev in
            let lu = found.2 in
            let lv = found.3 in (
              omega (arith, lu, a),
              omega (arith, lv, b),
              joined_up u v (λ bad. found.5 (b ∙ sym bad ∙ sym a)) (inl (subst (λ (m : ℕ). names_node ids (entries_at lists u) m ≡ true) b (subst (λ (m : ℕ). names_node ids (entries_at lists m) found.1 ≡ true) a found.4))),
            )
        | inr e ↦
            let a : found.1 ≡ u = sym e.0 ∙ eu in
            let b : found.0 ≡ v = sym e.1 ∙ ev in
            let lv = found.2 in
            let lu = found.3 in (
              omega (arith, lu, a),
              omega (arith, lv, b),
              joined_up u v (λ bad. found.5 (a ∙ bad ∙ sym b)) (inr (subst (λ (m : ℕ). names_node ids (entries_at lists v) m ≡ true) a (subst (λ (m : ℕ). names_node ids (entries_at lists m) found.1 ≡ true) b found.4))),
            )
      ]

  adjacent_joined : (u v : ℕ) → adjacent (graph_in ids lists) u v ≡ true → (u < length ids) × (v < length ids) × (joined_in ids lists u v ≡ true)
  adjacent_joined u v h = elim (cases_lt u (length ids)) [
    | inl l ↦
        let found = has-filter_below (length ids) (joined_in ids lists u) v
        (subst (λ (row : List ℕ). has row v ≡ true) (get_or-map_below (length ids) (λ i. filter_below (length ids) (joined_in ids lists i)) u [] l) h) in
        (l, found.0, found.1)
    | inr past ↦ absurd (false≢true (subst (λ (row : List ℕ). has row v ≡ true)
        (get_or_past (map_below (length ids) (λ i. filter_below (length ids) (joined_in ids lists i))) u []
        (omega (arith, past, length-map_below (length ids) (λ i. filter_below (length ids) (joined_in ids lists i))))) h))
  ]

  pub edges_are : edges_in ids lists ≡ length pairs
  edges_are =
      edges_counted (graph_in ids lists) pairs edges_pairs
      (λ u v. (
        λ h. let a = adjacent_joined u v h in joined_joins u v a.0 a.1 a.2,
        λ h.
            let j = joins_joined u v h in
            subst (λ (row : List ℕ). has row v ≡ true) (sym (get_or-map_below (length ids) (λ i. filter_below (length ids) (joined_in ids lists i)) u [] j.0))
            (filter_below-has (length ids) (joined_in ids lists u) v j.1 j.2),
      ))

  pub built_graph : (g : Graph) → IsGraph g → g.units ≡ length ids → ((u v : ℕ) → (adjacent g u v ≡ true) ↔ Joins pairs u v) → g ≡ graph_in ids lists
  built_graph g is units joins = graph_is g (length ids) (joined_in ids lists) is units
      (λ u v h. (joins_joined u v ((joins u v).0 h)).2)
      (λ u v lu lv h. (joins u v).1 (joined_joins u v lu lv h))
