-- The grid's document passes all checks.
use Rattle.std.proofs.Common.{◌≡◌, ℕ, zero, suc, ◌+◌, ◌-◌, ◌*◌, ◌/◌, ◌^◌, ◌<◌, ◌≤◌, ◌⊎◌, Bool, true, false, cond, not, ◌&&◌, ◌||◌, List, [], ◌∷◌, map, length, get_or, codes, Option, Some, None, option_map, option_and_then, pos, refl, sym, ap, ap₂, ◌∙◌, subst, inl, inr, arith}
use Rattle.std.specs.Prelude.{◌==◌, nat_le, is_none, unwrap_or}
use Rattle.std.proofs.lemmas.Bool.{and_parts, or_cases, cases_lt, eq-eqb, ne_eqb, eqb-true, lt-ltb, le-ltb, le-leb, false≢true}
use Rattle.std.proofs.lemmas.List.{length-map}
use Rattle.serde_json.specs.Data.{Data, null}
use Rattle.serde_json.specs.Find.{get}
use Rattle.audit_model.specs.declared.fault.Column.TheVariants as column
use Rattle.audit_model.specs.declared.fault.GraphFault.{GraphFault}
use Rattle.audit_model.specs.declared.fault.GraphFault.TheVariants as fault
use Rattle.audit_model.specs.declared.setting.Label.TheVariants.{Whole, Word}
use Rattle.audit_model.specs.Below.{any_below, count_below, filter_below, map_below, sum_below}
use Rattle.audit_model.specs.First.{first_some}
use Rattle.audit_model.specs.Graph.{adjacent, count_edges, has}
use Rattle.audit_model.specs.Label.{same_label}
use Rattle.dual_json.proofs.Shapes.{not_refused}
use Rattle.audit_statement.specs.Grid.{grid_side, are_beside, first_votes_of}
use Rattle.audit_statement.specs.Reading.{Document, node_count, node, entries, entry, id_of, label_of, same_id, lists, joined, graph, count_of, label_at, is_new_label, label_count, refused_if, repeated_id, first_entry, missing_column, bad_number, refusal}
use Rattle.audit_model.proofs.Below.{count_below_into, count_below_le, any_below_some, any_below_none, length-map_below, get_or-map_below, any_below_from}
use Rattle.audit_model.proofs.Connected.{has-filter_below}
use Rattle.audit_model.proofs.Options.{map_none, or_of_none}
use Rattle.audit_model.proofs.First.{none_first_below, none_some_below}
use Rattle.grid_maker.specs.Columns.{grid_columns}
use Rattle.grid_maker.specs.Tree.{entry_tree, node_tree}
use Rattle.grid_maker.proofs.Districts.{district_of, units_of, few_units, district_below, first_of, first_district, before_first, first_inside}
use Rattle.grid_maker.proofs.Finding.{item_passes, get_or-map}

-- the adjacent units of a unit
abbrev pub units_beside : ℕ → ℕ → List ℕ
units_beside size unit = filter_below (units_of size) (are_beside size unit)

-- the document that is parsed from the grid's root
abbrev pub grid_document : ℕ → List ℕ → Document
grid_document size key = record {
  nodes = map_below (units_of size) (node_tree size key);
  adjacency = map_below (units_of size) (λ u. map entry_tree (units_beside size u));
  directed = false;
}

-- integer labels are equal exactly if the integers are
pub whole_same : (a b : ℕ) → same_label (Whole (pos a)) (Whole (pos b)) ≡ (a == b)
whole_same a b = elim (cases_lt a b) [
  | inl l ↦ rw (lt-ltb a b l) (sym (ne_eqb a b (λ e. omega (arith, l, e))))
  | inr past ↦ elim (cases_lt b a) [
    | inl l ↦ rw (le-ltb a b past, lt-ltb b a l) (sym (ne_eqb a b (λ e. omega (arith, l, e))))
    | inr level ↦ rw (le-ltb a b past, le-ltb b a level) (sym (eq-eqb a b (omega (arith, past, level))))
  ]
]

-- ---- nodes and entries

module _ (size : ℕ) (key : List ℕ) where
  abbrev made : Document
  made = grid_document size key

  pub count_is : node_count made ≡ units_of size
  count_is = length-map_below (units_of size) (node_tree size key)

  pub node_at : (i : ℕ) → i < node_count made → node made i ≡ node_tree size key i
  node_at i l = get_or-map_below (units_of size) (node_tree size key) i null (omega (arith, l, count_is))

  pub entries_at : (i : ℕ) → i < node_count made → entries made i ≡ map entry_tree (units_beside size i)
  entries_at i l = get_or-map_below (units_of size) (λ u. map entry_tree (units_beside size u)) i [] (omega (arith, l, count_is))

  pub id_at : (i : ℕ) → i < node_count made → id_of (node made i) ≡ Some (Whole (pos i))
  id_at i l = ap id_of (node_at i l)

  place_at : (i place : ℕ) → i < node_count made → place < length (entries made i) → place < length (units_beside size i)
  place_at i place l lp = omega (arith, lp, ap (λ (ds : List Data). length ds) (entries_at i l), length-map (units_beside size i) entry_tree)

  entry_at : (i place : ℕ) → i < node_count made → place < length (entries made i) → entry made i place ≡ entry_tree (get_or (units_beside size i) place 0)
  entry_at i place l lp =
      ap (λ (ds : List Data). get_or ds place null) (entries_at i l) ∙ get_or-map entry_tree (units_beside size i) place null (place_at i place l lp)

  pub entry_id : (i place : ℕ) → i < node_count made → place < length (entries made i) → id_of (entry made i place) ≡ Some (Whole (pos (get_or (units_beside size i) place 0)))
  entry_id i place l lp = ap id_of (entry_at i place l lp)

  -- ---- ids

  repeated : repeated_id made grid_columns ≡ None
  repeated = map_none _ _ (none_first_below (node_count made) _ (λ j lj. any_below_none j _ (λ i li.
      ap₂ same_id (id_at i (omega (arith, li, lj))) (id_at j lj) ∙ whole_same i j ∙ ne_eqb i j (λ e. omega (arith, li, e)))))

  no_entry : (test : Data → Bool) (f : ℕ → ℕ → GraphFault) → ((i place : ℕ) → i < node_count made → place < length (entries made i) → test (entry made i place) ≡ false)
      → first_entry made grid_columns test f ≡ None
  no_entry test f off = none_some_below (node_count made) _ (λ i l. map_none _ _ (none_first_below (length (entries made i)) _ (λ place lp. off i place l lp)))

  known : (i place : ℕ) → i < node_count made → place < length (entries made i)
      → any_below (node_count made) (λ j. same_id (id_of (entry made i place)) (id_of (node made j))) ≡ true
  known i place l lp =
      let v : ℕ = get_or (units_beside size i) place 0 in
      let inside : v < node_count made = omega (arith, count_is, (item_passes (units_of size) (are_beside size i) place (place_at i place l lp)).0) in
      any_below_from (node_count made) _ v inside (ap₂ same_id (entry_id i place l lp) (id_at v inside) ∙ whole_same v v ∙ eq-eqb v v refl)

-- ---- edges

-- the greater of two adjacent units is the next one or the one below
pub near : (size u v : ℕ) → u < v → are_beside size u v ≡ true → (u + 1 ≡ v) ⊎ (u + grid_side size ≡ v)
near size u v l h =
    elim (or_cases ((u / grid_side size == v / grid_side size) && ((u + 1 == v) || (v + 1 == u))) ((u + grid_side size == v) || (v + grid_side size == u)) h) [
      | inl e ↦ elim (or_cases (u + 1 == v) (v + 1 == u) (and_parts (u / grid_side size == v / grid_side size) ((u + 1 == v) || (v + 1 == u)) e).1) [
        | inl x ↦ inl (eqb-true (u + 1) v x)
        | inr x ↦ absurd (omega (arith, l, eqb-true (v + 1) u x))
      ]
      | inr e ↦ elim (or_cases (u + grid_side size == v) (v + grid_side size == u) e) [
        | inl x ↦ inr (eqb-true (u + grid_side size) v x)
        | inr x ↦ absurd (omega (arith, l, eqb-true (v + grid_side size) u x))
      ]
    ]

-- the converse direction of `near`, asked from the greater unit
pub near_back : (size u v : ℕ) → u < v → are_beside size v u ≡ true → (u + 1 ≡ v) ⊎ (u + grid_side size ≡ v)
near_back size u v l h =
    elim (or_cases ((v / grid_side size == u / grid_side size) && ((v + 1 == u) || (u + 1 == v))) ((v + grid_side size == u) || (u + grid_side size == v)) h) [
      | inl e ↦ elim (or_cases (v + 1 == u) (u + 1 == v) (and_parts (v / grid_side size == u / grid_side size) ((v + 1 == u) || (u + 1 == v)) e).1) [
        | inl x ↦ absurd (omega (arith, l, eqb-true (v + 1) u x))
        | inr x ↦ inl (eqb-true (u + 1) v x)
      ]
      | inr e ↦ elim (or_cases (v + grid_side size == u) (u + grid_side size == v) e) [
        | inl x ↦ absurd (omega (arith, l, eqb-true (v + grid_side size) u x))
        | inr x ↦ inr (eqb-true (u + grid_side size) v x)
      ]
    ]

-- the code of a Boolean is 0 or 1
below_two : (b : Bool) → cond {A = ℕ} b 0 1 < 2
below_two true = omega arith
below_two false = omega arith

-- Booleans with equal codes are equal
same_code : (a b : Bool) → cond {A = ℕ} a 0 1 ≡ cond {A = ℕ} b 0 1 → a ≡ b
same_code true true h = refl
same_code true false h = absurd (omega (arith, h))
same_code false true h = absurd (omega (arith, h))
same_code false false h = refl

-- a sum of n terms of at most 2 is at most 2 * n
sum_small : (n : ℕ) (f : ℕ → ℕ) → ((k : ℕ) → k < n → f k ≤ 2) → sum_below n f ≤ 2 * n
sum_small zero f h = omega arith
sum_small (suc n) f h = omega (arith, sum_small n f (λ k l. h k (omega (arith, l))), h n (omega arith))

-- there are two numbers below 2
count_two : count_below 2 (λ _. true) ≡ 2
unfolding count_below
count_two = refl

-- ---- columns

-- the fault of a node with a missing column
missing_in : ℕ → Data → Option GraphFault
missing_in i d = option_map (fault.Missing i) (first_some (
    refused_if (is_none (get (codes "pop") d)) column.Population
    ∷ refused_if (is_none (get (codes "a") d)) column.First
    ∷ refused_if (is_none (get (codes "b") d)) column.Second
    ∷ refused_if (is_none (get (codes "district") d)) column.District
    ∷ []))

-- the fault of a node with an invalid number
bad_in : Document → ℕ → Data → Option GraphFault
bad_in made i d = option_map (fault.BadNumber i) (first_some (
    refused_if (is_none (option_and_then (count_of made grid_columns) (get (codes "pop") d))) column.Population
    ∷ refused_if (is_none (option_and_then (count_of made grid_columns) (get (codes "a") d))) column.First
    ∷ refused_if (is_none (option_and_then (count_of made grid_columns) (get (codes "b") d))) column.Second
    ∷ []))

module _ (size : ℕ) (key : List ℕ) (some : 1 ≤ size) (small : size ≤ 30) where
  abbrev grid_made : Document
  grid_made = grid_document size key

  pub lists_beside : (i j : ℕ) → i < node_count grid_made → j < node_count grid_made → lists grid_made i j ≡ true → are_beside size i j ≡ true
  lists_beside i j li lj h =
      let found = any_below_some (length (entries grid_made i)) (λ place. same_id (id_of (entry grid_made i place)) (id_of (node grid_made j))) h in
      let v : ℕ = get_or (units_beside size i) found.0 0 in
      let same : v ≡ j = eqb-true v j (sym (whole_same v j) ∙ sym (ap₂ same_id (entry_id size key i found.0 li found.1) (id_at size key j lj)) ∙ found.2) in
      subst (λ (k : ℕ). are_beside size i k ≡ true) same (item_passes (units_of size) (are_beside size i) found.0 (place_at size key i found.0 li found.1)).1

  near_adjacent : (u v : ℕ) → u < v → v < node_count grid_made → (adjacent (graph grid_made) u v && true) ≡ true → (u + 1 ≡ v) ⊎ (u + grid_side size ≡ v)
  near_adjacent u v l lv h =
      let lu : u < node_count grid_made = omega (arith, l, lv) in
      let row : has (filter_below (node_count grid_made) (joined grid_made u)) v ≡ true =
      subst (λ (row : List ℕ). has row v ≡ true) (get_or-map_below (node_count grid_made) (λ i. filter_below (node_count grid_made) (joined grid_made i)) u [] lu)
      (and_parts (adjacent (graph grid_made) u v) true h).0 in
      let both : joined grid_made u v ≡ true = (has-filter_below (node_count grid_made) (joined grid_made u) v row).1 in
      elim (or_cases (lists grid_made u v) (lists grid_made v u) (and_parts (not (u == v)) (lists grid_made u v || lists grid_made v u) both).1) [
        | inl e ↦ near size u v l (lists_beside u v lu lv e)
        | inr e ↦ near_back size u v l (lists_beside v u lv lu e)
      ]

  few_before : (v : ℕ) → v < node_count grid_made → count_below v (λ u. adjacent (graph grid_made) u v && true) ≤ 2
  few_before v lv =
      let test : ℕ → Bool = λ u. adjacent (graph grid_made) u v && true in
      let into : count_below v test ≤ count_below 2 (λ _. true) = count_below_into v 2 test (λ _. true) (λ u. cond {A = ℕ} (u + 1 == v) 0 1)
      (λ u l h. (below_two (u + 1 == v), refl))
      (λ j k lj lk hj hk e.
      let same : (j + 1 == v) ≡ (k + 1 == v) = same_code (j + 1 == v) (k + 1 == v) e in
      elim (near_adjacent j v lj lv hj) [
        | inl a ↦ let b : k + 1 ≡ v = eqb-true (k + 1) v (sym same ∙ eq-eqb (j + 1) v a) in omega (arith, a, b)
        | inr a ↦ elim (near_adjacent k v lk lv hk) [
          | inl b ↦ let c : j + 1 ≡ v = eqb-true (j + 1) v (same ∙ eq-eqb (k + 1) v b) in omega (arith, b, c)
          | inr b ↦ omega (arith, a, b)
        ]
      ]) in
      omega (arith, into, count_two)

  few_edges : count_edges (graph grid_made) (λ u v. true) ≤ 400000
  few_edges =
      let sum : count_edges (graph grid_made) (λ u v. true) ≤ 2 * node_count grid_made =
      sum_small (node_count grid_made) (λ v. count_below v (λ u. adjacent (graph grid_made) u v && true)) few_before in
      omega (arith, sum, count_is size key, few_units size small)

  -- ---- columns

  missing : (i : ℕ) → i < node_count grid_made → missing_column grid_made grid_columns i ≡ None
  unfolding missing_in
  missing i l = ap (missing_in i) (node_at size key i l)

  numbers : (i : ℕ) → i < node_count grid_made → bad_number grid_made grid_columns i ≡ None
  unfolding bad_in
  numbers i l =
      let first : ℕ = first_votes_of key i in
      let a : nat_le first (10 ^ 9) ≡ true = le-leb first (10 ^ 9) (omega arith) in
      let b : nat_le (100 - first) (10 ^ 9) ≡ true = le-leb (100 - first) (10 ^ 9) (omega arith) in
      ap (bad_in grid_made i) (node_at size key i l) ∙ rw (a, b) refl

  -- ---- districts

  label_is : (i : ℕ) → i < node_count grid_made → label_at grid_made grid_columns i ≡ Whole (pos (district_of size i))
  label_is i l = ap (λ (d : Data). unwrap_or (option_and_then label_of (get (codes "district") d)) (Word [])) (node_at size key i l)

  same_districts : (i j : ℕ) → i < node_count grid_made → j < node_count grid_made
      → same_label (label_at grid_made grid_columns i) (label_at grid_made grid_columns j) ≡ (district_of size i == district_of size j)
  same_districts i j li lj = ap₂ same_label (label_is i li) (label_is j lj) ∙ whole_same (district_of size i) (district_of size j)

  repeats : (j k : ℕ) → j < k → k < node_count grid_made → district_of size j ≡ district_of size k → is_new_label grid_made grid_columns k ≡ false
  repeats j k l lk e =
      ap not (any_below_from k (λ i. same_label (label_at grid_made grid_columns i) (label_at grid_made grid_columns k)) j l
      (same_districts j k (omega (arith, l, lk)) lk ∙ eq-eqb (district_of size j) (district_of size k) e))

  few_labels : label_count grid_made grid_columns ≤ 10
  few_labels =
      let into : label_count grid_made grid_columns ≤ count_below 10 (λ _. true) =
      count_below_into (node_count grid_made) 10 (is_new_label grid_made grid_columns) (λ _. true) (district_of size)
      (λ k l h. (district_below size k some (omega (arith, l, count_is size key)), refl))
      (λ j k lj lk hj hk e. elim (cases_lt j k) [
        | inl l ↦ absurd (false≢true (sym (repeats j k l lk e) ∙ hk))
        | inr past ↦ elim (cases_lt k j) [
          | inl l ↦ absurd (false≢true (sym (repeats k j l lj (sym e)) ∙ hj))
          | inr level ↦ omega (arith, past, level)
        ]
      ]) in
      omega (arith, into, count_below_le 10 (λ _. true))

  first_is_new : (d : ℕ) → d < 2 → is_new_label grid_made grid_columns (first_of size d) ≡ true
  first_is_new d l =
      let inside : first_of size d < node_count grid_made = omega (arith, count_is size key, first_inside size d some (omega (arith, l))) in
      ap not (any_below_none (first_of size d) (λ i. same_label (label_at grid_made grid_columns i) (label_at grid_made grid_columns (first_of size d)))
      (λ j lj.
      same_districts j (first_of size d) (omega (arith, lj, inside)) inside
      ∙ ne_eqb (district_of size j) (district_of size (first_of size d)) (λ e. omega (arith, e, first_district size d some, before_first size d j some lj))))

  two_labels : 2 ≤ label_count grid_made grid_columns
  two_labels =
      let into : count_below 2 (λ _. true) ≤ label_count grid_made grid_columns =
      count_below_into 2 (node_count grid_made) (λ _. true) (is_new_label grid_made grid_columns) (first_of size)
      (λ d l h. (omega (arith, count_is size key, first_inside size d some (omega (arith, l))), first_is_new d l))
      (λ j k lj lk hj hk e. sym (first_district size j some) ∙ ap (district_of size) e ∙ first_district size k some) in
      omega (arith, into, count_two)

  -- ---- the whole document

  pub accepted : refusal grid_made grid_columns ≡ None
  accepted =
      or_of_none _ _ (not_refused _ _ (ap not (eq-eqb (node_count grid_made) (length grid_made.adjacency)
      (count_is size key ∙ sym (length-map_below (units_of size) (λ u. map entry_tree (units_beside size u)))))))
      (or_of_none _ _ (not_refused _ _ (le-ltb 100000 (node_count grid_made) (omega (arith, count_is size key, few_units size small))))
      (or_of_none _ _ (map_none _ _ (none_first_below (node_count grid_made) _ (λ i l. ap is_none (id_at size key i l))))
      (or_of_none _ _ (repeated size key)
      (or_of_none _ _ (no_entry size key (λ d. is_none (id_of d)) fault.BadNeighbour (λ i place l lp. ap is_none (entry_id size key i place l lp)))
      (or_of_none _ _ (no_entry size key (λ d. not (any_below (node_count grid_made) (λ j. same_id (id_of d) (id_of (node grid_made j))))) fault.UnknownNeighbour
      (λ i place l lp. ap not (known size key i place l lp)))
      (or_of_none _ _ (not_refused _ _ (le-ltb 400000 (count_edges (graph grid_made) (λ u v. true)) few_edges))
      (or_of_none _ _ (none_some_below (node_count grid_made) (missing_column grid_made grid_columns) missing)
      (or_of_none _ _ (none_some_below (node_count grid_made) (bad_number grid_made grid_columns) numbers)
      (or_of_none _ _ (map_none _ _ (none_first_below (node_count grid_made) _ (λ i l.
      ap (λ (d : Data). is_none (option_and_then label_of (get (codes "district") d))) (node_at size key i l))))
      (or_of_none _ _ (not_refused _ _ (rw (le-ltb (label_count grid_made grid_columns) 2 two_labels, le-ltb 200 (label_count grid_made grid_columns) (omega (arith, few_labels))) refl))
      refl))))))))))
