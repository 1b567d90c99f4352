-- A text that is not refused gives the parsed graph.
use Rattle.std.proofs.Common.{◌≡◌, ◌⊎◌, inl, inr, ℕ, zero, suc, ◌<◌, ◌≤◌, Bool, true, false, not, ◌&&◌, ◌||◌, List, [], ◌∷◌, length, map, Option, Some, None, Ordering, Less, Equal, Greater, refl, sym, ap, ◌∙◌, cond, arith, get_or}
use Rattle.std.specs.Prelude.{◌==◌, nat_le, nat_lt, codes, is_some, is_none, unwrap_or, option_map, option_and_then}
use Rattle.std.specs.List.{slice_index_or, list_all}
use Rattle.std.specs.Ordering.{is_eq, is_lt, int_cmp, nat_cmp, ordering_reverse}
use Rattle.std.specs.Cmp.Lexicographic.{slice_cmp}
use Rattle.std.proofs.lemmas.Bool.{and_parts, and_from, cases_Bool, cases_lt, both_ways, eqb-true, not-false, not_from_false, false≢true}
use Rattle.std.proofs.lemmas.List.{ext_get_or, get_or-map, length-map}
use Rattle.serde_json.specs.Data.{Data, null, boolean, number, string, array, object, unsigned, negative, float, Items, no_items, item}
use Rattle.serde_json.specs.Find.{get, as_object, as_bool, as_number, as_u64}
use Rattle.audit_model.specs.declared.fault.Column.{Column}
use Rattle.audit_model.specs.declared.fault.Column.TheVariants as column
use Rattle.audit_model.specs.declared.fault.GraphFault.{GraphFault}
use Rattle.audit_model.specs.declared.fault.GraphFault.TheVariants as fault
use Rattle.audit_model.specs.declared.fault.Part.{Part}
use Rattle.audit_model.specs.declared.fault.Part.TheVariants as part
use Rattle.audit_model.specs.declared.setting.Columns.{Columns}
use Rattle.audit_model.specs.declared.setting.Label.{Label}
use Rattle.audit_model.specs.declared.setting.Label.TheVariants.{Whole, Word}
use Rattle.audit_model.specs.declared.setting.Setting.{Setting}
use Rattle.audit_model.specs.Below.{any_below, count_below, join_below, map_below}
use Rattle.audit_model.specs.First.{first_some, first_below, first_some_below}
use Rattle.audit_model.specs.Graph.{count_edges}
use Rattle.audit_model.specs.JobOf.{job_from}
use Rattle.audit_model.specs.Label.{label_before, label_cmp, same_label}
use Rattle.audit_model.specs.Limits.{most_people, most_units, most_edges, most_districts}
use Rattle.dual_json.specs.Names.{label_total}
use Rattle.audit_statement.specs.Reading.{refused_if, is_no_flag, graph, label_count, missing_column, names_frozen, names_group, flag_of, repeated_id, first_entry, Document, document, parsed, refusal, bad_part, bad_number, elements, list_of, list_at, node, node_count, entries, entry, id_of, label_of, same_id, key_of, cell, count_of, count_at, label_at, length_fault, lengths_at, is_new_label, district_at}
use Rattle.audit_model.proofs.Below.{length-map_below, get_or-map_below, any_below_some, any_below_from}
use Rattle.audit_model.proofs.Connected.{grows}
use Rattle.audit_model.proofs.First.{first_below_none, first_some_below_none}
use Rattle.audit_model.proofs.Labels.{same_equal, same_itself}
use Rattle.audit_model.proofs.Options.{cond_some_none, option_map_none, option_or_none}
use Rattle.audit_laws.proofs.Naming.{edge_from, from_edge, id_from, id_is}
use Rattle.audit_statement.specs.Given.{IsGiven, count, items_of, label_under, list}

-- ---- a list of options without values

-- if none of a list of options has a value, each is empty
none_at : {A : Type 0} (xs : List (Option A)) → first_some xs ≡ None → (i : ℕ) → get_or xs i None ≡ None
none_at [] e i = refl
none_at (x ∷ xs) e zero = (option_or_none x (first_some xs) e).0
none_at (x ∷ xs) e (suc i) = none_at xs (option_or_none x (first_some xs) e).1 i

-- ---- lists by their places

-- lists that agree at each place under two functions are mapped to the same list
by_place : {X Y Z : Type 0} (xs : List X) (f : X → Y) (g : Z → Y) (h : ℕ → Z) (d : X)
    → ((i : ℕ) → i < length xs → f (get_or xs i d) ≡ g (h i)) → map f xs ≡ map g (map_below (length xs) h)
by_place xs f g h d each =
    let long = length-map_below (length xs) h in
    let wide : length (map f xs) ≡ length xs = length-map xs f in
    let tall : length (map g (map_below (length xs) h)) ≡ length (map_below (length xs) h) = length-map (map_below (length xs) h) g in
    ext_get_or (f d) (map f xs) (map g (map_below (length xs) h)) (omega (arith, long, wide, tall)) (λ i l.
    let inside : i < length xs = omega (arith, l, wide) in
    get_or-map f xs i d (f d) inside ∙ each i inside
    ∙ sym (get_or-map g (map_below (length xs) h) i (h i) (f d) (omega (arith, inside, long))
    ∙ ap g (get_or-map_below (length xs) h i (h i) inside)))

-- ---- arrays

-- items are made of their elements
items_back : (ds : Items) → items_of (elements ds) ≡ ds
items_back no_items = refl
items_back (item d ds) = ap (item d) (items_back ds)

-- a value that is read as a list is this list
list_back : (o : Option Data) (xs : List Data) → option_and_then list_of o ≡ Some xs → o ≡ Some (list xs)
list_back None xs e = cc
list_back (Some null) xs e = cc
list_back (Some (boolean b)) xs e = cc
list_back (Some (number n)) xs e = cc
list_back (Some (string s)) xs e = cc
list_back (Some (array ds)) xs e =
    let same : elements ds ≡ xs = cc in
    ap (λ (is : Items). Some (array is)) (sym (items_back ds)) ∙ ap (λ (ys : List Data). Some (list ys)) same
list_back (Some (object ms)) xs e = cc

-- an option that is not empty has its value
some_at : {A : Type 0} (o : Option A) (d : A) → is_none o ≡ false → o ≡ Some (unwrap_or o d)
some_at None d e = cc
some_at (Some x) d e = refl

-- a value that tests as a list is one
array_back : (d : Data) → is_some (list_of d) ≡ true → d ≡ list (unwrap_or (list_of d) [])
array_back null e = cc
array_back (boolean b) e = cc
array_back (number n) e = cc
array_back (string s) e = cc
array_back (array ds) e = ap array (sym (items_back ds))
array_back (object ms) e = cc

-- values that test as lists are lists
arrays_back : (ds : List Data) → list_all (λ d. is_some (list_of d)) ds ≡ true → ds ≡ map list (map (λ d. unwrap_or (list_of d) []) ds)
arrays_back [] e = refl
arrays_back (d ∷ ds) e =
    let parts = and_parts (is_some (list_of d)) (list_all (λ d. is_some (list_of d)) ds) e in
    ap (λ (x : Data). x ∷ ds) (array_back d parts.0) ∙ ap (λ (xs : List Data). list (unwrap_or (list_of d) []) ∷ xs) (arrays_back ds parts.1)

-- a value whose elements test as lists is a list of lists
lists_back : (o : Option (List Data)) → list_all (λ d. is_some (list_of d)) (unwrap_or o (null ∷ [])) ≡ true
    → o ≡ Some (map list (map (λ d. unwrap_or (list_of d) []) (unwrap_or o [])))
lists_back None e = absurd (false≢true e)
lists_back (Some ds) e = ap Some (arrays_back ds e)

-- ---- labels and numbers

-- a value that is read as a count is this number
number_is : (o : Option Data) → is_none (option_and_then (λ v. option_and_then (λ n. cond (nat_le n most_people) (Some n) None) (option_and_then as_u64 (as_number v))) o) ≡ false
    → o ≡ count (unwrap_or (option_and_then (λ v. option_and_then (λ n. cond (nat_le n most_people) (Some n) None) (option_and_then as_u64 (as_number v))) o) 0)
number_is None e = cc
number_is (Some null) e = cc
number_is (Some (boolean b)) e = cc
number_is (Some (number (unsigned n))) e = by (nat_le n most_people) e
  where
    by : (b : Bool) → is_none (cond b (Some n) None) ≡ false → Some (number (unsigned n)) ≡ count (unwrap_or (cond b (Some n) None) 0)
    by true e = refl
    by false e = cc
number_is (Some (number (negative z))) e = cc
number_is (Some (number (float x))) e = cc
number_is (Some (string s)) e = cc
number_is (Some (array ds)) e = cc
number_is (Some (object ms)) e = cc

-- ---- the order of labels

-- an order that tests as less is less
less_is : (o : Ordering) → is_lt o ≡ true → o ≡ Less
less_is Less e = refl
less_is Equal e = cc
less_is Greater e = cc

-- an order that tests as equal does not test as less
eq_is_not_lt : (o : Ordering) → is_eq o ≡ true → is_lt o ≡ false
eq_is_not_lt Less e = cc
eq_is_not_lt Equal e = refl
eq_is_not_lt Greater e = cc

-- no label is before itself
pub not_before_itself : (a : Label) → label_before a a ≡ false
not_before_itself (Whole a) = eq_is_not_lt (int_cmp a a) (same_itself (Whole a))
not_before_itself (Word s) = eq_is_not_lt (slice_cmp nat_cmp s s) (same_itself (Word s))

-- a label before one that is before a third is before the third
pub before_through : (a b c : Label) → label_before a b ≡ true → label_before b c ≡ true → label_before a c ≡ true
before_through a b c x y = ap is_lt (label_total.trans a b c (less_is (label_cmp a b) x) (less_is (label_cmp b c) y))

-- of two labels one is before the other, or they are equal
pub three_ways : (a b : Label) → (label_before a b ≡ true) ⊎ ((a ≡ b) ⊎ (label_before b a ≡ true))
three_ways a b = by (label_cmp a b) refl
  where
    by : (o : Ordering) → label_cmp a b ≡ o → (label_before a b ≡ true) ⊎ ((a ≡ b) ⊎ (label_before b a ≡ true))
    by Less e = inl (ap is_lt e)
    by Equal e = inr (inl (same_equal a b (ap is_eq e)))
    by Greater e = inr (inr (ap is_lt (label_total.antisymm b a ∙ ap ordering_reverse e)))

module _ (d : Document) (columns : Columns) where
  -- the first node with a node's label
  pub first_with : (most i : ℕ) → i < most → (j : ℕ) × (j ≤ i) × (is_new_label d columns j ≡ true) × (label_at d columns j ≡ label_at d columns i)
  first_with zero i l = absurd (omega arith)
  first_with (suc most) i l = elim (cases_Bool (any_below i (λ j. same_label (label_at d columns j) (label_at d columns i)))) [
    | inl some ↦
        let before = any_below_some i (λ j. same_label (label_at d columns j) (label_at d columns i)) some in
        let first = first_with most before.0 (omega (arith, before.1)) in
        (first.0, omega (arith, first.1, before.1), first.2, first.3 ∙ same_equal _ _ before.2)
    | inr none ↦ (i, omega arith, not_from_false _ none, refl)
  ]

  -- a label before another has a lower number
  pub rises : (u v : ℕ) → u < node_count d → label_before (label_at d columns u) (label_at d columns v) ≡ true → district_at d columns u < district_at d columns v
  rises u v l h =
      let first = first_with (suc u) u (omega arith) in
      let out : label_before (label_at d columns first.0) (label_at d columns u) ≡ false =
      ap (λ (a : Label). label_before a (label_at d columns u)) first.3 ∙ not_before_itself (label_at d columns u) in
      let into : label_before (label_at d columns first.0) (label_at d columns v) ≡ true =
      ap (λ (a : Label). label_before a (label_at d columns v)) first.3 ∙ h in
      elim (grows (node_count d) (λ j. is_new_label d columns j && label_before (label_at d columns j) (label_at d columns u))
      (λ j. is_new_label d columns j && label_before (label_at d columns j) (label_at d columns v))
      (λ w below p.
      let parts = and_parts (is_new_label d columns w) (label_before (label_at d columns w) (label_at d columns u)) p in
      and_from (is_new_label d columns w) (label_before (label_at d columns w) (label_at d columns v)) parts.0
      (before_through (label_at d columns w) (label_at d columns u) (label_at d columns v) parts.1 h))) [
        | inl fewer ↦ fewer
        | inr all ↦ absurd (both_ways (label_before (label_at d columns first.0) (label_at d columns u)) out
            (and_parts (is_new_label d columns first.0) (label_before (label_at d columns first.0) (label_at d columns u))
            (all.1 first.0 (omega (arith, first.1, l))
            (and_from (is_new_label d columns first.0) (label_before (label_at d columns first.0) (label_at d columns v)) first.2 into))).1)
      ]

  -- a lower number belongs to an earlier label
  pub falls : (u v : ℕ) → u < node_count d → v < node_count d → district_at d columns u < district_at d columns v
      → label_before (label_at d columns u) (label_at d columns v) ≡ true
  falls u v l m h = elim (three_ways (label_at d columns u) (label_at d columns v)) [
    | inl before ↦ before
    | inr (inl same) ↦
        let e : district_at d columns u ≡ district_at d columns v =
        ap (λ (a : Label). count_below (node_count d) (λ j. is_new_label d columns j && label_before (label_at d columns j) a)) same in
        absurd (omega (arith, h, e))
    | inr (inr after) ↦ let e = rises v u m after in absurd (omega (arith, h, e))
  ]

-- ---- the whole reading

module _ (setting : Setting) (root : Data) (shape : bad_part root ≡ None) (sound : refusal (document root) setting.columns ≡ None) where
  abbrev columns : Columns
  columns = setting.columns

  abbrev d : Document
  d = document root

  -- the refusals of a shape, of a graph and of a node's numbers, in their order
  abbrev shapes : List (Option Part)
  shapes =
      refused_if (is_none (as_object root)) part.Root
      ∷ refused_if (is_none (list_at (codes "nodes") root)) part.Nodes
      ∷ refused_if (not (list_all (λ x. is_some (list_of x)) (unwrap_or (list_at (codes "adjacency") root) (null ∷ [])))) part.Adjacency
      ∷ refused_if (is_no_flag (codes "directed") root) part.Directed
      ∷ refused_if (is_no_flag (codes "multigraph") root) part.Multigraph
      ∷ []

  abbrev refusals : List (Option GraphFault)
  refusals =
      refused_if d.directed fault.Directed
      ∷ refused_if (not (node_count d == length d.adjacency)) (fault.LengthsDiffer (node_count d) (length d.adjacency))
      ∷ refused_if (nat_lt most_units (node_count d)) (fault.TooManyUnits (node_count d))
      ∷ option_map fault.BadId (first_below (node_count d) (λ i. is_none (id_of (node d i))))
      ∷ repeated_id d columns
      ∷ first_entry d columns (λ x. is_none (id_of x)) fault.BadNeighbour
      ∷ first_entry d columns (λ x. not (any_below (node_count d) (λ j. same_id (id_of x) (id_of (node d j))))) fault.UnknownNeighbour
      ∷ refused_if (nat_lt most_edges (count_edges (graph d) (λ u v. true))) (fault.TooManyEdges (count_edges (graph d) (λ u v. true)))
      ∷ first_some_below (node_count d) (missing_column d columns)
      ∷ first_some_below (node_count d) (bad_number d columns)
      ∷ option_map fault.BadLabel (first_below (node_count d) (λ i. is_none (option_and_then label_of (cell d columns i column.District))))
      ∷ refused_if (nat_lt (label_count d columns) 2 || nat_lt most_districts (label_count d columns)) (fault.DistrictCount (label_count d columns))
      ∷ length_fault d columns
      ∷ []

  abbrev bad_numbers : ℕ → List (Option Column)
  bad_numbers i =
      refused_if (is_none (option_and_then (count_of d columns) (cell d columns i column.Population))) column.Population
      ∷ refused_if (is_none (option_and_then (count_of d columns) (cell d columns i column.First))) column.First
      ∷ refused_if (is_none (option_and_then (count_of d columns) (cell d columns i column.Second))) column.Second
      ∷ refused_if (names_group d columns && is_none (option_and_then (count_of d columns) (cell d columns i column.Group))) column.Group
      ∷ refused_if (names_group d columns && is_none (option_and_then (count_of d columns) (cell d columns i column.Whole))) column.Whole
      ∷ refused_if (names_frozen d columns && is_none (option_and_then (flag_of d columns) (cell d columns i column.Frozen))) column.Frozen
      ∷ []

  abbrev id_at : ℕ → Label
  id_at i = unwrap_or (id_of (node d i)) (Word [])

  nodes_there : list_at (codes "nodes") root ≡ Some d.nodes
  nodes_there = some_at (list_at (codes "nodes") root) [] (cond_some_none (is_none (list_at (codes "nodes") root)) part.Nodes (none_at shapes shape 1))

  lists_there : list_at (codes "adjacency") root ≡ Some (map list d.adjacency)
  lists_there = lists_back (list_at (codes "adjacency") root)
      (not-false (list_all (λ x. is_some (list_of x)) (unwrap_or (list_at (codes "adjacency") root) (null ∷ [])))
      (cond_some_none (not (list_all (λ x. is_some (list_of x)) (unwrap_or (list_at (codes "adjacency") root) (null ∷ [])))) part.Adjacency (none_at shapes shape 2)))

  undirected : get (codes "directed") root ≡ Some (boolean true) → ⊥
  undirected e = both_ways d.directed (cond_some_none d.directed fault.Directed (none_at refusals sound 0))
      (ap (λ (o : Option Data). unwrap_or (option_and_then as_bool o) false) e)

  as_long : node_count d ≡ length d.adjacency
  as_long = eqb-true (node_count d) (length d.adjacency) (not-false (node_count d == length d.adjacency)
      (cond_some_none (not (node_count d == length d.adjacency)) (fault.LengthsDiffer (node_count d) (length d.adjacency)) (none_at refusals sound 1)))

  id_there : (i : ℕ) → i < node_count d → id_of (node d i) ≡ Some (id_at i)
  id_there i l = some_at (id_of (node d i)) (Word []) (first_below_none (node_count d) (λ k. is_none (id_of (node d k)))
      i (option_map_none fault.BadId (first_below (node_count d) (λ k. is_none (id_of (node d k)))) (none_at refusals sound 3)) l)

  id_is_at : (i : ℕ) → i < node_count d → slice_index_or (map_below (node_count d) id_at) i (Word []) ≡ id_at i
  id_is_at i l = get_or-map_below (node_count d) id_at i (Word []) l

  no_twins : (u v : ℕ) → u < v → v < node_count d → id_at u ≡ id_at v → ⊥
  no_twins u v l m e =
      let earlier : ℕ → ℕ → Bool = λ j i. same_id (id_of (node d i)) (id_of (node d j)) in
      let none : any_below v (earlier v) ≡ false = first_below_none (node_count d) (λ j. any_below j (earlier j))
      v (option_map_none (λ j. fault.SameId (unwrap_or (first_below j (earlier j)) 0) j) (first_below (node_count d) (λ j. any_below j (earlier j)))
      (none_at refusals sound 4)) m in
      both_ways (any_below v (earlier v)) none (any_below_from v (earlier v) u l
      (id_from (id_of (node d u)) (id_of (node d v)) (id_at v) (id_there v m) (id_there u (omega (arith, l, m)) ∙ ap Some e)))

  apart : (u v : ℕ) → u < node_count d → v < node_count d → id_at u ≡ id_at v → u ≡ v
  apart u v l m e = elim (cases_lt u v) [
    | inl under ↦ absurd (no_twins u v under m e)
    | inr over ↦ elim (cases_lt v u) [
      | inl under ↦ absurd (no_twins v u under l (sym e))
      | inr same ↦ omega (arith, over, same)
    ]
  ]

  known : (u place : ℕ) → u < node_count d → place < length (entries d u)
      → (v : ℕ) × (v < node_count d) × (id_of (entry d u place) ≡ Some (slice_index_or (map_below (node_count d) id_at) v (Word [])))
  known u place l m =
      let unknown_neighbor : Data → Bool = λ x. not (any_below (node_count d) (λ j. same_id (id_of x) (id_of (node d j)))) in
      let none = first_some_below_none (node_count d) (λ i. option_map (fault.UnknownNeighbour i) (first_below (length (entries d i)) (λ k. unknown_neighbor (entry d i k))))
      u (none_at refusals sound 6) l in
      let here : unknown_neighbor (entry d u place) ≡ false = first_below_none (length (entries d u)) (λ k. unknown_neighbor (entry d u k))
      place (option_map_none (fault.UnknownNeighbour u) (first_below (length (entries d u)) (λ k. unknown_neighbor (entry d u k))) none) m in
      let some = any_below_some (node_count d) (λ j. same_id (id_of (entry d u place)) (id_of (node d j)))
      (not-false (any_below (node_count d) (λ j. same_id (id_of (entry d u place)) (id_of (node d j)))) here) in (
        some.0,
        some.1,
        id_is (id_of (entry d u place)) (id_of (node d some.0)) (id_at some.0) (id_there some.0 some.1) some.2
            ∙ ap Some (sym (id_is_at some.0 some.1)),
      )

  named : (i : ℕ) → i < node_count d → id_of (node d i) ≡ Some (slice_index_or (map_below (node_count d) id_at) i (Word []))
  named i l = id_there i l ∙ ap Some (sym (id_is_at i l))

  numbers : (i : ℕ) → i < node_count d → (k : ℕ) → get_or (bad_numbers i) k None ≡ None
  numbers i l k = none_at (bad_numbers i) (option_map_none (fault.BadNumber i) (first_some (bad_numbers i))
      (first_some_below_none (node_count d) (bad_number d columns) i (none_at refusals sound 9) l)) k

  counted : (c : Column) → ((i : ℕ) → i < node_count d → is_none (option_and_then (count_of d columns) (cell d columns i c)) ≡ false)
      → map (get (key_of d columns c)) d.nodes ≡ map count (map_below (node_count d) (count_at d columns c))
  counted c each = by_place d.nodes (get (key_of d columns c)) count (count_at d columns c) null (λ i l. number_is (cell d columns i c) (each i l))

  label_there : (i : ℕ) → i < node_count d → option_and_then label_of (cell d columns i column.District) ≡ Some (label_at d columns i)
  label_there i l = some_at (option_and_then label_of (cell d columns i column.District)) (Word [])
      (first_below_none (node_count d) (λ k. is_none (option_and_then label_of (cell d columns k column.District)))
      i (option_map_none fault.BadLabel (first_below (node_count d) (λ k. is_none (option_and_then label_of (cell d columns k column.District)))) (none_at refusals sound 10)) l)

  pub given_is : IsGiven root (job_from (parsed d columns) setting [])
  given_is = record {
    nodes = d.nodes;
    lists = d.adjacency;
    nodes_are = list_back (get (codes "nodes") root) d.nodes nodes_there;
    lists_are = list_back (get (codes "adjacency") root) (map list d.adjacency) lists_there;
    undirected = undirected;
    units = (refl, sym as_long);
    ids = map_below (node_count d) id_at;
    ids_are = by_place d.nodes (label_under (codes "id")) Some id_at null id_there;
    apart = λ u v l m e. apart u v l m (sym (id_is_at u l) ∙ e ∙ id_is_at v m);
    known = known;
    edges = λ u v l m. (
      edge_from d (map_below (node_count d) id_at) named u v l m,
      from_edge d (map_below (node_count d) id_at) named u v l m,
    );
    population = counted column.Population (λ i l. cond_some_none (is_none (option_and_then (count_of d columns) (cell d columns i column.Population))) column.Population (numbers i l 0));
    first = counted column.First (λ i l. cond_some_none (is_none (option_and_then (count_of d columns) (cell d columns i column.First))) column.First (numbers i l 1));
    second = counted column.Second (λ i l. cond_some_none (is_none (option_and_then (count_of d columns) (cell d columns i column.Second))) column.Second (numbers i l 2));
    no_lengths = ap (λ (key : List ℕ). cond (not (length key == 0)) (join_below (node_count d) (lengths_at d columns)) []);
    labels = map_below (node_count d) (label_at d columns);
    labels_are = by_place d.nodes (label_under columns.district) Some (label_at d columns) null label_there;
    order = λ u v l m.
        let from = get_or-map_below (node_count d) (district_at d columns) u 0 l in
        let to = get_or-map_below (node_count d) (district_at d columns) v 0 m in
        let at : label_before (slice_index_or (map_below (node_count d) (label_at d columns)) u (Word [])) (slice_index_or (map_below (node_count d) (label_at d columns)) v (Word []))
        ≡ label_before (label_at d columns u) (label_at d columns v) =
        ap (λ (a : Label). label_before a (slice_index_or (map_below (node_count d) (label_at d columns)) v (Word [])))
        (get_or-map_below (node_count d) (label_at d columns) u (Word []) l)
        ∙ ap (label_before (label_at d columns u)) (get_or-map_below (node_count d) (label_at d columns) v (Word []) m) in
        (λ h. at ∙ falls d columns u v l m (omega (arith, h, from, to)), λ h. let less = rises d columns u v l (sym at ∙ h) in omega (arith, less, from, to));
  }
