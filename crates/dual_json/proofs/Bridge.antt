-- The stages of reading against the definition.
use Rattle.std.proofs.Common.{◌≡◌, ℕ, zero, suc, ◌^◌, ◌<◌, ◌≤◌, Bool, true, false, not, cond, ◌&&◌, ◌||◌, List, [], length, get_or, Option, Some, None, Err, refl, sym, ap, ◌∙◌, subst, inl, inr, arith}
use Rattle.std.specs.Prelude.{◌==◌, nat_lt, nat_le, codes}
use Rattle.std.specs.Str.{is_utf8}
use Rattle.std.specs.Option.{option_or, option_map, option_and_then, unwrap_or, is_none}
use Rattle.std.proofs.lemmas.Bool.{leb-true, ltb-false, or_parts}
use Rattle.serde_json.specs.Data.{Data}
use Rattle.serde_json.specs.Find.{get as member, as_number, as_u64}
use Rattle.serde_json.specs.Read.{read}
use Rattle.audit_model.specs.declared.fault.GraphFault.{GraphFault}
use Rattle.audit_model.specs.declared.fault.GraphFault.TheVariants as fault
use Rattle.audit_model.specs.declared.outcome.Counts.{Counts}
use Rattle.audit_model.specs.declared.rules.Group.{Group}
use Rattle.audit_model.specs.declared.setting.Columns.{Columns}
use Rattle.audit_model.specs.declared.setting.Label.{Label}
use Rattle.audit_model.specs.declared.setting.Label.TheVariants.{Word}
use Rattle.audit_model.specs.Below.{any_below, count_below, filter_below, map_below}
use Rattle.audit_model.specs.First.{first_below, first_some_below}
use Rattle.audit_model.specs.Graph.{Graph, IsGraph, count_edges}
use Rattle.audit_model.specs.Label.{same_label, label_before}
use Rattle.audit_model.specs.Length.{AreLengths}
use Rattle.audit_model.specs.Limits.{AreFrozen, IsColumn, AreWithin, IsGroup, most_districts}
use Rattle.audit_model.specs.Parsed.{Parsed}
use Rattle.audit_statement.specs.Reading.{Document, graph, joined, id_of, same_id, refused_if, length_fault, label_count, label_at, is_new_label, district_at, refusal, parsed, reading, of_root, of_json, bad_part}
use Rattle.audit_model.proofs.Below.{count_below_same, filter_below_same, length-map_below, get_or-map_below, map_below_same}
use Rattle.audit_model.proofs.First.{first_below_same, first_some_below_same, any_below_same, first_passes, none_or_any}
use Rattle.dual_json.specs.Columns.{count_from, count_in, flag_in, flags_in, frozen_in, names_frozen, names_group, missing, bad, numbers_in, AreOfGroup}
use Rattle.dual_json.specs.Districts.{AreDistricts, district_count_fault, is_new, different_count}
use Rattle.dual_json.specs.Edges.{entries_at, first_in, first_entry_in, is_unknown, is_unnamed, joined_in, graph_in, edges_fault, names_node}
use Rattle.dual_json.specs.Places.{object_at, nth, first_unnamed, AreLabels, place_of_label, repeated_label}
use Rattle.dual_json.specs.Stages.{repeated_in, entry_fault, is_unknown_neighbor, edge_count, graph_fault, labels_fault, AreNumbers, AreRows}
use Rattle.dual_json.proofs.Counted.{label_count_is, district_is, labels_are, start_is}

-- mapping functions that agree on the item there gives equal options
pub option_map_same : {A B : Type 0} → (o : Option A) (f g : A → B) → ((a : A) → o ≡ Some a → f a ≡ g a) → option_map f o ≡ option_map g o
option_map_same None f g same = refl
option_map_same (Some a) f g same = ap Some (same a refl)

-- ---- the ids

module _ (nodes : List Data) (ids : List Label) (are : AreLabels (codes "id") nodes ids) where
  id_at : (i : ℕ) → i < length nodes → id_of (object_at nodes i) ≡ Some (nth ids i)
  id_at i l = are.each i l

  same_ids : (i j : ℕ) → i < length nodes → j < length nodes → same_id (id_of (object_at nodes i)) (id_of (object_at nodes j)) ≡ same_label (nth ids i) (nth ids j)
  same_ids i j li lj = ap (λ o. same_id o (id_of (object_at nodes j))) (id_at i li) ∙ ap (same_id (Some (nth ids i))) (id_at j lj)

  pub repeated_same : repeated_in nodes ≡ repeated_label ids
  repeated_same =
      let test = λ (j : ℕ). any_below j (λ i. same_id (id_of (object_at nodes i)) (id_of (object_at nodes j))) in
      let other = λ (j : ℕ). any_below j (λ i. same_label (nth ids i) (nth ids j)) in
      option_map_same (first_below (length nodes) test)
      (λ j. fault.SameId (unwrap_or (first_below j (λ i. same_id (id_of (object_at nodes i)) (id_of (object_at nodes j)))) 0) j)
      (λ j. fault.SameId (unwrap_or (first_below j (λ i. same_label (nth ids i) (nth ids j))) 0) j)
      (λ j is.
      let inside : j < length nodes = (first_passes (length nodes) test j is).0 in
      ap (λ o. fault.SameId (unwrap_or o 0) j)
      (first_below_same j (λ i. same_id (id_of (object_at nodes i)) (id_of (object_at nodes j))) (λ i. same_label (nth ids i) (nth ids j)) (λ i l. same_ids i j (omega (arith, l, inside)) inside)))
      ∙ ap (option_map (λ j. fault.SameId (unwrap_or (first_below j (λ i. same_label (nth ids i) (nth ids j))) 0) j))
      (first_below_same (length nodes) test other (λ j inside. any_below_same j (λ i. same_id (id_of (object_at nodes i)) (id_of (object_at nodes j))) (λ i. same_label (nth ids i) (nth ids j))
      (λ i l. same_ids i j (omega (arith, l, inside)) inside))
      ∙ ap (λ m. first_below m other) (sym are.count))

  never : (n : ℕ) → any_below n (λ j. false) ≡ false
  never zero = refl
  never (suc n) = ap (λ b. b || false) (never n)

  stranger_by : (o : Option Label) → not (any_below (length nodes) (λ j. same_id o (id_of (object_at nodes j)))) ≡ is_none (option_and_then (place_of_label ids) o)
  stranger_by None = ap not (never (length nodes))
  stranger_by (Some l) =
      ap not (any_below_same (length nodes) (λ j. same_id (Some l) (id_of (object_at nodes j))) (λ j. same_label l (nth ids j)) (λ j inside. ap (same_id (Some l)) (id_at j inside)))
      ∙ ap (λ m. not (any_below m (λ j. same_label l (nth ids j)))) (sym are.count)
      ∙ none_or_any (length ids) (λ j. same_label l (nth ids j)) (place_of_label ids l) refl

  pub stranger_same : (e : Data) → is_unknown_neighbor nodes e ≡ is_unknown ids e
  stranger_same e = stranger_by (id_of e)

-- ---- the graph

module _ (d : Document) (ids : List Label) (are : AreLabels (codes "id") d.nodes ids) where
  joined_same : (i j : ℕ) → i < length d.nodes → j < length d.nodes → joined d i j ≡ joined_in ids d.adjacency i j
  joined_same i j li lj =
      ap (λ o. not (i == j) && (any_below (length (entries_at d.adjacency i)) (λ place. same_id (id_of (object_at (entries_at d.adjacency i) place)) o)
      || any_below (length (entries_at d.adjacency j)) (λ place. same_id (id_of (object_at (entries_at d.adjacency j) place)) (id_of (object_at d.nodes i))))) (are.each j lj)
      ∙ ap (λ o. not (i == j) && (names_node ids (entries_at d.adjacency i) j
      || any_below (length (entries_at d.adjacency j)) (λ place. same_id (id_of (object_at (entries_at d.adjacency j) place)) o))) (are.each i li)

  pub graph_same : graph d ≡ graph_in ids d.adjacency
  graph_same =
      ap (λ (rows : List (List ℕ)). made (length d.nodes) rows)
      (map_below_same (length d.nodes) (λ i. filter_below (length d.nodes) (joined d i)) (λ i. filter_below (length d.nodes) (joined_in ids d.adjacency i))
      (λ i li. filter_below_same (length d.nodes) (joined d i) (joined_in ids d.adjacency i) (λ j lj. joined_same i j li lj)))
      ∙ ap (λ n. made n (map_below n (λ i. filter_below n (joined_in ids d.adjacency i)))) (sym are.count)
    where
      made : ℕ → List (List ℕ) → Graph
      made n rows = record { units = n; neighbours = rows }

  pub entry_same : (test other : Data → Bool) (f : ℕ → ℕ → GraphFault) → length d.nodes ≡ length d.adjacency → ((e : Data) → test e ≡ other e) → entry_fault d test f ≡ first_entry_in other f d.adjacency
  entry_same test other f long same =
      first_some_below_same (length d.nodes) (λ i. option_map (f i) (first_in test (entries_at d.adjacency i))) (λ i. option_map (f i) (first_in other (entries_at d.adjacency i)))
      (λ i l. ap (option_map (f i)) (first_below_same (length (entries_at d.adjacency i)) (λ place. test (object_at (entries_at d.adjacency i) place)) (λ place. other (object_at (entries_at d.adjacency i) place)) (λ k under. same (object_at (entries_at d.adjacency i) k))))
      ∙ ap (λ m. first_some_below m (λ i. option_map (f i) (first_in other (entries_at d.adjacency i)))) long

  pub edges_same : length d.nodes ≡ length d.adjacency
      → option_or (entry_fault d (is_unknown_neighbor d.nodes) fault.UnknownNeighbour) (refused_if (nat_lt 400000 (edge_count d)) (fault.TooManyEdges (edge_count d))) ≡ edges_fault ids d.adjacency
  edges_same long =
      ap (λ o. option_or o (refused_if (nat_lt 400000 (edge_count d)) (fault.TooManyEdges (edge_count d)))) (entry_same (is_unknown_neighbor d.nodes) (is_unknown ids) fault.UnknownNeighbour long (stranger_same d.nodes ids are))
      ∙ ap (λ (g : Graph). option_or (first_entry_in (is_unknown ids) fault.UnknownNeighbour d.adjacency) (refused_if (nat_lt 400000 (count_edges g (λ u v. true))) (fault.TooManyEdges (count_edges g (λ u v. true))))) graph_same

-- ---- all faults

-- a chain of thirteen options splits into three groups
regroup : {A : Type 0} (a b c e f g h i j k l m n : Option A)
    → option_or a (option_or b (option_or c (option_or e (option_or f (option_or g (option_or h (option_or i (option_or j (option_or k (option_or l (option_or m (option_or n None))))))))))))
    ≡ option_or (option_or (option_or a (option_or b (option_or c None))) (option_or (option_or e f) (option_or g (option_or h i)))) (option_or (option_or j (option_or k l)) (option_or m n))
regroup (Some x) b c e f g h i j k l m n = refl
regroup None (Some x) c e f g h i j k l m n = refl
regroup None None (Some x) e f g h i j k l m n = refl
regroup None None None (Some x) f g h i j k l m n = refl
regroup None None None None (Some x) g h i j k l m n = refl
regroup None None None None None (Some x) h i j k l m n = refl
regroup None None None None None None (Some x) i j k l m n = refl
regroup None None None None None None None (Some x) j k l m n = refl
regroup None None None None None None None None (Some x) k l m n = refl
regroup None None None None None None None None None (Some x) l m n = refl
regroup None None None None None None None None None None (Some x) m n = refl
regroup None None None None None None None None None None None (Some x) n = refl
regroup None None None None None None None None None None None None (Some x) = refl
regroup None None None None None None None None None None None None None = refl

-- the first fault is the graph's, else the labels', else that of the number of districts, else that of the lengths
pub refusal_is : (d : Document) (columns : Columns)
    → refusal d columns ≡ option_or (graph_fault d) (option_or (labels_fault columns d.nodes) (option_or (district_count_fault (label_count d columns)) (length_fault d columns)))
refusal_is d columns = regroup
    (refused_if d.directed fault.Directed) (refused_if (not (length d.nodes == length d.adjacency)) (fault.LengthsDiffer (length d.nodes) (length d.adjacency)))
    (refused_if (nat_lt 100000 (length d.nodes)) (fault.TooManyUnits (length d.nodes))) (option_map fault.BadId (first_unnamed (codes "id") d.nodes)) (repeated_in d.nodes)
    (entry_fault d is_unnamed fault.BadNeighbour) (entry_fault d (is_unknown_neighbor d.nodes) fault.UnknownNeighbour) (refused_if (nat_lt 400000 (edge_count d)) (fault.TooManyEdges (edge_count d)))
    (missing columns d.nodes) (bad columns d.nodes) (option_map fault.BadLabel (first_unnamed columns.district d.nodes)) (district_count_fault (label_count d columns))
    (length_fault d columns)

-- ---- the columns

module _ (d : Document) (columns : Columns) (labels : List Label) (are : AreLabels columns.district d.nodes labels) where
  label_here : (i : ℕ) → i < length d.nodes → label_at d columns i ≡ nth labels i
  label_here i l = ap (λ o. unwrap_or o (Word [])) (are.each i l)

  new_same : (i : ℕ) → i < length d.nodes → is_new_label d columns i ≡ is_new labels i
  new_same i l =
      ap not (any_below_same i (λ j. same_label (label_at d columns j) (label_at d columns i)) (λ j. same_label (nth labels j) (nth labels i))
      (λ j under. ap (λ a. same_label a (label_at d columns i)) (label_here j (omega (arith, under, l))) ∙ ap (same_label (nth labels j)) (label_here i l)))

  pub different_same : label_count d columns ≡ different_count labels
  different_same =
      count_below_same (length d.nodes) (is_new_label d columns) (is_new labels) new_same
      ∙ ap (λ n. count_below n (is_new labels)) (sym are.count)

module _ (d : Document) (columns : Columns) (labels found : List Label) (start : List ℕ) (are : AreLabels columns.district d.nodes labels) (is : AreDistricts labels found start) where
  pub label_count_same : label_count d columns ≡ length found
  label_count_same = different_same d columns labels are ∙ label_count_is labels found start is

  district_same : (i : ℕ) → i < length d.nodes → district_at d columns i ≡ get_or start i 0
  district_same i l =
      count_below_same (length d.nodes) (λ j. is_new_label d columns j && label_before (label_at d columns j) (label_at d columns i)) (λ j. is_new labels j && label_before (nth labels j) (nth labels i))
      (λ j under. ap (λ b. b && label_before (label_at d columns j) (label_at d columns i)) (new_same d columns labels are j under)
      ∙ ap (λ a. is_new labels j && label_before a (label_at d columns i)) (label_here d columns labels are j under) ∙ ap (λ a. is_new labels j && label_before (nth labels j) a) (label_here d columns labels are i l))
      ∙ ap (λ n. count_below n (λ j. is_new labels j && label_before (nth labels j) (nth labels i))) (sym are.count)
      ∙ district_is labels found start is i (omega (arith, l, are.count))

  pub start_same : map_below (length d.nodes) (district_at d columns) ≡ start
  start_same =
      ap (λ n. map_below n (district_at d columns)) (sym are.count)
      ∙ start_is labels found start is (district_at d columns) (λ i l. district_same i (omega (arith, l, are.count)))

  label_of_first : (o : Option ℕ) (k : ℕ) → first_below (length d.nodes) (λ i. district_at d columns i == k) ≡ o
      → unwrap_or (option_map (label_at d columns) o) (Word []) ≡ unwrap_or (option_map (nth labels) o) (Word [])
  label_of_first None k e = refl
  label_of_first (Some a) k e = label_here d columns labels are a (first_passes (length d.nodes) (λ i. district_at d columns i == k) a e).0

  pub labels_same : map_below (label_count d columns) (λ k. unwrap_or (option_map (label_at d columns) (first_below (length d.nodes) (λ i. district_at d columns i == k))) (Word [])) ≡ found
  labels_same =
      map_below_same (label_count d columns) (λ k. unwrap_or (option_map (label_at d columns) (first_below (length d.nodes) (λ i. district_at d columns i == k))) (Word []))
      (λ k. unwrap_or (option_map (nth labels) (first_below (length labels) (λ i. district_at d columns i == k))) (Word []))
      (λ k l. label_of_first (first_below (length d.nodes) (λ i. district_at d columns i == k)) k refl
      ∙ ap (λ n. unwrap_or (option_map (nth labels) (first_below n (λ i. district_at d columns i == k))) (Word [])) (sym are.count))
      ∙ ap (λ n. map_below n (λ k. unwrap_or (option_map (nth labels) (first_below (length labels) (λ i. district_at d columns i == k))) (Word []))) label_count_same
      ∙ labels_are labels found start is (district_at d columns) (λ i l. district_same i (omega (arith, l, are.count)))

-- ---- the result

-- the graph, the columns and the lengths are the parsed document
pub parsed_is : (d : Document) (columns : Columns) (g : Graph) (counts : Counts) (group : Group) (frozen start : List ℕ) (found : List Label) → graph d ≡ g
    → AreRows columns d.nodes counts group frozen start found → counts.lengths ≡ (parsed d columns).counts.lengths
    → parsed d columns ≡ record { graph = g; counts = counts; group = group; frozen = frozen; start = start; labels = found }
parsed_is d columns g counts group frozen start found is rows lengths =
    let old = parsed d columns in
    ap (λ (x : Graph). made x old.counts old.group old.frozen old.start old.labels) is
    ∙ ap (λ x. made g (counted x old.counts.first old.counts.second old.counts.lengths) old.group old.frozen old.start old.labels) (sym rows.population)
    ∙ ap (λ x. made g (counted counts.population x old.counts.second old.counts.lengths) old.group old.frozen old.start old.labels) (sym rows.first)
    ∙ ap (λ x. made g (counted counts.population counts.first x old.counts.lengths) old.group old.frozen old.start old.labels) (sym rows.second)
    ∙ ap (λ x. made g (counted counts.population counts.first counts.second x) old.group old.frozen old.start old.labels) (sym lengths)
    ∙ ap (λ x. made g counts (grouped x old.group.whole) old.frozen old.start old.labels) (sym rows.grouped.members)
    ∙ ap (λ x. made g counts (grouped group.members x) old.frozen old.start old.labels) (sym rows.grouped.whole)
    ∙ ap (λ x. made g counts group x old.start old.labels) (sym rows.freezing)
    ∙ ap (λ x. made g counts group frozen x old.labels) (start_same d columns rows.labels found start rows.labelled rows.districts)
    ∙ ap (λ x. made g counts group frozen start x) (labels_same d columns rows.labels found start rows.labelled rows.districts)
  where
    counted : List ℕ → List ℕ → List ℕ → List ℕ → Counts
    counted a b c l = record { population = a; first = b; second = c; lengths = l }

    grouped : List ℕ → List ℕ → Group
    grouped a b = record { members = a; whole = b }

    made : Graph → Counts → Group → List ℕ → List ℕ → List Label → Parsed
    made g counts group frozen start labels = record { graph = g; counts = counts; group = group; frozen = frozen; start = start; labels = labels }

-- an accepted count is at most 10 ^ 9
small_count : (o : Option ℕ) → unwrap_or (option_and_then (λ n. cond (nat_le n (10 ^ 9)) (Some n) None) o) 0 ≤ 10 ^ 9
small_count None = omega arith
small_count (Some n) = by (nat_le n (10 ^ 9)) refl
  where
    by : (b : Bool) → nat_le n (10 ^ 9) ≡ b → unwrap_or (cond {A = Option ℕ} b (Some n) None) 0 ≤ 10 ^ 9
    by true e = leb-true n (10 ^ 9) e
    by false e = omega arith

-- a count that is read is at most 10 ^ 9
small_in : (o : Option Data) → unwrap_or (option_and_then count_from o) 0 ≤ 10 ^ 9
small_in None = omega arith
small_in (Some v) = small_count (option_and_then as_u64 (as_number v))

-- the numbers at a key form a column
column_is : (key : List ℕ) (nodes : List Data) (units : ℕ) (numbers : List ℕ) → numbers ≡ numbers_in key nodes → units ≡ length nodes → IsColumn units numbers
column_is key nodes units numbers is long =
    let f = λ (i : ℕ). unwrap_or (count_in key (object_at nodes i)) 0 in
    record {
      width = ap length is ∙ length-map_below (length nodes) f ∙ sym long;
      small = λ k d l.
          let inside : k < length nodes = omega (arith, l, ap length is, length-map_below (length nodes) f) in
          subst (λ (m : ℕ). m ≤ 10 ^ 9) (sym (ap (λ (xs : List ℕ). get_or xs k d) is ∙ get_or-map_below (length nodes) f k d inside)) (small_in (member key (object_at nodes k)));
    }

-- the data of few enough nodes is within the limits
pub within_is : (nodes : List Data) (columns : Columns) (g : Graph) (counts : Counts) (group : Group) (frozen start : List ℕ) (found : List Label) → IsGraph g → g.units ≡ length nodes → length nodes ≤ 100000
    → count_edges g (λ u v. true) ≤ 400000 → AreRows columns nodes counts group frozen start found → AreLengths g counts.lengths → AreWithin g counts start (length found)
within_is nodes columns g counts group frozen start found simple units few edges rows lengths = record {
  simple = simple;
  units = omega (arith, units, few);
  edges = edges;
  two = rows.two;
  few = rows.few;
  population = column_is columns.population nodes g.units counts.population rows.population units;
  first = column_is columns.first nodes g.units counts.first rows.first units;
  second = column_is columns.second nodes g.units counts.second rows.second units;
  complete = rows.districts.count ∙ rows.labelled.count ∙ sym units;
  in_range = λ u l. rows.districts.inside u (omega (arith, l, units, rows.labelled.count));
  lengths = lengths;
}

-- the data of the columns, from the numbers and the districts
pub rows_are : (nodes : List Data) (columns : Columns) (counts : Counts) (group : Group) (frozen start : List ℕ) (found : List Label) (lengths : List ℕ) (labels : List Label)
    → AreNumbers columns nodes counts group frozen → AreLabels columns.district nodes labels → AreDistricts labels found start → 2 ≤ length found → length found ≤ most_districts
    → AreRows columns nodes (record counts { lengths = lengths }) group frozen start found
rows_are nodes columns counts group frozen start found lengths labels numbers named plan two few = record {
  population = numbers.population;
  first = numbers.first;
  second = numbers.second;
  grouped = numbers.grouped;
  freezing = numbers.freezing;
  labels = labels;
  labelled = named;
  districts = plan;
  two = two;
  few = few;
}

-- the group that is read has two columns or none
pub group_is : (nodes : List Data) (columns : Columns) (units : ℕ) (group : Group) → AreOfGroup columns nodes group → units ≡ length nodes → IsGroup units group
group_is nodes columns units group are long = by (names_group columns) are.members are.whole
  where
    by : (b : Bool) → group.members ≡ cond b (numbers_in columns.group nodes) [] → group.whole ≡ cond b (numbers_in columns.whole nodes) [] → IsGroup units group
    by true members whole = inr (column_is columns.group nodes units group.members members long, column_is columns.whole nodes units group.whole whole long)
    by false members whole = inl (members, whole)

-- the frozen units that are read have one flag per unit, or none
pub frozen_is : (nodes : List Data) (columns : Columns) (units : ℕ) (frozen : List ℕ) → frozen ≡ frozen_in columns nodes → units ≡ length nodes → AreFrozen units frozen
frozen_is nodes columns units frozen is long = by (names_frozen columns) is
  where
    by : (b : Bool) → frozen ≡ cond b (flags_in columns.frozen nodes) [] → AreFrozen units frozen
    by true all = inr (ap length all ∙ length-map_below (length nodes) (λ i. unwrap_or (flag_in columns.frozen (object_at nodes i)) 0) ∙ sym long)
    by false none = inl none

-- a number of districts without a fault is 2 to 200
pub count_within : (n : ℕ) → district_count_fault n ≡ None → (2 ≤ n) × (n ≤ 200)
count_within n none =
    let both = or_parts (nat_lt n 2) (nat_lt 200 n) (not_there (nat_lt n 2 || nat_lt 200 n) (fault.DistrictCount n) none) in
    (ltb-false n 2 both.0, ltb-false 200 n both.1)
  where
    not_there : (b : Bool) (f : GraphFault) → refused_if b f ≡ None → b ≡ false
    not_there true f e = cc e
    not_there false f e = refl

-- bytes that are JSON are read as their root is
pub reading_of : (bytes : List ℕ) (columns : Columns) (root : Data) → cond (is_utf8 bytes) (read bytes) None ≡ Some root → reading bytes columns ≡ of_root columns root (bad_part root)
unfolding reading
reading_of bytes columns root is = ap (of_json columns) is

-- bytes that are not JSON are refused
pub reading_none : (bytes : List ℕ) (columns : Columns) → cond (is_utf8 bytes) (read bytes) None ≡ None → reading bytes columns ≡ Err fault.NotJson
unfolding reading
reading_none bytes columns is = ap (of_json columns) is
