-- The data built directly is the data parsed from the grid's text.
use Rattle.std.proofs.Common.{◌≡◌, ℕ, ◌+◌, ◌-◌, ◌*◌, ◌/◌, ◌%◌, ◌^◌, ◌<◌, ◌≤◌, Bool, true, cond, not, ◌&&◌, ◌||◌, List, [], length, get_or, codes, Option, Some, None, Ok, pos, refl, sym, ap, ap₂, ◌∙◌, subst, inl, inr, arith}
use Rattle.std.specs.Prelude.{◌==◌, ◌≢◌, ◌↔◌, nat_lt, unwrap_or}
use Rattle.std.specs.declared.cmp.Ordering.TheVariants.{Less}
use Rattle.std.proofs.lemmas.Bool.{and_parts, and_from, or_cases, or_left, or_right, cases_lt, cases_eq, eq-eqb, ne_eqb, eqb-true, lt-ltb, le-leb, both_ways, not_from_false, not-true}
use Rattle.std.proofs.lemmas.List.{ext_get_or, length-map}
use Rattle.serde_json.specs.Data.{Data, null}
use Rattle.audit_model.specs.declared.outcome.Counts.{Counts}
use Rattle.audit_model.specs.declared.rules.Group.{Group}
use Rattle.audit_model.specs.declared.setting.Label.{Label}
use Rattle.audit_model.specs.declared.setting.Label.TheVariants.{Whole, Word}
use Rattle.audit_model.specs.Below.{map_below}
use Rattle.audit_model.specs.Graph.{Graph, IsGraph, adjacent, count_edges}
use Rattle.audit_model.specs.Label.{label_cmp}
use Rattle.audit_model.specs.Limits.{AreWithin}
use Rattle.audit_statement.specs.Grid.{grid, grid_side, are_beside, first_votes_of}
use Rattle.dual_graph.specs.Pairs.{Joins}
use Rattle.dual_json.specs.Columns.{count_in, numbers_in}
use Rattle.dual_json.specs.Districts.{AreDistricts}
use Rattle.dual_json.specs.Places.{nth, label_at_key, AreLabels}
use Rattle.dual_json.specs.Stages.{AreRows}
use Rattle.dual_json.proofs.Bridge.{parsed_is, within_is}
use Rattle.dual_json.proofs.Joined.{graph_is}
use Rattle.audit_statement.specs.Reading.{Document, node_count, node, entries, entry, id_of, same_id, lists, joined, graph, reading}
use Rattle.audit_model.proofs.Connected.{filter_below-has}
use Rattle.audit_model.proofs.Lengths.{none_lengths}
use Rattle.audit_model.proofs.Below.{length-map_below, get_or-map_below, any_below_from}
use Rattle.audit_model.proofs.ListFacts.{has_at}
use Rattle.grid_maker.specs.Columns.{grid_columns}
use Rattle.grid_maker.specs.Pairs.{pairs_until}
use Rattle.grid_maker.specs.Tree.{entry_tree, node_tree}
use Rattle.grid_maker.proofs.Accepted.{units_beside, grid_document, count_is, node_at, entries_at, id_at, entry_id, near, lists_beside, whole_same}
use Rattle.grid_maker.proofs.Districts.{district_of, units_of, few_units, district_below, first_of, first_district, first_inside}
use Rattle.grid_maker.proofs.Graphs.{grid_gives}
use Rattle.grid_maker.proofs.Neighbours.{beside, right_is_beside, below_is_beside}
use Rattle.grid_maker.proofs.Paired.{IsNext, right_is, below_is, joins_next, next_joins, next_joins_back, next_inside}

-- ---- adjacent units

-- equality of numbers is symmetric
eq_turned : (a b : ℕ) → (a == b) ≡ true → (b == a) ≡ true
eq_turned a b h = eq-eqb b a (sym (eqb-true a b h))

-- adjacency in the grid is symmetric
beside_turned : (size u v : ℕ) → are_beside size u v ≡ true → are_beside size v u ≡ true
beside_turned size u v h = elim (or_cases ((u / grid_side size == v / grid_side size) && ((u + 1 == v) || (v + 1 == u))) ((u + grid_side size == v) || (v + grid_side size == u)) h) [
  | inl e ↦
      let both = and_parts (u / grid_side size == v / grid_side size) ((u + 1 == v) || (v + 1 == u)) e in
      or_left ((v / grid_side size == u / grid_side size) && ((v + 1 == u) || (u + 1 == v))) ((v + grid_side size == u) || (u + grid_side size == v))
      (and_from (v / grid_side size == u / grid_side size) ((v + 1 == u) || (u + 1 == v)) (eq_turned (u / grid_side size) (v / grid_side size) both.0) (turned (u + 1 == v) (v + 1 == u) both.1))
  | inr e ↦
      or_right ((v / grid_side size == u / grid_side size) && ((v + 1 == u) || (u + 1 == v))) ((v + grid_side size == u) || (u + grid_side size == v))
      (turned (u + grid_side size == v) (v + grid_side size == u) e)
]
  where
    turned : (a b : Bool) → (a || b) ≡ true → (b || a) ≡ true
    turned a b h = elim (or_cases a b h) [ inl e ↦ or_right b a e | inr e ↦ or_left b a e ]

-- the units to the right and below are adjacent
next_beside : (size u v : ℕ) → 2 ≤ grid_side size → IsNext (grid_side size) u v → are_beside size u v ≡ true
unfolding beside
next_beside size u v wide next = elim next [
  | inl r ↦
      let is = right_is (grid_side size) u v r in
      subst (λ (w : ℕ). are_beside size u w ≡ true) (sym is.1) (right_is_beside (grid_side size) u wide ∙ is.0)
  | inr b ↦ below_is_beside (grid_side size) u v (sym (below_is (grid_side size) u v b).1)
]

-- of two adjacent units, the greater one is to the right of the other or below it
beside_next : (size u v : ℕ) → 2 ≤ grid_side size → u < v → v < units_of size → are_beside size u v ≡ true → IsNext (grid_side size) u v
unfolding beside
beside_next size u v wide l inside h = elim (near size u v l h) [
  | inl e ↦
      let flag : nat_lt (u % grid_side size + 1) (grid_side size) ≡ true =
      sym (right_is_beside (grid_side size) u wide) ∙ subst (λ (w : ℕ). are_beside size u w ≡ true) (sym e) h in
      inl (ap (λ (b : Bool). cond {A = Option ℕ} b (Some (u + 1)) None) flag ∙ ap Some e)
  | inr e ↦
      let flag : nat_lt (u + grid_side size) (grid_side size * grid_side size) ≡ true = lt-ltb (u + grid_side size) (grid_side size * grid_side size) (omega (arith, e, inside)) in
      inr (ap (λ (b : Bool). cond {A = Option ℕ} b (Some (u + grid_side size)) None) flag ∙ ap Some e)
]

-- ---- lists

-- functions that agree below a bound have equal lists of values
list_is : {A : Type 0} (n m : ℕ) (f g : ℕ → A) (d : A) → m ≡ n → ((i : ℕ) → i < n → f i ≡ g i) → map_below m f ≡ map_below n g
list_is n m f g d e same = ext_get_or d (map_below m f) (map_below n g) (length-map_below m f ∙ e ∙ sym (length-map_below n g))
    (λ i l.
    let inside : i < m = omega (arith, l, length-map_below m f) in
    get_or-map_below m f i d inside ∙ same i (omega (arith, inside, e)) ∙ sym (get_or-map_below n g i d (omega (arith, inside, e))))

-- a column of nodes built one by one holds the number of each node
column_is : (key : List ℕ) (n : ℕ) (f : ℕ → Data) (g : ℕ → ℕ) → ((i : ℕ) → i < n → count_in key (f i) ≡ Some (g i)) → map_below n g ≡ numbers_in key (map_below n f)
column_is key n f g same =
    sym (list_is n (length (map_below n f)) (λ i. unwrap_or (count_in key (get_or (map_below n f) i null)) 0) g 0 (length-map_below n f)
    (λ i l. ap (λ (d : Data). unwrap_or (count_in key d) 0) (get_or-map_below n f i null l) ∙ ap (λ (o : Option ℕ). unwrap_or o 0) (same i l)))

-- a smaller integer is the smaller label
whole_less : (a b : ℕ) → a < b → label_cmp (Whole (pos a)) (Whole (pos b)) ≡ Less
whole_less a b l = rw (lt-ltb a b l) refl

-- ---- the grid

module _ (size : ℕ) (key : List ℕ) (some : 1 ≤ size) (small : size ≤ 30) where
  abbrev made : Document
  made = grid_document size key

  wide : 2 ≤ grid_side size
  wide = omega (arith, some)

  -- the list of a unit has its adjacent units
  beside_lists : (u v : ℕ) → u < node_count made → v < node_count made → are_beside size u v ≡ true → lists made u v ≡ true
  beside_lists u v lu lv h =
      let at = has_at (units_beside size u) v (filter_below-has (units_of size) (are_beside size u) v (omega (arith, lv, count_is size key)) h) in
      let under = at.1 in
      let place : at.0 < length (entries made u) = omega (arith, under, ap (λ (ds : List Data). length ds) (entries_at size key u lu), length-map (units_beside size u) entry_tree) in
      any_below_from (length (entries made u)) (λ k. same_id (id_of (entry made u k)) (id_of (node made v))) at.0 place
      (ap₂ same_id (entry_id size key u at.0 lu place) (id_at size key v lv) ∙ whole_same (get_or (units_beside size u) at.0 0) v
      ∙ eq-eqb (get_or (units_beside size u) at.0 0) v at.2)

  next_joined : (u v : ℕ) → u < node_count made → IsNext (grid_side size) u v → (joined made u v ≡ true) × (joined made v u ≡ true)
  next_joined u v lu next =
      let inside = next_inside (grid_side size) u v (omega (arith, some)) (omega (arith, lu, count_is size key)) next in
      let up = inside.0 in
      let few = inside.1 in
      let found : lists made u v ≡ true = beside_lists u v lu (omega (arith, few, count_is size key)) (next_beside size u v wide next) in (
        and_from (not (u == v)) (lists made u v || lists made v u) (not_from_false (u == v) (ne_eqb u v (λ e. omega (arith, up, e)))) (or_left (lists made u v) (lists made v u) found),
        and_from (not (v == u)) (lists made v u || lists made u v) (not_from_false (v == u) (ne_eqb v u (λ e. omega (arith, up, e)))) (or_right (lists made v u) (lists made u v) found),
      )

  joined_beside : (u v : ℕ) → u < node_count made → v < node_count made → joined made u v ≡ true → (u ≢ v) × (are_beside size u v ≡ true)
  joined_beside u v lu lv h =
      let parts = and_parts (not (u == v)) (lists made u v || lists made v u) h in (
        λ e. both_ways (u == v) (not-true (u == v) parts.0) (eq-eqb u v e),
        elim (or_cases (lists made u v) (lists made v u) parts.1) [
          | inl there ↦ lists_beside size key some small u v lu lv there
          | inr back ↦ beside_turned size v u (lists_beside size key some small v u lv lu back)
        ],
      )

  joined_joins : (u v : ℕ) → u < node_count made → v < node_count made → joined made u v ≡ true → Joins (pairs_until (grid_side size) (units_of size)) u v
  joined_joins u v lu lv h =
      let found = joined_beside u v lu lv h in
      let iu : u < units_of size = omega (arith, lu, count_is size key) in
      let iv : v < units_of size = omega (arith, lv, count_is size key) in
      elim (cases_lt u v) [
        | inl up ↦ next_joins (grid_side size) (units_of size) u v iu (beside_next size u v wide up iv found.1)
        | inr not_up ↦ elim (cases_eq u v) [
          | inl e ↦ absurd (found.0 e)
          | inr off ↦ next_joins_back (grid_side size) (units_of size) u v iv (beside_next size v u wide (omega (arith, not_up, off)) iu (beside_turned size u v found.1))
        ]
      ]

  pub made_graph : (g : Graph) → IsGraph g → g.units ≡ units_of size → ((u v : ℕ) → (adjacent g u v ≡ true) ↔ Joins (pairs_until (grid_side size) (units_of size)) u v)
      → graph made ≡ g
  made_graph g is units joins =
      sym (graph_is g (node_count made) (joined made) is (units ∙ sym (count_is size key))
      (λ u v h. elim (joins_next (grid_side size) (units_of size) u v ((joins u v).0 h)) [
        | inl next ↦ let l = next.0 in (next_joined u v (omega (arith, l, count_is size key)) next.1).0
        | inr next ↦ let l = next.0 in (next_joined v u (omega (arith, l, count_is size key)) next.1).1
      ])
      (λ u v lu lv h. (joins u v).1 (joined_joins u v lu lv h)))

  -- ---- the columns

  abbrev label_list : List Label
  label_list = map_below (units_of size) (λ u. Whole (pos (district_of size u)))

  abbrev ten : List Label
  ten = map_below 10 (λ d. Whole (pos d))

  label_at_unit : (i : ℕ) → i < units_of size → nth label_list i ≡ Whole (pos (district_of size i))
  label_at_unit i l = get_or-map_below (units_of size) (λ u. Whole (pos (district_of size u))) i (Word []) l

  ten_at : (d : ℕ) → d < 10 → nth ten d ≡ Whole (pos d)
  ten_at d l = get_or-map_below 10 (λ k. Whole (pos k)) d (Word []) l

  ten_long : length ten ≡ 10
  ten_long = length-map_below 10 (λ k. Whole (pos k))

  labels_long : length label_list ≡ units_of size
  labels_long = length-map_below (units_of size) (λ u. Whole (pos (district_of size u)))

  labelled : AreLabels (codes "district") made.nodes label_list
  labelled = record {
    count = labels_long ∙ sym (count_is size key);
    each = λ i l. ap (label_at_key (codes "district")) (node_at size key i l) ∙ ap Some (sym (label_at_unit i (omega (arith, l, count_is size key))));
  }

  start_at : (i : ℕ) → i < units_of size → get_or (map_below (units_of size) (district_of size)) i 0 ≡ district_of size i
  start_at i l = get_or-map_below (units_of size) (district_of size) i 0 l

  districts : AreDistricts label_list ten (map_below (units_of size) (district_of size))
  districts = record {
    rising = λ i j l lj.
        let under : j < 10 = omega (arith, lj, ten_long) in
        ap₂ label_cmp (ten_at i (omega (arith, l, under))) (ten_at j under) ∙ whole_less i j l;
    from = λ k l.
        let under : k < 10 = omega (arith, l, ten_long) in
        let inside = first_inside size k some under in (
          first_of size k,
          omega (arith, inside, labels_long),
          ten_at k under ∙ ap (λ (d : ℕ). Whole (pos d)) (sym (first_district size k some)) ∙ sym (label_at_unit (first_of size k) inside),
        );
    count = length-map_below (units_of size) (district_of size) ∙ sym labels_long;
    inside = λ i l.
        let here : i < units_of size = omega (arith, l, labels_long) in
        omega (arith, start_at i here, district_below size i some here, ten_long);
    place = λ i l.
        let here : i < units_of size = omega (arith, l, labels_long) in
        ap (nth ten) (start_at i here) ∙ ten_at (district_of size i) (district_below size i some here) ∙ sym (label_at_unit i here);
  }

  first_count : (i : ℕ) → i < units_of size → count_in (codes "a") (node_tree size key i) ≡ Some (first_votes_of key i)
  first_count i l = rw (le-leb (first_votes_of key i) (10 ^ 9) (omega arith)) refl

  second_count : (i : ℕ) → i < units_of size → count_in (codes "b") (node_tree size key i) ≡ Some (100 - first_votes_of key i)
  second_count i l = rw (le-leb (100 - first_votes_of key i) (10 ^ 9) (omega arith)) refl

  pub made_rows : (counts : Counts) (group : Group) (frozen start : List ℕ) (found : List Label) → counts.population ≡ map_below (units_of size) (λ u. 100)
      → counts.first ≡ map_below (units_of size) (first_votes_of key) → counts.second ≡ map_below (units_of size) (λ u. 100 - first_votes_of key u)
      → group ≡ record { members = []; whole = [] } → frozen ≡ [] → start ≡ map_below (units_of size) (district_of size) → found ≡ map_below 10 (λ d. Whole (pos d))
      → AreRows grid_columns made.nodes counts group frozen start found
  made_rows counts group frozen start found population first second none unfrozen starts labels = record {
    population = population ∙ column_is (codes "pop") (units_of size) (node_tree size key) (λ u. 100) (λ i l. refl);
    first = first ∙ column_is (codes "a") (units_of size) (node_tree size key) (first_votes_of key) first_count;
    second = second ∙ column_is (codes "b") (units_of size) (node_tree size key) (λ u. 100 - first_votes_of key u) second_count;
    grouped = record { members = ap (λ (g : Group). g.members) none; whole = ap (λ (g : Group). g.whole) none };
    freezing = unfrozen;
    labels = label_list;
    labelled = labelled;
    districts = subst (λ (ls : List Label). AreDistricts label_list ls start) (sym labels) (subst (λ (xs : List ℕ). AreDistricts label_list ten xs) (sym starts) districts);
    two = omega (arith, ap (λ (ls : List Label). length ls) labels, ten_long);
    few = omega (arith, ap (λ (ls : List Label). length ls) labels, ten_long);
  }

  -- ---- the whole grid

  pub made_is_read : (g : Graph) (counts : Counts) (group : Group) (frozen start : List ℕ) (found : List Label) → graph made ≡ g → AreRows grid_columns made.nodes counts group frozen start found
      → counts.lengths ≡ []
      → reading (grid size key) grid_columns ≡ Ok (record { graph = g; counts = counts; group = group; frozen = frozen; start = start; labels = found })
  made_is_read g counts group frozen start found same rows none = grid_gives size key some small ∙ ap Ok (parsed_is made grid_columns g counts group frozen start found same rows none)

  pub made_within : (g : Graph) (counts : Counts) (group : Group) (frozen start : List ℕ) (found : List Label) → IsGraph g → g.units ≡ units_of size → count_edges g (λ u v. true) ≤ 400000
      → AreRows grid_columns made.nodes counts group frozen start found → counts.lengths ≡ [] → AreWithin g counts start (length found)
  made_within g counts group frozen start found is units few rows none =
      within_is made.nodes grid_columns g counts group frozen start found is (units ∙ sym (count_is size key)) (omega (arith, count_is size key, few_units size small)) few rows
      (none_lengths g counts.lengths none)
