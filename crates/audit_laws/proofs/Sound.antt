-- No test refuses a graph that JSON gives within the limits.
use Rattle.std.proofs.Common.{◌≡◌, ◌≢◌, ◌⊎◌, ℕ, ◌<◌, ◌≤◌, Bool, true, false, not, ◌&&◌, List, [], ◌∷◌, length, map, get_or, Option, Some, None, Ok, refl, sym, ap, ◌∙◌, subst, cond, arith}
use Rattle.std.specs.Prelude.{◌==◌, codes, is_some, is_none, unwrap_or, option_map, option_and_then, slice_index}
use Rattle.std.specs.List.{All, slice_index_or, list_all}
use Rattle.std.specs.Str.{is_utf8}
use Rattle.std.proofs.lemmas.Bool.{and_from, cond-false, eq-eqb, false_from_ne_true, le-leb, le-ltb, not_from_true, or_from}
use Rattle.std.proofs.lemmas.List.{get_or-map, length-map}
use Rattle.serde_json.specs.Data.{Data, null, boolean, number, string, array, object}
use Rattle.serde_json.specs.Find.{get, as_bool, as_object}
use Rattle.serde_json.specs.Read.{read}
use Rattle.audit_model.specs.declared.fault.Column.{Column}
use Rattle.audit_model.specs.declared.fault.Column.TheVariants as column
use Rattle.audit_model.specs.declared.fault.GraphFault.{GraphFault}
use Rattle.audit_model.specs.declared.fault.GraphFault.TheVariants as fault
use Rattle.audit_model.specs.declared.setting.Columns.{Columns}
use Rattle.audit_model.specs.declared.setting.Label.{Label}
use Rattle.audit_model.specs.declared.setting.Label.TheVariants.{Word}
use Rattle.audit_model.specs.Below.{any_below, count_below, sum_below}
use Rattle.audit_model.specs.Graph.{Graph, adjacent, count_edges}
use Rattle.audit_model.specs.Job.{Job}
use Rattle.audit_model.specs.Label.{label_before}
use Rattle.audit_model.specs.Limits.{most_people, most_units, most_edges, most_districts}
use Rattle.dual_json.proofs.Shapes.{not_refused, parts_good}
use Rattle.audit_statement.specs.Reading.{accepted_or, bad_number, bad_part, cell, count_of, Document, district_at, document, entries, entry, first_entry, graph, id_of, key_of, label_at, label_count, label_of, length_fault, list_at, list_of, missing_column, names_frozen, names_group, names_length, node, node_count, of_json, of_root, parsed, reading, refusal, repeated_id, same_id}
use Rattle.audit_model.proofs.Below.{any_below_from, any_below_none, count_below_same}
use Rattle.audit_model.proofs.Bools.{same_bool}
use Rattle.audit_model.proofs.First.{none_first_below, none_some_below}
use Rattle.audit_model.proofs.Options.{map_none, or_of_none}
use Rattle.dual_graph.proofs.Counting.{sum_below_same}
use Rattle.dual_json.proofs.Listed.{elements-items_of}
use Rattle.audit_laws.proofs.Determining.{undone, valid_is_numbered}
use Rattle.audit_laws.proofs.Labels.{districts_onto}
use Rattle.audit_laws.proofs.Naming.{edge_from, from_edge, id_from, id_is}
use Rattle.audit_laws.proofs.Numbering.{IsOnto, same_bound}
use Rattle.audit_laws.proofs.Reading.{falls, rises}
use Rattle.audit_statement.specs.Given.{IsGiven, Names, count, label_under, list}
use Rattle.audit_statement.specs.PlainlyEnded.{IsAllowed}
use Rattle.audit_statement.specs.Valid.{IsValid}

-- ---- options and lists

-- lists that are mapped to the same list agree at each place
at_place : {X Y Z : Type 0} (f : X → Y) (h : Z → Y) (xs : List X) (zs : List Z) (x : X) (z : Z) → map f xs ≡ map h zs
    → (i : ℕ) → i < length xs → f (get_or xs i x) ≡ h (get_or zs i z)
at_place f h xs zs x z e i l =
    let long : length (map f xs) ≡ length (map h zs) = ap length e in
    sym (get_or-map f xs i x (f x) l) ∙ ap (λ ys. get_or ys i (f x)) e
    ∙ get_or-map h zs i z (f x) (omega (arith, l, long, length-map xs f, length-map zs h))

-- graphs with the same adjacent units have equal counts of edges that pass a test
pub count_edges_same : (a b : Graph) (test : ℕ → ℕ → Bool) → a.units ≡ b.units
    → ((u v : ℕ) → u < a.units → v < a.units → adjacent a u v ≡ adjacent b u v) → count_edges a test ≡ count_edges b test
count_edges_same a b test units same =
    sum_below_same a.units (λ v. count_below v (λ u. adjacent a u v && test u v)) (λ v. count_below v (λ u. adjacent b u v && test u v))
    (λ v m. count_below_same v (λ u. adjacent a u v && test u v) (λ u. adjacent b u v && test u v)
    (λ u l. ap (λ (x : Bool). x && test u v) (same u v (omega (arith, l, m)) m)))
    ∙ ap (λ (n : ℕ). sum_below n (λ v. count_below v (λ u. adjacent b u v && test u v))) units

-- lists that are mapped to the same list have equal lengths
as_long : {X Y Z : Type 0} (f : X → Y) (h : Z → Y) (xs : List X) (zs : List Z) → map f xs ≡ map h zs → length xs ≡ length zs
as_long f h xs zs e =
    let long : length (map f xs) ≡ length (map h zs) = ap length e in
    omega (arith, long, length-map xs f, length-map zs h)

-- ---- shapes

-- a value with a member is an object
is_object : (key : List ℕ) (root value : Data) → get key root ≡ Some value → is_some (as_object root) ≡ true
is_object key null value e = cc
is_object key (boolean b) value e = cc
is_object key (number n) value e = cc
is_object key (string s) value e = cc
is_object key (array ds) value e = cc
is_object key (object ms) value e = refl

-- lists of values test as lists
all_lists : (lists : List (List Data)) → list_all (λ d. is_some (list_of d)) (map list lists) ≡ true
all_lists [] = refl
all_lists (one ∷ lists) = and_from true (list_all (λ d. is_some (list_of d)) (map list lists)) refl (all_lists lists)

-- a flag that is a boolean is no wrong flag
is_flag : (o : Option Data) → ((value : Data) → o ≡ Some value → (b : Bool) × (value ≡ boolean b)) → unwrap_or (option_map (λ d. is_none (as_bool d)) o) false ≡ false
is_flag None flag = refl
is_flag (Some value) flag = let is = flag value refl in ap (λ d. is_none (as_bool d)) is.1

-- a flag that is not true reads as false
not_directed : (o : Option Data) → ((value : Data) → o ≡ Some value → (b : Bool) × (value ≡ boolean b)) → o ≢ Some (boolean true)
    → unwrap_or (option_and_then as_bool o) false ≡ false
not_directed None flag none = refl
not_directed (Some value) flag none = let is = flag value refl in by is.0 is.1
  where
    by : (b : Bool) → value ≡ boolean b → unwrap_or (as_bool value) false ≡ false
    by true e = absurd (none (ap Some e))
    by false e = ap (λ d. unwrap_or (as_bool d) false) e

-- an option with an image is not empty
there : {A B : Type 0} (f : A → Option B) (o : Option A) (x : B) → option_and_then f o ≡ Some x → is_none o ≡ false
there f None x e = cc
there f (Some a) x e = refl

module _ (root : Data) (job : Job) (g : IsGiven root job) (fit : IsAllowed root job) (valid : IsValid job job.start) (no_group : job.setting.columns.group ≡ [])
    (no_frozen : job.setting.columns.frozen ≡ []) (no_lengths : job.setting.columns.length ≡ []) where
  abbrev columns : Columns
  columns = job.setting.columns

  abbrev d : Document
  d = document root

  nodes_at : list_at (codes "nodes") root ≡ Some g.nodes
  nodes_at = ap (option_and_then list_of) g.nodes_are ∙ ap Some (elements-items_of g.nodes)

  lists_at : list_at (codes "adjacency") root ≡ Some (map list g.lists)
  lists_at = ap (option_and_then list_of) g.lists_are ∙ ap Some (elements-items_of (map list g.lists))

  pub shape : bad_part root ≡ None
  shape = parts_good root g.nodes (map list g.lists) (is_object (codes "nodes") root (list g.nodes) g.nodes_are) (sym nodes_at) (sym lists_at)
      (all_lists g.lists) (is_flag (get (codes "directed") root) fit.directed) (is_flag (get (codes "multigraph") root) fit.multigraph)

  nodes_same : d.nodes ≡ g.nodes
  nodes_same = ap (λ (o : Option (List Data)). unwrap_or o []) nodes_at

  lists_same : d.adjacency ≡ g.lists
  lists_same = ap (λ (o : Option (List Data)). map (λ x. unwrap_or (list_of x) []) (unwrap_or o [])) lists_at
      ∙ undone list (λ x. unwrap_or (list_of x) []) elements-items_of g.lists

  count_is : node_count d ≡ job.graph.units
  count_is = ap (λ (ds : List Data). length ds) nodes_same ∙ g.units.0

  -- ---- ids and edges

  id_there : (i : ℕ) → i < node_count d → id_of (node d i) ≡ Some (slice_index_or g.ids i (Word []))
  id_there i l = at_place (label_under (codes "id")) Some d.nodes g.ids null (Word []) (ap (map (label_under (codes "id"))) nodes_same ∙ g.ids_are) i l

  known : (u place : ℕ) → u < node_count d → place < length (entries d u)
      → (v : ℕ) × (v < job.graph.units) × (id_of (entry d u place) ≡ Some (slice_index_or g.ids v (Word [])))
  known u place l m = subst
      (λ (ls : List (List Data)). place < length (slice_index_or ls u [])
      → (v : ℕ) × (v < job.graph.units) × (label_under (codes "id") (slice_index_or (slice_index_or ls u []) place null) ≡ Some (slice_index_or g.ids v (Word []))))
      (sym lists_same) (λ k. g.known u place (omega (arith, l, count_is)) k) m

  repeated : repeated_id d columns ≡ None
  repeated = map_none _ _ (none_first_below (node_count d) _ (λ j m. any_below_none j _ (λ i l.
      false_from_ne_true (same_id (id_of (node d i)) (id_of (node d j))) (λ h.
      let same : Some (slice_index_or g.ids i (Word [])) ≡ Some (slice_index_or g.ids j (Word [])) =
      sym (id_there i (omega (arith, l, m))) ∙ id_is (id_of (node d i)) (id_of (node d j)) (slice_index_or g.ids j (Word [])) (id_there j m) h in
      let one : slice_index_or g.ids i (Word []) ≡ slice_index_or g.ids j (Word []) = cc in
      let twin = g.apart i j (omega (arith, l, m, count_is)) (omega (arith, m, count_is)) one in
      omega (arith, l, twin)))))

  no_entry : (test : Data → Bool) (f : ℕ → ℕ → GraphFault) → ((i place : ℕ) → i < node_count d → place < length (entries d i) → test (entry d i place) ≡ false)
      → first_entry d columns test f ≡ None
  no_entry test f off = none_some_below (node_count d) _ (λ i l. map_none _ _ (none_first_below (length (entries d i)) _ (λ place m. off i place l m)))

  is_known : (i place : ℕ) → i < node_count d → place < length (entries d i) → any_below (node_count d) (λ j. same_id (id_of (entry d i place)) (id_of (node d j))) ≡ true
  is_known i place l m =
      let at = known i place l m in
      let inside : at.0 < node_count d = omega (arith, at.1, count_is) in
      any_below_from (node_count d) _ at.0 inside
      (id_from (id_of (entry d i place)) (id_of (node d at.0)) (slice_index_or g.ids at.0 (Word [])) (id_there at.0 inside) at.2)

  abbrev Joins : List (List Data) → ℕ → ℕ → Type 0
  Joins ls u v = (u ≢ v) × (Names g.ids (slice_index_or ls u []) v ⊎ Names g.ids (slice_index_or ls v []) u)

  pub edge_same : (u v : ℕ) → u < job.graph.units → v < job.graph.units → adjacent (graph d) u v ≡ adjacent job.graph u v
  edge_same u v l m =
      let edge = g.edges u v l m in
      same_bool (adjacent (graph d) u v) (adjacent job.graph u v)
      (λ h. edge.1 (subst (λ (ls : List (List Data)). Joins ls u v) lists_same
      (edge_from d g.ids id_there u v (omega (arith, l, count_is)) (omega (arith, m, count_is)) h)))
      (λ h. from_edge d g.ids id_there u v (omega (arith, l, count_is)) (omega (arith, m, count_is))
      (subst (λ (ls : List (List Data)). Joins ls u v) (sym lists_same) (edge.0 h)))

  pub edges_same : count_edges (graph d) (λ u v. true) ≡ count_edges job.graph (λ u v. true)
  edges_same = count_edges_same (graph d) job.graph (λ u v. true) count_is
      (λ u v l m. edge_same u v (omega (arith, l, count_is)) (omega (arith, m, count_is)))

  -- ---- columns

  unnamed : names_group d columns ≡ false
  unnamed = ap (λ (key : List ℕ). not (length key == 0)) no_group

  unasked : (refused : Bool) → (names_group d columns && refused) ≡ false
  unasked refused = ap (λ (b : Bool). b && refused) unnamed

  unfrozen : (refused : Bool) → (names_frozen d columns && refused) ≡ false
  unfrozen refused = ap (λ (key : List ℕ). not (length key == 0) && refused) no_frozen

  unlong : length_fault d columns ≡ None
  unlong = cond-false {A = Option GraphFault} (names_length d columns) _ None (ap (λ (key : List ℕ). not (length key == 0)) no_lengths)

  cell_at : (c : Column) (numbers : List ℕ) → map (get (key_of d columns c)) g.nodes ≡ map count numbers
      → (i : ℕ) → i < node_count d → cell d columns i c ≡ count (slice_index numbers i)
  cell_at c numbers e i l = at_place (get (key_of d columns c)) count d.nodes numbers null 0 (ap (map (get (key_of d columns c))) nodes_same ∙ e) i l

  label_there : (i : ℕ) → i < node_count d → option_and_then label_of (cell d columns i column.District) ≡ Some (slice_index_or g.labels i (Word []))
  label_there i l = at_place (label_under columns.district) Some d.nodes g.labels null (Word []) (ap (map (label_under columns.district)) nodes_same ∙ g.labels_are) i l

  is_count : (c : Column) (numbers : List ℕ) → map (get (key_of d columns c)) g.nodes ≡ map count numbers → All (λ n. n ≤ most_people) numbers
      → (i : ℕ) → i < node_count d → is_none (option_and_then (count_of d columns) (cell d columns i c)) ≡ false
  is_count c numbers e few i l =
      let long = as_long (get (key_of d columns c)) count g.nodes numbers e in
      let small = few i 0 (omega (arith, l, long, count_is, g.units.0)) in
      ap (λ (o : Option Data). is_none (option_and_then (count_of d columns) o)) (cell_at c numbers e i l)
      ∙ ap (λ (b : Bool). is_none (cond b (Some (slice_index numbers i)) None)) (le-leb (slice_index numbers i) most_people small)

  missing : (i : ℕ) → i < node_count d → missing_column d columns i ≡ None
  missing i l = map_none _ _
      (or_of_none _ _ (not_refused _ _ (ap is_none (cell_at column.Population job.counts.population g.population i l)))
      (or_of_none _ _ (not_refused _ _ (ap is_none (cell_at column.First job.counts.first g.first i l)))
      (or_of_none _ _ (not_refused _ _ (ap is_none (cell_at column.Second job.counts.second g.second i l)))
      (or_of_none _ _ (not_refused _ _ (there label_of (cell d columns i column.District) (slice_index_or g.labels i (Word [])) (label_there i l)))
      (or_of_none _ _ (not_refused _ _ (unasked _))
      (or_of_none _ _ (not_refused _ _ (unasked _))
      (or_of_none _ _ (not_refused _ _ (unfrozen _))
      refl)))))))

  numbers : (i : ℕ) → i < node_count d → bad_number d columns i ≡ None
  numbers i l = map_none _ _
      (or_of_none _ _ (not_refused _ _ (is_count column.Population job.counts.population g.population fit.population i l))
      (or_of_none _ _ (not_refused _ _ (is_count column.First job.counts.first g.first fit.first i l))
      (or_of_none _ _ (not_refused _ _ (is_count column.Second job.counts.second g.second fit.second i l))
      (or_of_none _ _ (not_refused _ _ (unasked _))
      (or_of_none _ _ (not_refused _ _ (unasked _))
      (or_of_none _ _ (not_refused _ _ (unfrozen _))
      refl))))))

  -- ---- districts

  label_is : (i : ℕ) → i < node_count d → label_at d columns i ≡ slice_index_or g.labels i (Word [])
  label_is i l = ap (λ (o : Option Label). unwrap_or o (Word [])) (label_there i l)

  before_same : (u v : ℕ) → u < node_count d → v < node_count d
      → label_before (label_at d columns u) (label_at d columns v) ≡ label_before (slice_index_or g.labels u (Word [])) (slice_index_or g.labels v (Word []))
  before_same u v l m =
      ap (λ (a : Label). label_before a (label_at d columns v)) (label_is u l)
      ∙ ap (label_before (slice_index_or g.labels u (Word []))) (label_is v m)

  districts_same : label_count d columns ≡ job.districts
  districts_same =
      let numbered = valid_is_numbered job valid in
      same_bound (node_count d) (label_count d columns) job.districts (district_at d columns) (slice_index job.start)
      (districts_onto d columns) (subst (λ (n : ℕ). IsOnto n job.districts (slice_index job.start)) (sym count_is) numbered.onto)
      (λ u v l m less. (g.order u v (omega (arith, l, count_is)) (omega (arith, m, count_is))).1 (sym (before_same u v l m) ∙ falls d columns u v l m less))
      (λ u v l m less. rises d columns u v l (before_same u v l m ∙ (g.order u v (omega (arith, l, count_is)) (omega (arith, m, count_is))).0 less))

  -- ---- the whole graph

  pub sound : refusal d columns ≡ None
  sound =
      or_of_none _ _ (not_refused d.directed _ (not_directed (get (codes "directed") root) fit.directed g.undirected))
      (or_of_none _ _ (not_refused _ _ (not_from_true (node_count d == length d.adjacency) (eq-eqb (node_count d) (length d.adjacency)
      (omega (arith, count_is, g.units.1, ap (λ (ls : List (List Data)). length ls) lists_same)))))
      (or_of_none _ _ (not_refused _ _ (le-ltb most_units (node_count d) (omega (arith, count_is, fit.units))))
      (or_of_none _ _ (map_none _ _ (none_first_below (node_count d) _ (λ i l. ap is_none (id_there i l))))
      (or_of_none _ _ repeated
      (or_of_none _ _ (no_entry (λ x. is_none (id_of x)) fault.BadNeighbour (λ i place l m. ap is_none (known i place l m).2))
      (or_of_none _ _ (no_entry (λ x. not (any_below (node_count d) (λ j. same_id (id_of x) (id_of (node d j))))) fault.UnknownNeighbour
      (λ i place l m. ap not (is_known i place l m)))
      (or_of_none _ _ (not_refused _ _ (le-ltb most_edges (count_edges (graph d) (λ u v. true)) (omega (arith, edges_same, fit.edges))))
      (or_of_none _ _ (none_some_below (node_count d) (missing_column d columns) missing)
      (or_of_none _ _ (none_some_below (node_count d) (bad_number d columns) numbers)
      (or_of_none _ _ (map_none _ _ (none_first_below (node_count d) _ (λ i l. ap is_none (label_there i l))))
      (or_of_none _ _ (not_refused _ _ (or_from _ _ (le-ltb (label_count d columns) 2 (omega (arith, districts_same, fit.two)))
      (le-ltb most_districts (label_count d columns) (omega (arith, districts_same, fit.districts)))))
      (or_of_none _ _ unlong
      refl))))))))))))

  pub read_so : (bytes : List ℕ) → is_utf8 bytes ≡ true → read bytes ≡ Some root → reading bytes columns ≡ Ok (parsed d columns)
  unfolding reading
  read_so bytes text json =
      ap (of_json columns) (ap (λ (b : Bool). cond b (read bytes) None) text ∙ json)
      ∙ ap (of_root columns root) shape
      ∙ ap (accepted_or (parsed d columns)) sound
