-- A document is read the same if only wanted members are kept.
use Rattle.std.proofs.Common.{◌≡◌, ℕ, zero, suc, Bool, true, false, not, cond, ◌&&◌, ◌||◌, List, [], ◌∷◌, length, map, get_or, Option, Some, None, refl, ap, ◌∙◌}
use Rattle.std.specs.Prelude.{◌==◌, nat_lt, nat_le, codes}
use Rattle.std.specs.List.{slice_index_or, list_all}
use Rattle.std.specs.Option.{option_or, option_map, option_and_then, unwrap_or, is_none, is_some}
use Rattle.std.proofs.lemmas.List.{length-map}
use Rattle.std.proofs.Math.Path.{fun_ext}
use Rattle.serde_json.specs.Data.{Data, null, boolean, number, string, array, object, Items, no_items, item}
use Rattle.serde_json.specs.Find.{get, as_bool, as_object, as_number, as_u64}
use Rattle.audit_model.specs.declared.fault.Column.{Column}
use Rattle.audit_model.specs.declared.fault.Column.TheVariants as column
use Rattle.audit_model.specs.declared.fault.GraphFault.{GraphFault}
use Rattle.audit_model.specs.declared.fault.GraphFault.TheVariants as fault
use Rattle.audit_model.specs.declared.fault.Part.{Part}
use Rattle.audit_model.specs.declared.fault.Part.TheVariants as part
use Rattle.audit_model.specs.declared.setting.Columns.{Columns}
use Rattle.audit_model.specs.declared.setting.Label.{Label}
use Rattle.audit_model.specs.declared.setting.Label.TheVariants.{Word}
use Rattle.audit_model.specs.Below.{any_below, count_below, filter_below, join_below, map_below}
use Rattle.audit_model.specs.First.{first_some, first_below, first_some_below}
use Rattle.audit_model.specs.Graph.{Graph, count_edges}
use Rattle.audit_model.specs.Label.{same_label, label_before}
use Rattle.audit_model.specs.Limits.{most_people, most_units, most_edges, most_districts}
use Rattle.audit_model.specs.Parsed.{Parsed}
use Rattle.audit_statement.specs.Reading.{Document, document, bad_part, elements, list_of, list_at, is_no_flag, label_of, id_of, same_id, refused_if, most_edge_length, refusal, parsed, accepted_or}
use Rattle.dual_json.specs.Kept.{keep, keep_items}
use Rattle.dual_json.proofs.Keeping.{get-keep}

-- the key of a column
abbrev pub key_at : Columns → Column → List ℕ
key_at columns column.Population = columns.population
key_at columns column.First = columns.first
key_at columns column.Second = columns.second
key_at columns column.District = columns.district
key_at columns column.Group = columns.group
key_at columns column.Whole = columns.whole
key_at columns column.Frozen = columns.frozen

-- an integer from 0 to 10 ^ 9, and a flag
abbrev count_of : Data → Option ℕ
count_of d = option_and_then (λ n. cond (nat_le n most_people) (Some n) None) (option_and_then as_u64 (as_number d))

abbrev flag_of : Data → Option ℕ
flag_of d = option_or (option_map (λ b. cond b 1 0) (as_bool d)) (option_map (λ n. cond (nat_lt 0 n) 1 0) (count_of d))

-- an integer from 0 to 2 ^ 32 - 1
abbrev length_of : Data → Option ℕ
length_of value = option_and_then (λ n. cond (nat_le n most_edge_length) (Some n) None) (option_and_then as_u64 (as_number value))

-- all that the definition of reading asks of a document
pub record Facts : Type 0 where
  pub count : ℕ
  pub lists : ℕ
  pub directed : Bool
  pub id : ℕ → Option Label
  pub listed : ℕ → ℕ
  pub other : ℕ → ℕ → Option Label
  pub lacks : Column → ℕ → Bool
  pub number : Column → ℕ → Option ℕ
  pub flag : ℕ → Option ℕ
  pub label : ℕ → Option Label
  pub unmeasured : ℕ → ℕ → Bool
  pub measure : ℕ → ℕ → Option ℕ

abbrev pub facts_of : Document → Columns → Facts
facts_of d columns = record {
  count = length d.nodes;
  lists = length d.adjacency;
  directed = d.directed;
  id = λ i. id_of (slice_index_or d.nodes i null);
  listed = λ i. length (slice_index_or d.adjacency i []);
  other = λ i place. id_of (slice_index_or (slice_index_or d.adjacency i []) place null);
  lacks = λ c i. is_none (get (key_at columns c) (slice_index_or d.nodes i null));
  number = λ c i. option_and_then count_of (get (key_at columns c) (slice_index_or d.nodes i null));
  flag = λ i. option_and_then flag_of (get columns.frozen (slice_index_or d.nodes i null));
  label = λ i. option_and_then label_of (get columns.district (slice_index_or d.nodes i null));
  unmeasured = λ i place. is_none (get columns.length (slice_index_or (slice_index_or d.adjacency i []) place null));
  measure = λ i place. option_and_then length_of (get columns.length (slice_index_or (slice_index_or d.adjacency i []) place null));
}

-- ---- the definition, of facts

module _ (f : Facts) (columns : Columns) where
  abbrev f_lists : ℕ → ℕ → Bool
  f_lists i j = any_below (f.listed i) (λ place. same_id (f.other i place) (f.id j))

  abbrev f_joined : ℕ → ℕ → Bool
  f_joined i j = not (i == j) && (f_lists i j || f_lists j i)

  abbrev f_graph : Graph
  f_graph = record { units = f.count; neighbours = map_below f.count (λ i. filter_below f.count (f_joined i)) }

  abbrev f_names_group : Bool
  f_names_group = not (length columns.group == 0)

  abbrev f_names_frozen : Bool
  f_names_frozen = not (length columns.frozen == 0)

  abbrev f_names_length : Bool
  f_names_length = not (length columns.length == 0)

  abbrev f_length_or_zero : ℕ → ℕ → ℕ
  f_length_or_zero i place = unwrap_or (f.measure i place) 0

  abbrev f_listed_length : ℕ → ℕ → Option ℕ
  f_listed_length i j = option_map (λ place. f_length_or_zero i place) (first_below (f.listed i) (λ place. same_id (f.other i place) (f.id j)))

  abbrev f_length_from : ℕ → ℕ → ℕ
  f_length_from i j = unwrap_or (option_or (f_listed_length i j) (f_listed_length j i)) 0

  abbrev f_length_between : ℕ → ℕ → ℕ
  f_length_between i j = cond (nat_lt i j) (f_length_from i j) (f_length_from j i)

  abbrev f_lengths_at : ℕ → List ℕ
  f_lengths_at i = map (f_length_between i) (filter_below f.count (f_joined i))

  abbrev f_count_at : Column → ℕ → ℕ
  f_count_at c i = unwrap_or (f.number c i) 0

  abbrev f_label_at : ℕ → Label
  f_label_at i = unwrap_or (f.label i) (Word [])

  abbrev f_is_new_label : ℕ → Bool
  f_is_new_label i = not (any_below i (λ j. same_label (f_label_at j) (f_label_at i)))

  abbrev f_label_count : ℕ
  f_label_count = count_below f.count f_is_new_label

  abbrev f_district_at : ℕ → ℕ
  f_district_at i = count_below f.count (λ j. f_is_new_label j && label_before (f_label_at j) (f_label_at i))

  abbrev f_repeated_id : Option GraphFault
  f_repeated_id = option_map
      (λ j. fault.SameId (unwrap_or (first_below j (λ i. same_id (f.id i) (f.id j))) 0) j)
      (first_below f.count (λ j. any_below j (λ i. same_id (f.id i) (f.id j))))

  abbrev f_first_entry : (ℕ → ℕ → Bool) → (ℕ → ℕ → GraphFault) → Option GraphFault
  f_first_entry test g = first_some_below f.count (λ i. option_map (g i) (first_below (f.listed i) (λ place. test i place)))

  abbrev f_is_unequal : ℕ → ℕ → Bool
  f_is_unequal i place = unwrap_or (option_map (λ j. not (f_length_or_zero i place == f_length_between i j)) (first_below f.count (λ j. same_id (f.other i place) (f.id j)))) false

  abbrev f_length_fault : Option GraphFault
  f_length_fault = cond f_names_length
      (first_some (
      f_first_entry (λ i place. f.unmeasured i place) fault.MissingLength
      ∷ f_first_entry (λ i place. is_none (f.measure i place)) fault.BadLength
      ∷ first_some_below f.count (λ i. option_map (fault.UnequalLengths i) (first_below (f.listed i) (λ place. f_is_unequal i place)))
      ∷ [])) None

  abbrev f_missing_column : ℕ → Option GraphFault
  f_missing_column i = option_map (fault.Missing i) (first_some (
      refused_if (f.lacks column.Population i) column.Population
      ∷ refused_if (f.lacks column.First i) column.First
      ∷ refused_if (f.lacks column.Second i) column.Second
      ∷ refused_if (f.lacks column.District i) column.District
      ∷ refused_if (f_names_group && f.lacks column.Group i) column.Group
      ∷ refused_if (f_names_group && f.lacks column.Whole i) column.Whole
      ∷ refused_if (f_names_frozen && f.lacks column.Frozen i) column.Frozen
      ∷ []))

  abbrev f_bad_number : ℕ → Option GraphFault
  f_bad_number i = option_map (fault.BadNumber i) (first_some (
      refused_if (is_none (f.number column.Population i)) column.Population
      ∷ refused_if (is_none (f.number column.First i)) column.First
      ∷ refused_if (is_none (f.number column.Second i)) column.Second
      ∷ refused_if (f_names_group && is_none (f.number column.Group i)) column.Group
      ∷ refused_if (f_names_group && is_none (f.number column.Whole i)) column.Whole
      ∷ refused_if (f_names_frozen && is_none (f.flag i)) column.Frozen
      ∷ []))

  abbrev pub refusal_from : Option GraphFault
  refusal_from = first_some (
      refused_if f.directed fault.Directed
      ∷ refused_if (not (f.count == f.lists)) (fault.LengthsDiffer f.count f.lists)
      ∷ refused_if (nat_lt most_units f.count) (fault.TooManyUnits f.count)
      ∷ option_map fault.BadId (first_below f.count (λ i. is_none (f.id i)))
      ∷ f_repeated_id
      ∷ f_first_entry (λ i place. is_none (f.other i place)) fault.BadNeighbour
      ∷ f_first_entry (λ i place. not (any_below f.count (λ j. same_id (f.other i place) (f.id j)))) fault.UnknownNeighbour
      ∷ refused_if (nat_lt most_edges (count_edges f_graph (λ u v. true))) (fault.TooManyEdges (count_edges f_graph (λ u v. true)))
      ∷ first_some_below f.count f_missing_column
      ∷ first_some_below f.count f_bad_number
      ∷ option_map fault.BadLabel (first_below f.count (λ i. is_none (f.label i)))
      ∷ refused_if (nat_lt f_label_count 2 || nat_lt most_districts f_label_count) (fault.DistrictCount f_label_count)
      ∷ f_length_fault
      ∷ [])

  abbrev pub parsed_from : Parsed
  parsed_from = record {
    graph = f_graph;
    counts = record {
      population = map_below f.count (f_count_at column.Population);
      first = map_below f.count (f_count_at column.First);
      second = map_below f.count (f_count_at column.Second);
      lengths = cond f_names_length (join_below f.count f_lengths_at) [];
    };
    group = record {
      members = cond f_names_group (map_below f.count (f_count_at column.Group)) [];
      whole = cond f_names_group (map_below f.count (f_count_at column.Whole)) [];
    };
    frozen = cond f_names_frozen (map_below f.count (λ i. unwrap_or (f.flag i) 0)) [];
    start = map_below f.count f_district_at;
    labels = map_below f_label_count (λ d. unwrap_or (option_map f_label_at (first_below f.count (λ i. f_district_at i == d))) (Word []));
  }

-- ---- lists

get_or-map : {A B : Type 0} → (f : A → B) (xs : List A) (i : ℕ) (d : A) → get_or (map f xs) i (f d) ≡ f (get_or xs i d)
get_or-map f [] i d = refl
get_or-map f (x ∷ xs) zero d = refl
get_or-map f (x ∷ xs) (suc i) d = get_or-map f xs i d

-- ---- what is kept

module _ (wants : List ℕ → Bool) where
  elements-keep : (ds : Items) → elements (keep_items wants ds) ≡ map (keep wants) (elements ds)
  elements-keep no_items = refl
  elements-keep (item d ds) = ap (λ (rest : List Data). keep wants d ∷ rest) (elements-keep ds)

  list-keep : (d : Data) → list_of (keep wants d) ≡ option_map (map (keep wants)) (list_of d)
  list-keep null = refl
  list-keep (boolean b) = refl
  list-keep (number n) = refl
  list-keep (string s) = refl
  list-keep (array ds) = ap Some (elements-keep ds)
  list-keep (object ms) = refl

  bool-keep : (d : Data) → as_bool (keep wants d) ≡ as_bool d
  bool-keep null = refl
  bool-keep (boolean b) = refl
  bool-keep (number n) = refl
  bool-keep (string s) = refl
  bool-keep (array ds) = refl
  bool-keep (object ms) = refl

  number-keep : (d : Data) → as_number (keep wants d) ≡ as_number d
  number-keep null = refl
  number-keep (boolean b) = refl
  number-keep (number n) = refl
  number-keep (string s) = refl
  number-keep (array ds) = refl
  number-keep (object ms) = refl

  label-keep : (d : Data) → label_of (keep wants d) ≡ label_of d
  label-keep null = refl
  label-keep (boolean b) = refl
  label-keep (number n) = refl
  label-keep (string s) = refl
  label-keep (array ds) = refl
  label-keep (object ms) = refl

  object-keep : (d : Data) → is_none (as_object (keep wants d)) ≡ is_none (as_object d)
  object-keep null = refl
  object-keep (boolean b) = refl
  object-keep (number n) = refl
  object-keep (string s) = refl
  object-keep (array ds) = refl
  object-keep (object ms) = refl

  count-keep : (d : Data) → count_of (keep wants d) ≡ count_of d
  count-keep d = ap (λ n. option_and_then (λ k. cond (nat_le k most_people) (Some k) None) (option_and_then as_u64 n)) (number-keep d)

  flag-keep : (d : Data) → flag_of (keep wants d) ≡ flag_of d
  flag-keep d =
      ap (λ b. option_or (option_map (λ x. cond x 1 0) b) (option_map (λ n. cond (nat_lt 0 n) 1 0) (count_of (keep wants d)))) (bool-keep d)
      ∙ ap (λ n. option_or (option_map (λ x. cond x 1 0) (as_bool d)) (option_map (λ k. cond (nat_lt 0 k) 1 0) n)) (count-keep d)

  length-keep : (d : Data) → length_of (keep wants d) ≡ length_of d
  length-keep d = ap (λ n. option_and_then (λ k. cond (nat_le k most_edge_length) (Some k) None) (option_and_then as_u64 n)) (number-keep d)

  then_kept : {B : Type 0} (g : Data → Option B) → ((d : Data) → g (keep wants d) ≡ g d) → (o : Option Data) → option_and_then g (option_map (keep wants) o) ≡ option_and_then g o
  then_kept g same None = refl
  then_kept g same (Some d) = same d

  none_kept : (o : Option Data) → is_none (option_map (keep wants) o) ≡ is_none o
  none_kept None = refl
  none_kept (Some d) = refl

  -- what is read at a wanted key
  at_key : {B : Type 0} (g : Data → Option B) → ((d : Data) → g (keep wants d) ≡ g d) → (k : List ℕ) → wants k ≡ true → (d : Data) → option_and_then g (get k (keep wants d)) ≡ option_and_then g (get k d)
  at_key g same k some d = ap (option_and_then g) (get-keep wants k d some) ∙ then_kept g same (get k d)

  none_at_key : (k : List ℕ) → wants k ≡ true → (d : Data) → is_none (get k (keep wants d)) ≡ is_none (get k d)
  none_at_key k some d = ap is_none (get-keep wants k d some) ∙ none_kept (get k d)

  abbrev pub document_kept : Document → Document
  document_kept d = record { nodes = map (keep wants) d.nodes; adjacency = map (map (keep wants)) d.adjacency; directed = d.directed }

  module _ (d : Document) (columns : Columns) (id : wants (codes "id") ≡ true) (keys : (c : Column) → wants (key_at columns c) ≡ true) (lengths : wants columns.length ≡ true) where
    node-kept : (i : ℕ) → slice_index_or (map (keep wants) d.nodes) i null ≡ keep wants (slice_index_or d.nodes i null)
    node-kept i = get_or-map (keep wants) d.nodes i null

    entries-kept : (i : ℕ) → slice_index_or (map (map (keep wants)) d.adjacency) i [] ≡ map (keep wants) (slice_index_or d.adjacency i [])
    entries-kept i = get_or-map (map (keep wants)) d.adjacency i []

    entry-kept : (i place : ℕ) → slice_index_or (slice_index_or (map (map (keep wants)) d.adjacency) i []) place null ≡ keep wants (slice_index_or (slice_index_or d.adjacency i []) place null)
    entry-kept i place = ap (λ (es : List Data). slice_index_or es place null) (entries-kept i) ∙ get_or-map (keep wants) (slice_index_or d.adjacency i []) place null

    abbrev made : ℕ → ℕ → (ℕ → Option Label) → (ℕ → ℕ) → (ℕ → ℕ → Option Label) → (Column → ℕ → Bool) → (Column → ℕ → Option ℕ) → (ℕ → Option ℕ) → (ℕ → Option Label) → (ℕ → ℕ → Bool) → (ℕ → ℕ → Option ℕ) → Facts
    made a b e f g h n k l m o = record { count = a; lists = b; directed = d.directed; id = e; listed = f; other = g; lacks = h; number = n; flag = k; label = l; unmeasured = m; measure = o }

    facts-kept : facts_of (document_kept d) columns ≡ facts_of d columns
    facts-kept =
        let old = facts_of d columns in
        let new = facts_of (document_kept d) columns in
        ap (λ x. made x new.lists new.id new.listed new.other new.lacks new.number new.flag new.label new.unmeasured new.measure) (length-map d.nodes (keep wants))
        ∙ ap (λ x. made old.count x new.id new.listed new.other new.lacks new.number new.flag new.label new.unmeasured new.measure) (length-map d.adjacency (map (keep wants)))
        ∙ ap (λ x. made old.count old.lists x new.listed new.other new.lacks new.number new.flag new.label new.unmeasured new.measure)
        (fun_ext (λ i. ap id_of (node-kept i) ∙ at_key label_of label-keep (codes "id") id (slice_index_or d.nodes i null)))
        ∙ ap (λ x. made old.count old.lists old.id x new.other new.lacks new.number new.flag new.label new.unmeasured new.measure)
        (fun_ext (λ i. ap (λ (es : List Data). length es) (entries-kept i) ∙ length-map (slice_index_or d.adjacency i []) (keep wants)))
        ∙ ap (λ x. made old.count old.lists old.id old.listed x new.lacks new.number new.flag new.label new.unmeasured new.measure)
        (fun_ext (λ i. fun_ext (λ place. ap id_of (entry-kept i place) ∙ at_key label_of label-keep (codes "id") id (slice_index_or (slice_index_or d.adjacency i []) place null))))
        ∙ ap (λ x. made old.count old.lists old.id old.listed old.other x new.number new.flag new.label new.unmeasured new.measure)
        (fun_ext (λ c. fun_ext (λ i. ap (λ e. is_none (get (key_at columns c) e)) (node-kept i) ∙ none_at_key (key_at columns c) (keys c) (slice_index_or d.nodes i null))))
        ∙ ap (λ x. made old.count old.lists old.id old.listed old.other old.lacks x new.flag new.label new.unmeasured new.measure)
        (fun_ext (λ c. fun_ext (λ i. ap (λ e. option_and_then count_of (get (key_at columns c) e)) (node-kept i) ∙ at_key count_of count-keep (key_at columns c) (keys c) (slice_index_or d.nodes i null))))
        ∙ ap (λ x. made old.count old.lists old.id old.listed old.other old.lacks old.number x new.label new.unmeasured new.measure)
        (fun_ext (λ i. ap (λ e. option_and_then flag_of (get columns.frozen e)) (node-kept i) ∙ at_key flag_of flag-keep columns.frozen (keys column.Frozen) (slice_index_or d.nodes i null)))
        ∙ ap (λ x. made old.count old.lists old.id old.listed old.other old.lacks old.number old.flag x new.unmeasured new.measure)
        (fun_ext (λ i. ap (λ e. option_and_then label_of (get columns.district e)) (node-kept i) ∙ at_key label_of label-keep columns.district (keys column.District) (slice_index_or d.nodes i null)))
        ∙ ap (λ x. made old.count old.lists old.id old.listed old.other old.lacks old.number old.flag old.label x new.measure)
        (fun_ext (λ i. fun_ext (λ place. ap (λ e. is_none (get columns.length e)) (entry-kept i place) ∙ none_at_key columns.length lengths (slice_index_or (slice_index_or d.adjacency i []) place null))))
        ∙ ap (λ x. made old.count old.lists old.id old.listed old.other old.lacks old.number old.flag old.label old.unmeasured x)
        (fun_ext (λ i. fun_ext (λ place. ap (λ e. option_and_then length_of (get columns.length e)) (entry-kept i place) ∙ at_key length_of length-keep columns.length lengths (slice_index_or (slice_index_or d.adjacency i []) place null))))

    -- the same graph or fault
    pub accepted-kept : accepted_or (parsed (document_kept d) columns) (refusal (document_kept d) columns) ≡ accepted_or (parsed d columns) (refusal d columns)
    accepted-kept = ap (λ (f : Facts). accepted_or (parsed_from f columns) (refusal_from f columns)) facts-kept

  -- ---- the root

  module _ (root : Data) (nodes : wants (codes "nodes") ≡ true) (adjacency : wants (codes "adjacency") ≡ true) (directed : wants (codes "directed") ≡ true) (multigraph : wants (codes "multigraph") ≡ true) where
    lists-kept : (o : Option Data) → option_and_then list_of (option_map (keep wants) o) ≡ option_map (map (keep wants)) (option_and_then list_of o)
    lists-kept None = refl
    lists-kept (Some d) = list-keep d

    list-at-kept : (k : List ℕ) → wants k ≡ true → list_at k (keep wants root) ≡ option_map (map (keep wants)) (list_at k root)
    list-at-kept k some = ap (option_and_then list_of) (get-keep wants k root some) ∙ lists-kept (get k root)

    flag-at-kept : (o : Option Data) → unwrap_or (option_map (λ d. is_none (as_bool d)) (option_map (keep wants) o)) false ≡ unwrap_or (option_map (λ d. is_none (as_bool d)) o) false
    flag-at-kept None = refl
    flag-at-kept (Some d) = ap is_none (bool-keep d)

    no-flag-kept : (k : List ℕ) → wants k ≡ true → is_no_flag k (keep wants root) ≡ is_no_flag k root
    no-flag-kept k some = ap (λ o. unwrap_or (option_map (λ d. is_none (as_bool d)) o) false) (get-keep wants k root some) ∙ flag-at-kept (get k root)

    some-kept : (d : Data) → is_some (list_of (keep wants d)) ≡ is_some (list_of d)
    some-kept d = ap is_some (list-keep d) ∙ mapped (list_of d)
      where
        mapped : (o : Option (List Data)) → is_some (option_map (map (keep wants)) o) ≡ is_some o
        mapped None = refl
        mapped (Some x) = refl

    all-kept : (xs : List Data) → list_all (λ d. is_some (list_of d)) (map (keep wants) xs) ≡ list_all (λ d. is_some (list_of d)) xs
    all-kept [] = refl
    all-kept (x ∷ xs) =
        ap (λ b. b && list_all (λ d. is_some (list_of d)) (map (keep wants) xs)) (some-kept x)
        ∙ ap (λ b. is_some (list_of x) && b) (all-kept xs)

    all-or-null : (o : Option (List Data))
        → list_all (λ d. is_some (list_of d)) (unwrap_or (option_map (map (keep wants)) o) (null ∷ [])) ≡ list_all (λ d. is_some (list_of d)) (unwrap_or o (null ∷ []))
    all-or-null None = refl
    all-or-null (Some xs) = all-kept xs

    none-mapped : (o : Option (List Data)) → is_none (option_map (map (keep wants)) o) ≡ is_none o
    none-mapped None = refl
    none-mapped (Some x) = refl

    abbrev shape : Bool → Bool → Bool → Bool → Bool → Option Part
    shape a b c e f = first_some (refused_if a part.Root ∷ refused_if b part.Nodes ∷ refused_if (not c) part.Adjacency ∷ refused_if e part.Directed ∷ refused_if f part.Multigraph ∷ [])

    abbrev lists_of : Data → Bool
    lists_of d = list_all (λ e. is_some (list_of e)) (unwrap_or (list_at (codes "adjacency") d) (null ∷ []))

    -- the same part has the wrong shape
    pub bad_part-kept : bad_part (keep wants root) ≡ bad_part root
    bad_part-kept =
        let new = keep wants root in
        ap (λ x. shape x (is_none (list_at (codes "nodes") new)) (lists_of new) (is_no_flag (codes "directed") new) (is_no_flag (codes "multigraph") new)) (object-keep root)
        ∙ ap (λ x. shape (is_none (as_object root)) x (lists_of new) (is_no_flag (codes "directed") new) (is_no_flag (codes "multigraph") new)) (ap is_none (list-at-kept (codes "nodes") nodes) ∙ none-mapped (list_at (codes "nodes") root))
        ∙ ap (λ x. shape (is_none (as_object root)) (is_none (list_at (codes "nodes") root)) x (is_no_flag (codes "directed") new) (is_no_flag (codes "multigraph") new))
        (ap (λ o. list_all (λ e. is_some (list_of e)) (unwrap_or o (null ∷ []))) (list-at-kept (codes "adjacency") adjacency) ∙ all-or-null (list_at (codes "adjacency") root))
        ∙ ap (λ x. shape (is_none (as_object root)) (is_none (list_at (codes "nodes") root)) (lists_of root) x (is_no_flag (codes "multigraph") new)) (no-flag-kept (codes "directed") directed)
        ∙ ap (λ x. shape (is_none (as_object root)) (is_none (list_at (codes "nodes") root)) (lists_of root) (is_no_flag (codes "directed") root) x) (no-flag-kept (codes "multigraph") multigraph)

    or-empty : (o : Option (List Data)) → unwrap_or (option_map (map (keep wants)) o) [] ≡ map (keep wants) (unwrap_or o [])
    or-empty None = refl
    or-empty (Some x) = refl

    list-or-empty : (d : Data) → unwrap_or (list_of (keep wants d)) [] ≡ map (keep wants) (unwrap_or (list_of d) [])
    list-or-empty d = ap (λ o. unwrap_or o []) (list-keep d) ∙ or-empty (list_of d)

    rows-kept : (xs : List Data) → map (λ d. unwrap_or (list_of d) []) (map (keep wants) xs) ≡ map (map (keep wants)) (map (λ d. unwrap_or (list_of d) []) xs)
    rows-kept [] = refl
    rows-kept (x ∷ xs) =
        ap (λ (row : List Data). row ∷ map (λ d. unwrap_or (list_of d) []) (map (keep wants) xs)) (list-or-empty x)
        ∙ ap (λ (rows : List (List Data)). map (keep wants) (unwrap_or (list_of x) []) ∷ rows) (rows-kept xs)

    abbrev parts : List Data → List (List Data) → Bool → Document
    parts a b c = record { nodes = a; adjacency = b; directed = c }

    bool-at-kept : (o : Option Data) → unwrap_or (option_and_then as_bool (option_map (keep wants) o)) false ≡ unwrap_or (option_and_then as_bool o) false
    bool-at-kept None = refl
    bool-at-kept (Some d) = ap (λ o. unwrap_or o false) (bool-keep d)

    -- the parts are those of what is kept
    pub document-kept : document (keep wants root) ≡ document_kept (document root)
    document-kept =
        let new = document (keep wants root) in
        let old = document root in
        ap (λ x. parts x new.adjacency new.directed) (ap (λ o. unwrap_or o []) (list-at-kept (codes "nodes") nodes) ∙ or-empty (list_at (codes "nodes") root))
        ∙ ap (λ x. parts (map (keep wants) old.nodes) x new.directed)
        (ap (λ (o : Option (List Data)). map (λ d. unwrap_or (list_of d) []) (unwrap_or o [])) (list-at-kept (codes "adjacency") adjacency)
        ∙ ap (λ (xs : List Data). map (λ d. unwrap_or (list_of d) []) xs) (or-empty (list_at (codes "adjacency") root))
        ∙ rows-kept (unwrap_or (list_at (codes "adjacency") root) []))
        ∙ ap (λ x. parts (map (keep wants) old.nodes) (map (map (keep wants)) old.adjacency) x)
        (ap (λ o. unwrap_or (option_and_then as_bool o) false) (get-keep wants (codes "directed") root directed) ∙ bool-at-kept (get (codes "directed") root))
