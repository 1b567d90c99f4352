-- The graph of networkx adjacency data, or the first fault. networkx's adjacency format, which GerryChain's
-- `Graph.from_json` reads; JSON is what `serde_json` reads. Edges are a test on pairs; the code looks ids up and sorts.
use Rattle.std.specs.Prelude.{ℕ, ◌==◌, ◌&&◌, ◌||◌, Bool, true, false, not, cond, nat_lt, nat_le, List, [], ◌∷◌, length, map, codes, Option, Some, None, is_some, is_none, unwrap_or, option_map, option_and_then, Result, Ok, Err}
use Rattle.std.specs.List.{slice_index_or, list_all}
use Rattle.std.specs.Option.{option_or}
use Rattle.std.specs.Str.{is_utf8}
use Rattle.serde_json.specs.Data.{Data, null, boolean, number, string, array, object, Items, no_items, item}
use Rattle.serde_json.specs.Read.{read}
use Rattle.serde_json.specs.Find.{get, as_bool, as_array, as_object, as_number, as_integer, as_u64}
use Rattle.audit_model.specs.declared.fault.Column.{Column}
use Rattle.audit_model.specs.declared.fault.Column.TheVariants as column
use Rattle.audit_model.specs.declared.fault.GraphFault.{GraphFault}
use Rattle.audit_model.specs.declared.fault.GraphFault.TheVariants as fault
use Rattle.audit_model.specs.declared.fault.Part.{Part}
use Rattle.audit_model.specs.declared.fault.Part.TheVariants as part
use Rattle.audit_model.specs.declared.setting.Columns.{Columns}
use Rattle.audit_model.specs.declared.setting.Label.{Label}
use Rattle.audit_model.specs.declared.setting.Label.TheVariants.{Whole, Word}
use Rattle.audit_model.specs.Below.{any_below, count_below, filter_below, join_below, map_below}
use Rattle.audit_model.specs.First.{first_some, first_below, first_some_below}
use Rattle.audit_model.specs.Graph.{Graph, count_edges}
use Rattle.audit_model.specs.Label.{same_label, label_before}
use Rattle.audit_model.specs.Parsed.{Parsed}
use Rattle.audit_model.specs.Limits.{most_people, most_units, most_edges, most_districts}

-- the maximum length of an edge: 2 ^ 32 - 1
abbrev pub most_edge_length : ℕ
most_edge_length = 4294967295

-- the fault if the test passes, else nothing
abbrev pub refused_if : {A : Type 0} → Bool → A → Option A
refused_if b f = cond b (Some f) None

-- ---- the parts of the root

-- the elements of an array
abbrev pub elements : Items → List Data
elements no_items = []
elements (item d ds) = d ∷ elements ds

-- the elements, if it is an array
abbrev pub list_of : Data → Option (List Data)
list_of d = option_map elements (as_array d)

-- the elements of the array at a key
abbrev pub list_at : List ℕ → Data → Option (List Data)
list_at key root = option_and_then list_of (get key root)

-- there is a value at the key, and it is not a Boolean
abbrev pub is_no_flag : List ℕ → Data → Bool
is_no_flag key root = unwrap_or (option_map (λ d. is_none (as_bool d)) (get key root)) false

-- the first part of wrong shape
abbrev pub bad_part : Data → Option Part
bad_part root = first_some (
    refused_if (is_none (as_object root)) part.Root
    ∷ refused_if (is_none (list_at (codes "nodes") root)) part.Nodes
    ∷ refused_if (not (list_all (λ d. is_some (list_of d)) (unwrap_or (list_at (codes "adjacency") root) (null ∷ [])))) part.Adjacency
    ∷ refused_if (is_no_flag (codes "directed") root) part.Directed
    ∷ refused_if (is_no_flag (codes "multigraph") root) part.Multigraph
    ∷ [])

-- the parts of the root
pub record Document : Type 0 where
  pub nodes : List Data
  pub adjacency : List (List Data)
  pub directed : Bool

-- the parts of the root, with empty values for missing parts
abbrev pub document : Data → Document
document root = record {
  nodes = unwrap_or (list_at (codes "nodes") root) [];
  adjacency = map (λ d. unwrap_or (list_of d) []) (unwrap_or (list_at (codes "adjacency") root) []);
  directed = unwrap_or (option_and_then as_bool (get (codes "directed") root)) false;
}

-- ---- ids and edges

-- an integer or a text
abbrev pub label_of : Data → Option Label
label_of null = None
label_of (boolean b) = None
label_of (number n) = option_map Whole (as_integer n)
label_of (string s) = Some (Word s)
label_of (array ds) = None
label_of (object ms) = None

-- the id of a node or of an adjacency entry
abbrev pub id_of : Data → Option Label
id_of d = option_and_then label_of (get (codes "id") d)

-- both are present and equal
abbrev pub same_id : Option Label → Option Label → Bool
same_id None other = false
same_id (Some a) None = false
same_id (Some a) (Some b) = same_label a b

module _ (read_of : Document) where
  -- the number of nodes
  abbrev pub node_count : ℕ
  node_count = length read_of.nodes

  -- the node at a place
  abbrev pub node : ℕ → Data
  node i = slice_index_or read_of.nodes i null

  -- the adjacency list of a node
  abbrev pub entries : ℕ → List Data
  entries i = slice_index_or read_of.adjacency i []

  -- the entry at a place of the list
  abbrev pub entry : ℕ → ℕ → Data
  entry i place = slice_index_or (entries i) place null

  -- a node lists another
  abbrev pub lists : ℕ → ℕ → Bool
  lists i j = any_below (length (entries i)) (λ place. same_id (id_of (entry i place)) (id_of (node j)))

  -- two distinct nodes are adjacent: at least one lists the other
  abbrev pub joined : ℕ → ℕ → Bool
  joined i j = not (i == j) && (lists i j || lists j i)

  -- the graph, with the neighbors of each node in rising order
  abbrev pub graph : Graph
  graph = record { units = node_count; neighbours = map_below node_count (λ i. filter_below node_count (joined i)) }

  -- ---- columns

  module _ (columns : Columns) where
    -- the key of a column
    abbrev pub key_of : Column → List ℕ
    key_of column.Population = columns.population
    key_of column.First = columns.first
    key_of column.Second = columns.second
    key_of column.District = columns.district
    key_of column.Group = columns.group
    key_of column.Whole = columns.whole
    key_of column.Frozen = columns.frozen

    -- a group is named
    abbrev pub names_group : Bool
    names_group = not (length columns.group == 0)

    -- a column of frozen units is named
    abbrev pub names_frozen : Bool
    names_frozen = not (length columns.frozen == 0)

    -- a column of lengths is named
    abbrev pub names_length : Bool
    names_length = not (length columns.length == 0)

    -- a node's value in a column
    abbrev pub cell : ℕ → Column → Option Data
    cell i c = get (key_of c) (node i)

    -- an integer from 0 to 10 ^ 9
    abbrev pub count_of : Data → Option ℕ
    count_of d = option_and_then (λ n. cond (nat_le n most_people) (Some n) None) (option_and_then as_u64 (as_number d))

    -- 1 for `true` and a number above 0, and 0 for `false` and 0
    abbrev pub flag_of : Data → Option ℕ
    flag_of d = option_or (option_map (λ b. cond b 1 0) (as_bool d)) (option_map (λ n. cond (nat_lt 0 n) 1 0) (count_of d))

    -- whether a node is frozen, as 1 or 0
    abbrev pub flag_at : ℕ → ℕ
    flag_at i = unwrap_or (option_and_then flag_of (cell i column.Frozen)) 0

    -- the length in an adjacency entry: an integer from 0 to 2 ^ 32 - 1
    abbrev pub length_of : Data → Option ℕ
    length_of d = option_and_then
        (λ value. option_and_then (λ n. cond (nat_le n most_edge_length) (Some n) None) (option_and_then as_u64 (as_number value)))
        (get columns.length d)

    -- the length in an adjacency entry, or 0 without one
    abbrev pub length_or_zero : Data → ℕ
    length_or_zero d = unwrap_or (length_of d) 0

    -- the length in the first entry of a node's list that names the other node
    abbrev pub listed_length : ℕ → ℕ → Option ℕ
    listed_length i j = option_map (λ place. length_or_zero (entry i place))
        (first_below (length (entries i)) (λ place. same_id (id_of (entry i place)) (id_of (node j))))

    -- the length between two nodes, the lesser one first: that in the first of all entries by which one names the other
    abbrev pub length_from : ℕ → ℕ → ℕ
    length_from i j = unwrap_or (option_or (listed_length i j) (listed_length j i)) 0

    abbrev pub length_between : ℕ → ℕ → ℕ
    length_between i j = cond (nat_lt i j) (length_from i j) (length_from j i)

    -- the lengths from a node to its neighbors, in their order
    abbrev pub lengths_at : ℕ → List ℕ
    lengths_at i = map (length_between i) (filter_below node_count (joined i))

    -- the number in a node's column, or 0 without one
    abbrev pub count_at : Column → ℕ → ℕ
    count_at c i = unwrap_or (option_and_then count_of (cell i c)) 0

    -- the label of a node's district
    abbrev pub label_at : ℕ → Label
    label_at i = unwrap_or (option_and_then label_of (cell i column.District)) (Word [])

    -- no earlier node has the label
    abbrev pub is_new_label : ℕ → Bool
    is_new_label i = not (any_below i (λ j. same_label (label_at j) (label_at i)))

    -- the number of distinct labels
    abbrev pub label_count : ℕ
    label_count = count_below node_count is_new_label

    -- the number of distinct labels before the node's
    abbrev pub district_at : ℕ → ℕ
    district_at i = count_below node_count (λ j. is_new_label j && label_before (label_at j) (label_at i))

    -- ---- the faults, each at its least place

    -- the first node whose id an earlier node has, and that node
    abbrev pub repeated_id : Option GraphFault
    repeated_id = option_map
        (λ j. fault.SameId (unwrap_or (first_below j (λ i. same_id (id_of (node i)) (id_of (node j)))) 0) j)
        (first_below node_count (λ j. any_below j (λ i. same_id (id_of (node i)) (id_of (node j)))))

    -- the first adjacency entry that passes the test
    abbrev pub first_entry : (Data → Bool) → (ℕ → ℕ → GraphFault) → Option GraphFault
    first_entry test f = first_some_below node_count
        (λ i. option_map (f i) (first_below (length (entries i)) (λ place. test (entry i place))))

    -- the node that an entry names
    abbrev pub node_named : Data → Option ℕ
    node_named d = first_below node_count (λ j. same_id (id_of d) (id_of (node j)))

    -- an entry of a node's list has another length than the first entry for the two nodes
    abbrev pub is_unequal : ℕ → Data → Bool
    is_unequal i d = unwrap_or (option_map (λ j. not (length_or_zero d == length_between i j)) (node_named d)) false

    -- the first fault of the lengths, if a column of lengths is named
    abbrev pub length_fault : Option GraphFault
    length_fault = cond names_length
        (first_some (
        first_entry (λ d. is_none (get columns.length d)) fault.MissingLength
        ∷ first_entry (λ d. is_none (length_of d)) fault.BadLength
        ∷ first_some_below node_count
        (λ i. option_map (fault.UnequalLengths i) (first_below (length (entries i)) (λ place. is_unequal i (entry i place))))
        ∷ [])) None

    -- the first column missing in a node
    abbrev pub missing_column : ℕ → Option GraphFault
    missing_column i = option_map (fault.Missing i) (first_some (
        refused_if (is_none (cell i column.Population)) column.Population
        ∷ refused_if (is_none (cell i column.First)) column.First
        ∷ refused_if (is_none (cell i column.Second)) column.Second
        ∷ refused_if (is_none (cell i column.District)) column.District
        ∷ refused_if (names_group && is_none (cell i column.Group)) column.Group
        ∷ refused_if (names_group && is_none (cell i column.Whole)) column.Whole
        ∷ refused_if (names_frozen && is_none (cell i column.Frozen)) column.Frozen
        ∷ []))

    -- the first column of a node without a valid number or, for frozen units, without a number or a truth value
    abbrev pub bad_number : ℕ → Option GraphFault
    bad_number i = option_map (fault.BadNumber i) (first_some (
        refused_if (is_none (option_and_then count_of (cell i column.Population))) column.Population
        ∷ refused_if (is_none (option_and_then count_of (cell i column.First))) column.First
        ∷ refused_if (is_none (option_and_then count_of (cell i column.Second))) column.Second
        ∷ refused_if (names_group && is_none (option_and_then count_of (cell i column.Group))) column.Group
        ∷ refused_if (names_group && is_none (option_and_then count_of (cell i column.Whole))) column.Whole
        ∷ refused_if (names_frozen && is_none (option_and_then flag_of (cell i column.Frozen))) column.Frozen
        ∷ []))

    -- the first fault, in their order
    abbrev pub refusal : Option GraphFault
    refusal = first_some (
        refused_if read_of.directed fault.Directed
        ∷ refused_if (not (node_count == length read_of.adjacency)) (fault.LengthsDiffer node_count (length read_of.adjacency))
        ∷ refused_if (nat_lt most_units node_count) (fault.TooManyUnits node_count)
        ∷ option_map fault.BadId (first_below node_count (λ i. is_none (id_of (node i))))
        ∷ repeated_id
        ∷ first_entry (λ d. is_none (id_of d)) fault.BadNeighbour
        ∷ first_entry (λ d. not (any_below node_count (λ j. same_id (id_of d) (id_of (node j))))) fault.UnknownNeighbour
        ∷ refused_if (nat_lt most_edges (count_edges graph (λ u v. true))) (fault.TooManyEdges (count_edges graph (λ u v. true)))
        ∷ first_some_below node_count missing_column
        ∷ first_some_below node_count bad_number
        ∷ option_map fault.BadLabel (first_below node_count (λ i. is_none (option_and_then label_of (cell i column.District))))
        ∷ refused_if (nat_lt label_count 2 || nat_lt most_districts label_count) (fault.DistrictCount label_count)
        ∷ length_fault
        ∷ [])

    -- the result if there is no fault
    abbrev pub parsed : Parsed
    parsed = record {
      graph = graph;
      counts = record {
        population = map_below node_count (count_at column.Population);
        first = map_below node_count (count_at column.First);
        second = map_below node_count (count_at column.Second);
        lengths = cond names_length (join_below node_count lengths_at) [];
      };
      group = record {
        members = cond names_group (map_below node_count (count_at column.Group)) [];
        whole = cond names_group (map_below node_count (count_at column.Whole)) [];
      };
      frozen = cond names_frozen (map_below node_count flag_at) [];
      start = map_below node_count district_at;
      labels = map_below label_count (λ d. unwrap_or (option_map label_at (first_below node_count (λ i. district_at i == d))) (Word []));
    }

-- ---- the whole reading

-- the result, if there is no fault
abbrev pub accepted_or : {A : Type 0} → A → Option GraphFault → Result A GraphFault
accepted_or x None = Ok x
accepted_or x (Some f) = Err f

-- the result for a root, by its first part of wrong shape
abbrev pub of_root : Columns → Data → Option Part → Result Parsed GraphFault
of_root columns root (Some p) = Err (fault.BadShape p)
of_root columns root None = accepted_or (parsed (document root) columns) (refusal (document root) columns)

-- the result for JSON, if the text is JSON
abbrev pub of_json : Columns → Option Data → Result Parsed GraphFault
of_json columns None = Err fault.NotJson
of_json columns (Some root) = of_root columns root (bad_part root)

-- the graph of a text, or the first fault
unfoldable pub reading : List ℕ → Columns → Result Parsed GraphFault
reading bytes columns = of_json columns (cond (is_utf8 bytes) (read bytes) None)
