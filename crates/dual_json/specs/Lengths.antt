-- The lengths of edges, from an attribute of the adjacency entries.
use Rattle.std.specs.Prelude.{ℕ, ◌==◌, Bool, false, not, cond, nat_le, nat_lt, List, [], length, map, Option, Some, None, is_none, unwrap_or, option_map, option_and_then}
use Rattle.std.specs.List.{slice_index_or}
use Rattle.std.specs.Option.{option_or}
use Rattle.serde_json.specs.Data.{Data}
use Rattle.serde_json.specs.Find.{get, as_number, as_u64}
use Rattle.audit_model.specs.declared.fault.GraphFault.{GraphFault}
use Rattle.audit_model.specs.declared.fault.GraphFault.TheVariants as fault
use Rattle.audit_model.specs.declared.setting.Label.{Label}
use Rattle.audit_model.specs.Below.{join_below}
use Rattle.audit_model.specs.First.{first_some_below}
use Rattle.audit_model.specs.Graph.{Graph}
use Rattle.audit_statement.specs.Reading.{id_of, most_edge_length, same_id}
use Rattle.dual_json.specs.Edges.{entries_at, first_entry_in, first_in}
use Rattle.dual_json.specs.Places.{nth, object_at, place_of_entry}

-- an integer from 0 to 2 ^ 32 - 1
abbrev pub length_from : Data → Option ℕ
length_from d = option_and_then (λ n. cond (nat_le n most_edge_length) (Some n) None) (option_and_then as_u64 (as_number d))

-- the length at a key
abbrev pub length_in : List ℕ → Data → Option ℕ
length_in key d = option_and_then length_from (get key d)

-- the length at a key, or 0 without one
abbrev pub length_or_zero : List ℕ → Data → ℕ
length_or_zero key d = unwrap_or (length_in key d) 0

-- an entry without a value at the key, and one without a length there
abbrev pub has_no_value : List ℕ → Data → Bool
has_no_value key d = is_none (get key d)

abbrev pub has_no_length : List ℕ → Data → Bool
has_no_length key d = is_none (length_in key d)

-- the entry has this label as its id
abbrev pub is_labelled : Label → Data → Bool
is_labelled label d = same_id (id_of d) (Some label)

-- the length in the first entry with this label
abbrev pub listed_length : List ℕ → Label → List Data → Option ℕ
listed_length key label entries = option_map (λ place. length_or_zero key (object_at entries place)) (first_in (is_labelled label) entries)

-- the length between two nodes, the lesser one first
abbrev pub length_of_pair : List ℕ → List Label → List (List Data) → ℕ → ℕ → ℕ
length_of_pair key ids lists i j =
    unwrap_or (option_or (listed_length key (nth ids j) (entries_at lists i)) (listed_length key (nth ids i) (entries_at lists j))) 0

-- the length between two nodes
abbrev pub length_between : List ℕ → List Label → List (List Data) → ℕ → ℕ → ℕ
length_between key ids lists i j = cond (nat_lt i j) (length_of_pair key ids lists i j) (length_of_pair key ids lists j i)

-- an entry of a node's list has another length than the first entry for the two nodes
abbrev pub is_unequal : List ℕ → List Label → List (List Data) → ℕ → Data → Bool
is_unequal key ids lists i d =
    unwrap_or (option_map (λ j. not (length_or_zero key d == length_between key ids lists i j)) (place_of_entry ids d)) false

-- the fault of the first such entry
abbrev pub unequal_fault : List ℕ → List Label → List (List Data) → Option GraphFault
unequal_fault key ids lists =
    first_some_below (length lists) (λ i. option_map (fault.UnequalLengths i) (first_in (is_unequal key ids lists i) (entries_at lists i)))

-- the first fault of the lengths
abbrev pub lengths_fault : List ℕ → List Label → List (List Data) → Option GraphFault
lengths_fault key ids lists =
    option_or (first_entry_in (has_no_value key) fault.MissingLength lists)
    (option_or (first_entry_in (has_no_length key) fault.BadLength lists) (unequal_fault key ids lists))

-- the lengths from a node to its neighbors
abbrev pub row_lengths : List ℕ → List Label → List (List Data) → Graph → ℕ → List ℕ
row_lengths key ids lists g i = map (length_between key ids lists i) (slice_index_or g.neighbours i [])

-- the lengths of all directed edges of the graph
abbrev pub all_lengths : List ℕ → List Label → List (List Data) → Graph → List ℕ
all_lengths key ids lists g = join_below g.units (row_lengths key ids lists g)

-- the fault and the lengths if a column of lengths is named
abbrev pub fault_if_named : List ℕ → List Label → List (List Data) → Option GraphFault
fault_if_named key ids lists = cond (not (length key == 0)) (lengths_fault key ids lists) None

abbrev pub lengths_if_named : List ℕ → List Label → List (List Data) → Graph → List ℕ
lengths_if_named key ids lists g = cond (not (length key == 0)) (all_lengths key ids lists g) []
