-- The edges that the nodes list.
use Rattle.std.specs.Prelude.{◌≡◌, ◌≢◌, ℕ, ◌<◌, ◌⊎◌, ◌==◌, ◌&&◌, ◌||◌, Bool, true, cond, nat_lt, not, IsTrue, List, [], length, Option, Some, is_none, option_map}
use Rattle.std.specs.List.{slice_index_or}
use Rattle.std.specs.Option.{option_or}
use Rattle.serde_json.specs.Data.{Data}
use Rattle.audit_model.specs.declared.fault.GraphFault.{GraphFault}
use Rattle.audit_model.specs.declared.fault.GraphFault.TheVariants as fault
use Rattle.audit_model.specs.declared.setting.Label.{Label}
use Rattle.audit_model.specs.Below.{any_below, filter_below, map_below}
use Rattle.audit_model.specs.First.{first_below, first_some_below}
use Rattle.audit_model.specs.Graph.{Graph, count_edges}
use Rattle.dual_graph.specs.Pairs.{has_pair}
use Rattle.audit_statement.specs.Reading.{id_of, same_id, refused_if}
use Rattle.dual_json.specs.Places.{object_at, nth, place_of_entry}
use Rattle.audit_model.specs.Limits.{most_edges}

-- the adjacency list of a node
abbrev pub entries_at : List (List Data) → ℕ → List Data
entries_at lists i = slice_index_or lists i []

-- the first entry of a list that passes a test, and the fault of the first one in all lists
abbrev pub first_in : (Data → Bool) → List Data → Option ℕ
first_in test entries = first_below (length entries) (λ place. test (object_at entries place))

abbrev pub first_entry_in : (Data → Bool) → (ℕ → ℕ → GraphFault) → List (List Data) → Option GraphFault
first_entry_in test f lists = first_some_below (length lists) (λ i. option_map (f i) (first_in test (entries_at lists i)))

-- an entry without an id
abbrev pub is_unnamed : Data → Bool
is_unnamed d = is_none (id_of d)

-- an entry that names no node
abbrev pub is_unknown : List Label → Data → Bool
is_unknown ids d = is_none (place_of_entry ids d)

-- an edge as a pair, smaller unit first
abbrev pub edge : ℕ → ℕ → ℕ × ℕ
edge u v = cond {A = ℕ × ℕ} (nat_lt u v) (u, v) (v, u)

-- an edge is among the pairs
abbrev pub has_edge : List (ℕ × ℕ) → ℕ × ℕ → Bool
has_edge pairs e = has_pair pairs e.0 e.1

-- one of the first entries names the node
abbrev pub LeadsTo : List Label → List Data → ℕ → ℕ → Type 0
LeadsTo ids entries count v = (place : ℕ) × (place < count) × (place_of_entry ids (object_at entries place) ≡ Some v)

-- one more edge, unless it is a loop
pub record PushesEdge (node other : ℕ) (old new : List (ℕ × ℕ)) : Type 0 where
  pub kept : (e : ℕ × ℕ) → IsTrue (has_edge old e) → IsTrue (has_edge new e)
  pub from : (e : ℕ × ℕ) → IsTrue (has_edge new e) → IsTrue (has_edge old e) ⊎ ((other ≢ node) × (e ≡ edge node other))
  pub to : other ≢ node → IsTrue (has_edge new (edge node other))

-- the edges from a node to those that its first entries name
pub record AddsEdges (ids : List Label) (entries : List Data) (count node : ℕ) (old new : List (ℕ × ℕ)) : Type 0 where
  pub kept : (e : ℕ × ℕ) → IsTrue (has_edge old e) → IsTrue (has_edge new e)
  pub from : (e : ℕ × ℕ) → IsTrue (has_edge new e) → IsTrue (has_edge old e) ⊎ ((v : ℕ) × LeadsTo ids entries count v × (v ≢ node) × (e ≡ edge node v))
  pub to : (v : ℕ) → LeadsTo ids entries count v → v ≢ node → IsTrue (has_edge new (edge node v))

-- the edges of the first nodes
pub record AreListed (ids : List Label) (lists : List (List Data)) (count : ℕ) (pairs : List (ℕ × ℕ)) : Type 0 where
  pub from : (e : ℕ × ℕ) → IsTrue (has_edge pairs e) → (u : ℕ) × (v : ℕ) × (u < count) × LeadsTo ids (entries_at lists u) (length (entries_at lists u)) v × (v ≢ u) × (e ≡ edge u v)
  pub to : (u v : ℕ) → u < count → LeadsTo ids (entries_at lists u) (length (entries_at lists u)) v → v ≢ u → IsTrue (has_edge pairs (edge u v))

-- ---- the graph

-- the entries name the node
abbrev pub names_node : List Label → List Data → ℕ → Bool
names_node ids entries j = any_below (length entries) (λ place. same_id (id_of (object_at entries place)) (Some (nth ids j)))

-- two distinct nodes are adjacent: one of them lists the other
abbrev pub joined_in : List Label → List (List Data) → ℕ → ℕ → Bool
joined_in ids lists i j = not (i == j) && (names_node ids (entries_at lists i) j || names_node ids (entries_at lists j) i)

abbrev pub graph_in : List Label → List (List Data) → Graph
graph_in ids lists = record { units = length ids; neighbours = map_below (length ids) (λ i. filter_below (length ids) (joined_in ids lists i)) }

abbrev pub edges_in : List Label → List (List Data) → ℕ
edges_in ids lists = count_edges (graph_in ids lists) (λ u v. true)

-- the first fault of the edges
abbrev pub edges_fault : List Label → List (List Data) → Option GraphFault
edges_fault ids lists = option_or (first_entry_in (is_unknown ids) fault.UnknownNeighbour lists)
    (refused_if (nat_lt most_edges (edges_in ids lists)) (fault.TooManyEdges (edges_in ids lists)))
