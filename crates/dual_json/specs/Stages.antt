-- The faults of a document: those of the graph, then those of the columns.
use Rattle.std.specs.Prelude.{◌≡◌, ℕ, ◌≤◌, Bool, true, not, nat_lt, List, length, codes, Option, unwrap_or, option_map}
use Rattle.std.specs.Option.{option_or}
use Rattle.serde_json.specs.Data.{Data}
use Rattle.audit_model.specs.declared.fault.GraphFault.{GraphFault}
use Rattle.audit_model.specs.declared.fault.GraphFault.TheVariants as fault
use Rattle.audit_model.specs.declared.setting.Columns.{Columns}
use Rattle.audit_model.specs.declared.outcome.Counts.{Counts}
use Rattle.audit_model.specs.declared.rules.Group.{Group}
use Rattle.audit_model.specs.declared.setting.Label.{Label}
use Rattle.audit_model.specs.Below.{any_below}
use Rattle.audit_model.specs.First.{first_below, first_some_below}
use Rattle.audit_model.specs.Graph.{count_edges}
use Rattle.audit_statement.specs.Reading.{Document, graph, id_of, same_id, refused_if}
use Rattle.dual_json.specs.Columns.{missing, bad, numbers_in, frozen_in, AreOfGroup}
use Rattle.dual_json.specs.Districts.{AreDistricts}
use Rattle.dual_json.specs.Edges.{entries_at, first_in, is_unnamed}
use Rattle.dual_json.specs.Places.{object_at, first_unnamed, AreLabels}
use Rattle.dual_json.specs.Shape.{frame_fault}
use Rattle.audit_model.specs.Limits.{most_edges, most_districts}

-- the fault of the least node whose id an earlier node has
abbrev pub repeated_in : List Data → Option GraphFault
repeated_in nodes = option_map
    (λ j. fault.SameId (unwrap_or (first_below j (λ i. same_id (id_of (object_at nodes i)) (id_of (object_at nodes j)))) 0) j)
    (first_below (length nodes) (λ j. any_below j (λ i. same_id (id_of (object_at nodes i)) (id_of (object_at nodes j)))))

-- the first fault of the ids
abbrev pub ids_fault : List Data → Option GraphFault
ids_fault nodes = option_or (option_map fault.BadId (first_unnamed (codes "id") nodes)) (repeated_in nodes)

-- the fault of the first adjacency entry that passes a test
abbrev pub entry_fault : Document → (Data → Bool) → (ℕ → ℕ → GraphFault) → Option GraphFault
entry_fault d test f = first_some_below (length d.nodes) (λ i. option_map (f i) (first_in test (entries_at d.adjacency i)))

-- an entry with the id of no node
abbrev pub is_unknown_neighbor : List Data → Data → Bool
is_unknown_neighbor nodes e = not (any_below (length nodes) (λ j. same_id (id_of e) (id_of (object_at nodes j))))

abbrev pub edge_count : Document → ℕ
edge_count d = count_edges (graph d) (λ u v. true)

-- the first fault of the graph
abbrev pub graph_fault : Document → Option GraphFault
graph_fault d = option_or (frame_fault d.directed (length d.nodes) (length d.adjacency)) (option_or (ids_fault d.nodes)
    (option_or (entry_fault d is_unnamed fault.BadNeighbour) (option_or (entry_fault d (is_unknown_neighbor d.nodes) fault.UnknownNeighbour)
    (refused_if (nat_lt most_edges (edge_count d)) (fault.TooManyEdges (edge_count d))))))

-- the first fault of the columns, up to the labels
abbrev pub labels_fault : Columns → List Data → Option GraphFault
labels_fault columns nodes = option_or (missing columns nodes) (option_or (bad columns nodes) (option_map fault.BadLabel (first_unnamed columns.district nodes)))

-- the numbers and flags of the columns
pub record AreNumbers (columns : Columns) (nodes : List Data) (counts : Counts) (group : Group) (frozen : List ℕ) : Type 0 where
  pub population : counts.population ≡ numbers_in columns.population nodes
  pub first : counts.first ≡ numbers_in columns.first nodes
  pub second : counts.second ≡ numbers_in columns.second nodes
  pub grouped : AreOfGroup columns nodes group
  pub freezing : frozen ≡ frozen_in columns nodes

-- the data of the columns
pub record AreRows (columns : Columns) (nodes : List Data) (counts : Counts) (group : Group) (frozen start : List ℕ) (found : List Label) : Type 0 where
  pub population : counts.population ≡ numbers_in columns.population nodes
  pub first : counts.first ≡ numbers_in columns.first nodes
  pub second : counts.second ≡ numbers_in columns.second nodes
  pub grouped : AreOfGroup columns nodes group
  pub freezing : frozen ≡ frozen_in columns nodes
  pub labels : List Label
  pub labelled : AreLabels columns.district nodes labels
  pub districts : AreDistricts labels found start
  pub two : 2 ≤ length found
  pub few : length found ≤ most_districts
