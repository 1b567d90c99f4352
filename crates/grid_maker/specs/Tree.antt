-- The grid as a JSON value, in networkx's adjacency format.
use Rattle.std.specs.Prelude.{ℕ, ◌-◌, ◌*◌, ◌/◌, List, map, codes, false}
use Rattle.serde_json.specs.Data.{Data, boolean, number, unsigned, array, object, no_items, member, no_members}
use Rattle.serde_json.specs.View.{items_of}
use Rattle.audit_model.specs.Below.{map_below, filter_below}
use Rattle.audit_statement.specs.Grid.{grid_side, are_beside, first_votes_of}

abbrev pub entry_tree : ℕ → Data
entry_tree unit = object (member (codes "id") (number (unsigned unit)) no_members)

abbrev pub neighbours_tree : ℕ → ℕ → Data
neighbours_tree size unit = array (items_of (map entry_tree (filter_below (grid_side size * grid_side size) (are_beside size unit))))

-- the node of a unit with this many votes for the first party
abbrev pub unit_tree : ℕ → ℕ → ℕ → Data
unit_tree size unit first = object (
    member (codes "a") (number (unsigned first))
    (member (codes "b") (number (unsigned (100 - first)))
    (member (codes "district") (number (unsigned (unit / grid_side size / size)))
    (member (codes "id") (number (unsigned unit))
    (member (codes "pop") (number (unsigned 100)) no_members)))))

abbrev pub node_tree : ℕ → List ℕ → ℕ → Data
node_tree size key unit = unit_tree size unit (first_votes_of key unit)

abbrev pub adjacency_tree : ℕ → Data
adjacency_tree size = array (items_of (map_below (grid_side size * grid_side size) (neighbours_tree size)))

abbrev pub nodes_tree : ℕ → List ℕ → Data
nodes_tree size key = array (items_of (map_below (grid_side size * grid_side size) (node_tree size key)))

-- the root, from the adjacency lists and the nodes
abbrev pub root_tree : Data → Data → Data
root_tree adjacency nodes = object (
    member (codes "adjacency") adjacency
    (member (codes "directed") (boolean false)
    (member (codes "graph") (array no_items)
    (member (codes "multigraph") (boolean false)
    (member (codes "nodes") nodes no_members)))))

abbrev pub grid_tree : ℕ → List ℕ → Data
grid_tree size key = root_tree (adjacency_tree size) (nodes_tree size key)
