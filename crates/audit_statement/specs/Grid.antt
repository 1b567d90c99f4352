-- The grid that `make` writes, as JSON.
use Rattle.std.specs.Prelude.{ℕ, ◌+◌, ◌-◌, ◌*◌, ◌/◌, ◌%◌, ◌==◌, ◌&&◌, ◌||◌, Bool, List, ◌++◌, map, codes, decimal}
use Rattle.std.specs.List.{join_with_byte}
use Rattle.audit_model.specs.Below.{map_below, filter_below}
use Rattle.audit_statement.specs.Draw.{draw}

-- the number of columns, and of rows
abbrev pub grid_side : ℕ → ℕ
grid_side size = 10 * size

-- the units are next to each other in a row or a column
abbrev pub are_beside : ℕ → ℕ → ℕ → Bool
are_beside size u v =
    (u / grid_side size == v / grid_side size) && ((u + 1 == v) || (v + 1 == u))
    || ((u + grid_side size == v) || (v + grid_side size == u))

-- the votes of the first party in a unit, of 100, drawn on their own stream
abbrev pub first_votes_of : List ℕ → ℕ → ℕ
first_votes_of key u = draw key 4294967296 u % 101

-- a list in brackets
abbrev pub bracketed : List (List ℕ) → List ℕ
bracketed parts = codes "[" ++ join_with_byte 44 parts ++ codes "]"

-- the adjacency list of a unit
abbrev pub neighbours_json : ℕ → ℕ → List ℕ
neighbours_json size u = bracketed (map (λ v. codes "{\"id\":" ++ decimal v ++ codes "}") (filter_below (grid_side size * grid_side size) (are_beside size u)))

-- the node of a unit
abbrev pub node_json : ℕ → List ℕ → ℕ → List ℕ
node_json size key u =
    codes "{\"a\":" ++ decimal (first_votes_of key u) ++ codes ",\"b\":" ++ decimal (100 - first_votes_of key u)
    ++ codes ",\"district\":" ++ decimal (u / grid_side size / size) ++ codes ",\"id\":" ++ decimal u ++ codes ",\"pop\":100}"

-- the whole text
unfoldable pub grid : ℕ → List ℕ → List ℕ
grid size key =
    codes "{\"adjacency\":" ++ bracketed (map_below (grid_side size * grid_side size) (neighbours_json size))
    ++ codes ",\"directed\":false,\"graph\":[],\"multigraph\":false,\"nodes\":"
    ++ bracketed (map_below (grid_side size * grid_side size) (node_json size key)) ++ codes "}"
