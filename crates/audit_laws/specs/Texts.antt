-- Small graphs as texts.
use Rattle.std.specs.Prelude.{ℕ, List, [], ◌∷◌, ◌++◌, codes, pos}
use Rattle.audit_model.specs.declared.setting.Columns.{Columns}
use Rattle.audit_model.specs.declared.setting.Label.{Label}
use Rattle.audit_model.specs.declared.setting.Label.TheVariants.{Whole}
use Rattle.audit_laws.specs.Jobs.{counts_of_votes, no_group}
use Rattle.audit_model.specs.Graph.{Graph}
use Rattle.audit_model.specs.Parsed.{Parsed}

-- the columns of these texts
abbrev pub columns : Columns
columns = record { population = codes "pop"; first = codes "a"; second = codes "b"; district = codes "d"; group = []; whole = []; frozen = []; length = [] }

-- four units in a row, with numbers as ids and labels
abbrev pub path_text : List ℕ
path_text = codes "{\"directed\":false,\"multigraph\":false,\"graph\":[],\"nodes\":[{\"pop\":1,\"a\":3,\"b\":1,\"d\":1,\"id\":0},{\"pop\":1,\"a\":1,\"b\":2,\"d\":1,\"id\":1},{\"pop\":1,\"a\":1,\"b\":2,\"d\":2,\"id\":2},{\"pop\":1,\"a\":2,\"b\":1,\"d\":2,\"id\":3}],\"adjacency\":[[{\"id\":1}],[{\"id\":0},{\"id\":2}],[{\"id\":1},{\"id\":3}],[{\"id\":2}]]}"

-- the path of four units, with lengths of its edges
abbrev pub length_text : List ℕ
length_text = codes "{\"directed\":false,\"multigraph\":false,\"graph\":[],\"nodes\":[{\"pop\":1,\"a\":3,\"b\":1,\"d\":1,\"id\":0},{\"pop\":1,\"a\":1,\"b\":2,\"d\":1,\"id\":1},{\"pop\":1,\"a\":1,\"b\":2,\"d\":2,\"id\":2},{\"pop\":1,\"a\":2,\"b\":1,\"d\":2,\"id\":3}],\"adjacency\":[[{\"l\":9,\"id\":1}],[{\"l\":9,\"id\":0},{\"l\":7,\"id\":2}],[{\"l\":7,\"id\":1},{\"l\":5,\"id\":3}],[{\"l\":5,\"id\":2}]]}"

-- the path of four units, with an edge whose lengths differ
abbrev pub unequal_text : List ℕ
unequal_text = codes "{\"directed\":false,\"multigraph\":false,\"graph\":[],\"nodes\":[{\"pop\":1,\"a\":3,\"b\":1,\"d\":1,\"id\":0},{\"pop\":1,\"a\":1,\"b\":2,\"d\":1,\"id\":1},{\"pop\":1,\"a\":1,\"b\":2,\"d\":2,\"id\":2},{\"pop\":1,\"a\":2,\"b\":1,\"d\":2,\"id\":3}],\"adjacency\":[[{\"l\":9,\"id\":1}],[{\"l\":9,\"id\":0},{\"l\":7,\"id\":2}],[{\"l\":6,\"id\":1},{\"l\":5,\"id\":3}],[{\"l\":5,\"id\":2}]]}"

-- the path of four units, and a table with one plan
abbrev pub path_and_plans : List ℕ
path_and_plans = path_text ++ 10 ∷ codes "id,p" ++ 10 ∷ codes "0,A" ++ 10 ∷ codes "1,A" ++ 10 ∷ codes "2,A" ++ 10 ∷ codes "3,B"

-- the path of four units, with an edge in one list only, written twice, and an edge from a unit to itself
abbrev pub other_path_text : List ℕ
other_path_text = codes "{\"directed\":false,\"multigraph\":false,\"graph\":[],\"nodes\":[{\"pop\":1,\"a\":3,\"b\":1,\"d\":1,\"id\":0},{\"pop\":1,\"a\":1,\"b\":2,\"d\":1,\"id\":1},{\"pop\":1,\"a\":1,\"b\":2,\"d\":2,\"id\":2},{\"pop\":1,\"a\":2,\"b\":1,\"d\":2,\"id\":3}],\"adjacency\":[[{\"id\":1},{\"id\":1}],[{\"id\":2}],[{\"id\":1},{\"id\":3},{\"id\":2}],[{\"id\":2}]]}"

-- four units around a square, with texts as ids and labels, and attributes that are ignored
abbrev pub cycle_text : List ℕ
cycle_text = codes "{\"directed\": false, \"multigraph\": false, \"graph\": [], \"nodes\": [{\"boundary_node\": true, \"area\": 1.0, \"pop\": 1, \"a\": 3, \"b\": 1, \"d\": \"01\", \"id\": \"w\"}, {\"boundary_node\": true, \"area\": 1.5, \"pop\": 1, \"a\": 1, \"b\": 2, \"d\": \"01\", \"id\": \"x\"}, {\"boundary_node\": true, \"area\": 1.0, \"pop\": 1, \"a\": 1, \"b\": 2, \"d\": \"02\", \"id\": \"y\"}, {\"boundary_node\": true, \"area\": 2.25, \"pop\": 1, \"a\": 2, \"b\": 1, \"d\": \"02\", \"id\": \"z\"}], \"adjacency\": [[{\"shared_perim\": 1.0, \"id\": \"x\"}, {\"shared_perim\": 0.5, \"id\": \"z\"}], [{\"shared_perim\": 1.0, \"id\": \"w\"}, {\"shared_perim\": 1.0, \"id\": \"y\"}], [{\"shared_perim\": 1.0, \"id\": \"x\"}, {\"shared_perim\": 2.0, \"id\": \"z\"}], [{\"shared_perim\": 0.5, \"id\": \"w\"}, {\"shared_perim\": 2.0, \"id\": \"y\"}]]}"

-- the graph and labels read from these texts
abbrev pub parsed_four : Graph → List Label → Parsed
parsed_four graph labels = record {
  graph = graph;
  counts = counts_of_votes (3 ∷ 1 ∷ 1 ∷ 2 ∷ []) (1 ∷ 2 ∷ 2 ∷ 1 ∷ []) 4;
  group = no_group;
  frozen = [];
  start = 0 ∷ 0 ∷ 1 ∷ 1 ∷ [];
  labels = labels;
}

-- units with a region each, and a second column whose first value is no label
abbrev pub region_text : List ℕ
region_text = codes "{\"nodes\":[{\"r\":1,\"s\":1.5,\"id\":0},{\"r\":2,\"s\":1,\"id\":1},{\"r\":2,\"s\":1,\"id\":2},{\"r\":1,\"s\":1,\"id\":3}],\"adjacency\":[[],[],[],[]]}"

-- the units without the last one's region
abbrev pub short_region_text : List ℕ
short_region_text = codes "{\"nodes\":[{\"r\":1,\"id\":0},{\"r\":2,\"id\":1},{\"r\":2,\"id\":2},{\"id\":3}],\"adjacency\":[[],[],[],[]]}"

abbrev pub four_ids : List Label
four_ids = Whole (pos 0) ∷ Whole (pos 1) ∷ Whole (pos 2) ∷ Whole (pos 3) ∷ []
