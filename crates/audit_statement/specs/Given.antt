-- The bytes of a graph and a run's job. networkx's adjacency format, which GerryChain's `Graph.from_json` reads; JSON
-- is what `serde_json` reads. It relates a job to the JSON that was accepted, and is silent on refusals.
use Rattle.std.specs.Prelude.{◌≡◌, ◌≢◌, ◌⊎◌, ◌↔◌, ℕ, ◌<◌, true, IsTrue, List, [], ◌∷◌, length, map, slice_index, codes, Option, Some, option_and_then}
use Rattle.std.specs.List.{slice_index_or}
use Rattle.serde_json.specs.Data.{Data, null, boolean, number, array, unsigned, Items, no_items, item}
use Rattle.serde_json.specs.Find.{get}
use Rattle.audit_model.specs.declared.setting.Label.{Label}
use Rattle.audit_model.specs.declared.setting.Label.TheVariants.{Word}
use Rattle.audit_model.specs.Graph.{adjacent}
use Rattle.audit_model.specs.Job.{Job}
use Rattle.audit_model.specs.Label.{label_before}
use Rattle.audit_statement.specs.Reading.{label_of}

-- the elements of an array of these values
abbrev pub items_of : List Data → Items
items_of [] = no_items
items_of (value ∷ values) = item value (items_of values)

-- the array of these values
abbrev pub list : List Data → Data
list values = array (items_of values)

-- the integer or the text at a key
abbrev pub label_under : List ℕ → Data → Option Label
label_under key value = option_and_then label_of (get key value)

-- a number at a key
abbrev pub count : ℕ → Option Data
count n = Some (number (unsigned n))

-- one of these entries has the id of the unit
abbrev pub Names : List Label → List Data → ℕ → Type 0
Names ids entries u =
    (place : ℕ) × (place < length entries) × (label_under (codes "id") (slice_index_or entries place null) ≡ Some (slice_index_or ids u (Word [])))

-- The nodes are the units. Each has its own id and a list of neighbors, whose entries have ids of units. Two distinct
-- units are adjacent if one of them lists the other. Each column gives each unit a number, and the column of districts
-- a label. Districts are numbered by rising label. Edges have no lengths if no column of them is named.
pub record IsGiven (root : Data) (job : Job) : Type 0 where
  pub nodes : List Data
  pub lists : List (List Data)
  pub nodes_are : get (codes "nodes") root ≡ Some (list nodes)
  pub lists_are : get (codes "adjacency") root ≡ Some (list (map list lists))
  pub undirected : get (codes "directed") root ≢ Some (boolean true)
  pub units : (length nodes ≡ job.graph.units) × (length lists ≡ job.graph.units)
  pub ids : List Label
  pub ids_are : map (label_under (codes "id")) nodes ≡ map Some ids
  pub apart : (u v : ℕ) → u < job.graph.units → v < job.graph.units → slice_index_or ids u (Word []) ≡ slice_index_or ids v (Word []) → u ≡ v
  pub known : (u place : ℕ) → u < job.graph.units → place < length (slice_index_or lists u [])
      → (v : ℕ) × (v < job.graph.units)
      × (label_under (codes "id") (slice_index_or (slice_index_or lists u []) place null) ≡ Some (slice_index_or ids v (Word [])))
  pub edges : (u v : ℕ) → u < job.graph.units → v < job.graph.units
      → IsTrue (adjacent job.graph u v) ↔ ((u ≢ v) × (Names ids (slice_index_or lists u []) v ⊎ Names ids (slice_index_or lists v []) u))
  pub population : map (get job.setting.columns.population) nodes ≡ map count job.counts.population
  pub first : map (get job.setting.columns.first) nodes ≡ map count job.counts.first
  pub second : map (get job.setting.columns.second) nodes ≡ map count job.counts.second
  pub no_lengths : job.setting.columns.length ≡ [] → job.counts.lengths ≡ []
  pub labels : List Label
  pub labels_are : map (label_under job.setting.columns.district) nodes ≡ map Some labels
  pub order : (u v : ℕ) → u < job.graph.units → v < job.graph.units
      → (slice_index job.start u < slice_index job.start v) ↔ IsTrue (label_before (slice_index_or labels u (Word [])) (slice_index_or labels v (Word [])))
