-- The root object.
use Rattle.std.specs.Prelude.{ℕ, ◌==◌, Bool, not, nat_lt, List, [], ◌∷◌, map, Option, unwrap_or}
use Rattle.serde_json.specs.Data.{Data}
use Rattle.dual_json.specs.Values.{value_data}
use Rattle.dual_json.specs.declared.value.Value.{Value}
use Rattle.audit_model.specs.declared.fault.GraphFault.{GraphFault}
use Rattle.audit_model.specs.declared.fault.GraphFault.TheVariants as fault
use Rattle.audit_model.specs.First.{first_some}
use Rattle.audit_statement.specs.Reading.{Document, list_of, refused_if}
use Rattle.dual_json.specs.declared.shape.RootParts.{RootParts}
use Rattle.audit_model.specs.Limits.{most_units}

-- the data of a list of values
abbrev pub views : List Value → List Data
views values = map value_data values

-- the items of each of several arrays
abbrev pub lists_in : List Value → List (List Data)
lists_in values = map (λ d. unwrap_or (list_of d) []) (views values)

-- the document of the parts
abbrev pub document_of_parts : RootParts → Document
document_of_parts p = record { nodes = views p.nodes.now; adjacency = lists_in p.adjacency.now; directed = p.directed }

-- the first fault of the parts' flags and lengths
abbrev pub frame_fault : Bool → ℕ → ℕ → Option GraphFault
frame_fault directed nodes adjacency = first_some (
    refused_if directed fault.Directed
    ∷ refused_if (not (nodes == adjacency)) (fault.LengthsDiffer nodes adjacency)
    ∷ refused_if (nat_lt most_units nodes) (fault.TooManyUnits nodes)
    ∷ [])
