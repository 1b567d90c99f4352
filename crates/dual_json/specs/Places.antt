-- Ids and labels of a list of objects.
use Rattle.std.specs.Prelude.{◌≡◌, ℕ, ◌<◌, List, [], length, map, Option, Some, is_none, unwrap_or, option_map, option_and_then}
use Rattle.std.specs.List.{slice_index_or}
use Rattle.std.specs.HashMap.{HashMap, get}
use Rattle.serde_json.specs.Data.{Data, null}
use Rattle.serde_json.specs.Find.{get as member}
use Rattle.audit_model.specs.declared.fault.GraphFault.{GraphFault}
use Rattle.audit_model.specs.declared.fault.GraphFault.TheVariants as fault
use Rattle.audit_model.specs.declared.setting.Label.{Label}
use Rattle.audit_model.specs.declared.setting.Label.TheVariants.{Word}
use Rattle.audit_model.specs.Below.{any_below}
use Rattle.audit_model.specs.First.{first_below}
use Rattle.audit_model.specs.Label.{same_label}
use Rattle.audit_statement.specs.Reading.{label_of, id_of}
use Rattle.dual_json.specs.Names.{label_from, same_name}
use Rattle.dual_json.specs.declared.names.NodeName.{NodeName}
use Rattle.dual_json.specs.declared.names.Unnamed.{Unnamed}
use Rattle.dual_json.specs.declared.names.Unnamed.TheVariants as unnamed

-- the label at a key of an object
abbrev pub label_at_key : List ℕ → Data → Option Label
label_at_key key d = option_and_then label_of (member key d)

-- the object at a place, and the label at a place
abbrev pub object_at : List Data → ℕ → Data
object_at objects i = slice_index_or objects i null

abbrev pub nth : List Label → ℕ → Label
nth labels i = slice_index_or labels i (Word [])

-- the labels of a list of names
abbrev pub labels_from : List NodeName → List Label
labels_from names = map label_from names

-- the first object without a label at the key
abbrev pub first_unnamed : List ℕ → List Data → Option ℕ
first_unnamed key objects = first_below (length objects) (λ i. is_none (label_at_key key (object_at objects i)))

-- each object has the label at its place
pub record AreLabels (key : List ℕ) (objects : List Data) (labels : List Label) : Type 0 where
  pub count : length labels ≡ length objects
  pub each : (i : ℕ) → i < length objects → label_at_key key (object_at objects i) ≡ Some (nth labels i)

-- the reason is the first object without a label, or out of memory
abbrev pub MatchesUnnamed : Unnamed → Option ℕ → Type 0
MatchesUnnamed (unnamed.At i) found = found ≡ Some i
MatchesUnnamed unnamed.Memory found = Unit {0}

-- the first place of a label
abbrev pub place_of_label : List Label → Label → Option ℕ
place_of_label labels l = first_below (length labels) (λ i. same_label l (nth labels i))

-- the fault of the least place whose label an earlier place has
abbrev pub repeated_label : List Label → Option GraphFault
repeated_label labels = option_map
    (λ j. fault.SameId (unwrap_or (first_below j (λ i. same_label (nth labels i) (nth labels j))) 0) j)
    (first_below (length labels) (λ j. any_below j (λ i. same_label (nth labels i) (nth labels j))))

-- the map gives the first place of each name's label
abbrev pub IsLabelIndex : {S : Type 0} → List Label → HashMap NodeName ℕ S → Type 0
IsLabelIndex labels places = (q : NodeName) → get same_name places q ≡ place_of_label labels (label_from q)

-- the node that an entry names
abbrev pub place_of_entry : List Label → Data → Option ℕ
place_of_entry labels d = option_and_then (place_of_label labels) (id_of d)
