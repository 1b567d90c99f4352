-- The data of a borrowed value; its objects keep the order of the source.
use Rattle.std.specs.Prelude.{ℕ, List, [], ◌∷◌, map}
use Rattle.std.specs.Borrow.{Bor}
use Rattle.serde_json.specs.Data.{Data, null, boolean, number, string, array, object, Items, Members, no_members, put}
use Rattle.serde_json.specs.View.{number_view, items_of}
use Rattle.dual_json.specs.declared.value.Value.{Value, fold-Value}
use Rattle.dual_json.specs.declared.value.Value.TheOpen.{Value-F}

-- some members followed by others, of which the last with a key counts
abbrev pub put_all : Members → List (Bor (List ℕ) × Data) → Members
put_all found [] = found
put_all found (m ∷ ms) = put_all (put m.0.now m.1 found) ms

-- one level of a value, given the data of its parts
abbrev pub data_step : Value-F Data → Data
data_step Value-F.Null = null
data_step (Value-F.Bool b) = boolean b
data_step (Value-F.Number n) = number (number_view n)
data_step (Value-F.String s) = string s.now
data_step (Value-F.Array v) = array (items_of v.items)
data_step (Value-F.Object v) = object (put_all no_members v.items)

-- the data of a value
abbrev pub value_data : Value → Data
value_data = fold-Value Data data_step

-- the data of an array's items
abbrev pub items_data : List Value → Items
items_data vs = items_of (map value_data vs)

-- the data of an object's members
abbrev pub members_data : List (Bor (List ℕ) × Value) → Members
members_data ms = put_all no_members (map (λ m. (m.0, value_data m.1)) ms)
