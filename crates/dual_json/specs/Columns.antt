-- The columns of a node.
use Rattle.std.specs.Prelude.{◌≡◌, ℕ, ◌==◌, ◌&&◌, Bool, not, cond, nat_le, nat_lt, List, [], ◌∷◌, length, Option, Some, None, is_none, unwrap_or, option_map, option_and_then}
use Rattle.std.specs.Option.{option_or}
use Rattle.serde_json.specs.Data.{Data}
use Rattle.serde_json.specs.Find.{get, as_bool, as_number, as_u64}
use Rattle.audit_model.specs.declared.fault.Column.{Column}
use Rattle.audit_model.specs.declared.fault.Column.TheVariants as column
use Rattle.audit_model.specs.declared.fault.GraphFault.{GraphFault}
use Rattle.audit_model.specs.declared.fault.GraphFault.TheVariants as fault
use Rattle.audit_model.specs.declared.rules.Group.{Group}
use Rattle.audit_model.specs.declared.setting.Columns.{Columns}
use Rattle.audit_model.specs.Below.{map_below}
use Rattle.audit_model.specs.First.{first_some, first_some_below}
use Rattle.audit_statement.specs.Reading.{refused_if}
use Rattle.dual_json.specs.Places.{object_at}
use Rattle.audit_model.specs.Limits.{most_people}

-- an integer from 0 to 10 ^ 9
abbrev pub count_from : Data → Option ℕ
count_from d = option_and_then (λ n. cond (nat_le n most_people) (Some n) None) (option_and_then as_u64 (as_number d))

-- the number at a key
abbrev pub count_in : List ℕ → Data → Option ℕ
count_in key d = option_and_then count_from (get key d)

-- the flag of a value: 1 for `true` and for a number above 0; 0 for `false` and for 0
abbrev pub flag_from : Data → Option ℕ
flag_from d = option_or (option_map (λ b. cond b 1 0) (as_bool d)) (option_map (λ n. cond (nat_lt 0 n) 1 0) (count_from d))

-- the flag at a key
abbrev pub flag_in : List ℕ → Data → Option ℕ
flag_in key d = option_and_then flag_from (get key d)

-- a group is named
abbrev pub names_group : Columns → Bool
names_group columns = not (length columns.group == 0)

-- a column of frozen units is named
abbrev pub names_frozen : Columns → Bool
names_frozen columns = not (length columns.frozen == 0)

-- the column of frozen units if a node does not have it, and the column if the node has no valid flag in it
abbrev pub missing_in_frozen : Columns → Data → Option Column
missing_in_frozen columns d = first_some (refused_if (names_frozen columns && is_none (get columns.frozen d)) column.Frozen ∷ [])

abbrev pub bad_in_frozen : Columns → Data → Option Column
bad_in_frozen columns d = first_some (refused_if (names_frozen columns && is_none (flag_in columns.frozen d)) column.Frozen ∷ [])

-- the first column of the group or of frozen units that a node does not have, and the first one without a valid value
abbrev pub missing_in_group : Columns → Data → Option Column
missing_in_group columns d = first_some (
    refused_if (names_group columns && is_none (get columns.group d)) column.Group
    ∷ refused_if (names_group columns && is_none (get columns.whole d)) column.Whole
    ∷ refused_if (names_frozen columns && is_none (get columns.frozen d)) column.Frozen
    ∷ [])

abbrev pub bad_in_group : Columns → Data → Option Column
bad_in_group columns d = first_some (
    refused_if (names_group columns && is_none (count_in columns.group d)) column.Group
    ∷ refused_if (names_group columns && is_none (count_in columns.whole d)) column.Whole
    ∷ refused_if (names_frozen columns && is_none (flag_in columns.frozen d)) column.Frozen
    ∷ [])

-- the first column that a node does not have
abbrev pub missing_in : Columns → Data → Option Column
missing_in columns d = first_some (
    refused_if (is_none (get columns.population d)) column.Population
    ∷ refused_if (is_none (get columns.first d)) column.First
    ∷ refused_if (is_none (get columns.second d)) column.Second
    ∷ refused_if (is_none (get columns.district d)) column.District
    ∷ refused_if (names_group columns && is_none (get columns.group d)) column.Group
    ∷ refused_if (names_group columns && is_none (get columns.whole d)) column.Whole
    ∷ refused_if (names_frozen columns && is_none (get columns.frozen d)) column.Frozen
    ∷ [])

-- the first column of numbers or flags in which a node has no valid value
abbrev pub bad_in : Columns → Data → Option Column
bad_in columns d = first_some (
    refused_if (is_none (count_in columns.population d)) column.Population
    ∷ refused_if (is_none (count_in columns.first d)) column.First
    ∷ refused_if (is_none (count_in columns.second d)) column.Second
    ∷ refused_if (names_group columns && is_none (count_in columns.group d)) column.Group
    ∷ refused_if (names_group columns && is_none (count_in columns.whole d)) column.Whole
    ∷ refused_if (names_frozen columns && is_none (flag_in columns.frozen d)) column.Frozen
    ∷ [])

-- the fault of the first node with a missing column, and that of the first node with an invalid number
abbrev pub missing : Columns → List Data → Option GraphFault
missing columns nodes = first_some_below (length nodes) (λ i. option_map (fault.Missing i) (missing_in columns (object_at nodes i)))

abbrev pub bad : Columns → List Data → Option GraphFault
bad columns nodes = first_some_below (length nodes) (λ i. option_map (fault.BadNumber i) (bad_in columns (object_at nodes i)))

-- the numbers at a key
abbrev pub numbers_in : List ℕ → List Data → List ℕ
numbers_in key nodes = map_below (length nodes) (λ i. unwrap_or (count_in key (object_at nodes i)) 0)

-- the flags at a key, by node
abbrev pub flags_in : List ℕ → List Data → List ℕ
flags_in key nodes = map_below (length nodes) (λ i. unwrap_or (flag_in key (object_at nodes i)) 0)

-- the flags of frozen units, or none if no column of frozen units is named
abbrev pub frozen_in : Columns → List Data → List ℕ
frozen_in columns nodes = cond (names_frozen columns) (flags_in columns.frozen nodes) []

-- the group's numbers at both keys, or none if no group is named
pub record AreOfGroup (columns : Columns) (nodes : List Data) (group : Group) : Type 0 where
  pub members : group.members ≡ cond (names_group columns) (numbers_in columns.group nodes) []
  pub whole : group.whole ≡ cond (names_group columns) (numbers_in columns.whole nodes) []
