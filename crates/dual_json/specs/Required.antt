-- The fields that every adjacency entry must have.
use Rattle.std.specs.Prelude.{ℕ, Bool}
use Rattle.serde_json.specs.Data.{Data}
use Rattle.audit_model.specs.declared.fault.GraphFault.{GraphFault}
use Rattle.audit_model.specs.declared.fault.GraphFault.TheVariants as fault
use Rattle.dual_json.specs.Edges.{is_unnamed}
use Rattle.dual_json.specs.Lengths.{has_no_value, has_no_length}
use Rattle.dual_json.specs.declared.required.Required.{Required}
use Rattle.dual_json.specs.declared.required.Required.TheVariants.{Id, Value, Length}

-- an entry does not have it
abbrev pub is_missing : Required → Data → Bool
is_missing Id = is_unnamed
is_missing (Value key) = has_no_value key.now
is_missing (Length key) = has_no_length key.now

-- the fault of such an entry
abbrev pub missing_fault : Required → ℕ → ℕ → GraphFault
missing_fault Id = fault.BadNeighbour
missing_fault (Value key) = fault.MissingLength
missing_fault (Length key) = fault.BadLength
