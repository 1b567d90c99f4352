-- Districts whose population is outside the bounds.
use Rattle.std.specs.Prelude.{ℕ, ◌&&◌, Bool, not, nat_le, List, slice_index, Option, option_map}
use Rattle.audit_model.specs.declared.fault.PlanFault.{PlanFault}
use Rattle.audit_model.specs.declared.fault.PlanFault.TheVariants.{OutOfBounds}
use Rattle.audit_model.specs.First.{first_below}

-- the population of a district is outside the bounds
abbrev pub is_outside : List ℕ → ℕ → ℕ → ℕ → Bool
is_outside populations low high d = not (nat_le low (slice_index populations d) && nat_le (slice_index populations d) high)

-- the fault of a district
abbrev pub outside : List ℕ → ℕ → ℕ → ℕ → PlanFault
outside populations low high d = OutOfBounds d (slice_index populations d) low high

-- the fault of the least district that is outside the bounds
abbrev pub first_outside : List ℕ → ℕ → ℕ → ℕ → Option PlanFault
first_outside populations districts low high =
    option_map (outside populations low high) (first_below districts (is_outside populations low high))
