-- Two units that show that a set is not connected.
use Rattle.std.specs.Prelude.{ℕ, ◌&&◌, Bool, not, cond, Option, Some, None, unwrap_or}
use Rattle.audit_model.specs.First.{first_below}
use Rattle.audit_model.specs.Graph.{Graph, has}
use Rattle.audit_model.specs.Path.{is_connected, reached}

-- the least unit of the set, or 0 if the set is empty
abbrev pub least_in : Graph → (ℕ → Bool) → ℕ
least_in g inside = unwrap_or (first_below g.units inside) 0

-- the least unit of the set that no path within the set connects to its least unit, or 0 if there is none
abbrev pub disconnected_unit_in : Graph → (ℕ → Bool) → ℕ
disconnected_unit_in g inside = unwrap_or (first_below g.units (λ u. inside u && not (has (reached g inside (least_in g inside)) u))) 0

-- the two units, if the set is not connected
abbrev pub disconnected_pair_of : Graph → (ℕ → Bool) → Option (ℕ × ℕ)
disconnected_pair_of g inside = cond (is_connected g inside) None (Some (least_in g inside, disconnected_unit_in g inside))
