-- The two slots of a keeper, if it is observable, and the effect of a load and a save.
use Rattle.std.specs.Prelude.{◌≡◌, ℕ, zero, suc, Bool, true, false, List, Option, Some, None}
use Rattle.audit_model.specs.Observed.{IfObserved, IfBothObserved}

-- a slot is absent, or a list of bytes
abbrev pub Stored : Type 0
Stored = Option (List ℕ)

-- both slots
pub record Pair : Type 0 where
  pub zero_slot : Stored
  pub one_slot : Stored

-- the slot with this number
abbrev pub stored : Pair → ℕ → Stored
stored p zero = p.zero_slot
stored p (suc n) = p.one_slot

-- the other slot
abbrev pub other_stored : Pair → ℕ → Stored
other_stored p zero = p.one_slot
other_stored p (suc n) = p.zero_slot

-- whatever a save returns, the other slot is unchanged
abbrev pub KeepsOther : Option Pair → Option Pair → ℕ → Type 0
KeepsOther old new slot = IfBothObserved old new (λ p q. other_stored q slot ≡ other_stored p slot)

-- the slot holds exactly these bytes
abbrev pub HoldsBytes : Option Pair → ℕ → List ℕ → Type 0
HoldsBytes slots slot bytes = IfObserved slots (λ q. stored q slot ≡ Some bytes)

-- the bytes, if the slot is present
abbrev pub stored_if : Bool → List ℕ → Stored
stored_if true bytes = Some bytes
stored_if false bytes = None
