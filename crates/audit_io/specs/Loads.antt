-- The facts that a load's answer implies.
use Rattle.std.specs.Prelude.{◌≡◌, ℕ, ◌<◌, ◌≤◌, Bool, true, false, List, [], length, ⊤, Some, None, Result, Ok, Err}
use Rattle.audit_io.specs.declared.keeper.LoadError.{LoadError}
use Rattle.audit_io.specs.declared.keeper.LoadError.TheVariants as load
use Rattle.audit_model.specs.Faults.{Counts, Rose}
use Rattle.audit_model.specs.Pair.{Stored}
use Rattle.audit_model.specs.State.{LoadFaults}

-- the facts that a load's answer implies about the slot and the buffer
abbrev pub Loads : Stored → ℕ → List ℕ → Result Bool LoadError → Type 0
Loads slot limit room (Ok true) = slot ≡ Some room
Loads slot limit room (Ok false) = slot ≡ None
Loads slot limit room (Err load.Failed) = ⊤
Loads slot limit room (Err load.Taken) = ⊤
Loads slot limit room (Err (load.Long n)) = (bytes : List ℕ) × (slot ≡ Some bytes) × (limit < length bytes)
Loads slot limit room (Err load.Memory) = ⊤

-- the facts that a load's answer implies if the slots are not observable: the buffer was cleared, and only a slot's
-- bytes were put there
abbrev pub LoadsWithin : ℕ → List ℕ → Result Bool LoadError → Type 0
LoadsWithin limit room (Ok true) = length room ≤ limit
LoadsWithin limit room (Ok false) = room ≡ []
LoadsWithin limit room (Err load.Failed) = room ≡ []
LoadsWithin limit room (Err load.Taken) = room ≡ []
LoadsWithin limit room (Err (load.Long n)) = (n ≡ limit) × (room ≡ [])
LoadsWithin limit room (Err load.Memory) = room ≡ []

-- the answer is no fault
abbrev pub IsFaultless : Result Bool LoadError → Type 0
IsFaultless (Ok found) = ⊤
IsFaultless (Err load.Failed) = ⊥
IsFaultless (Err load.Taken) = ⊥
IsFaultless (Err (load.Long n)) = ⊤
IsFaultless (Err load.Memory) = ⊤

-- the effect of a load's answer on its counts
abbrev pub LoadCause : LoadFaults → LoadFaults → Result Bool LoadError → Type 0
LoadCause before now (Ok found) = now ≡ before
LoadCause before now (Err load.Failed) = Rose before.all now.all × (now.taken ≡ before.taken)
LoadCause before now (Err load.Taken) = Rose before.all now.all × Rose before.taken now.taken
LoadCause before now (Err (load.Long limit)) = now ≡ before
LoadCause before now (Err load.Memory) = now ≡ before

-- the load failed only if the count rose, and because of a lock exactly if it says so. Any other answer leaves both
-- counts unchanged.
pub record HasLoadCause (before now : LoadFaults) (result : Result Bool LoadError) : Type 0 where
  pub counts : Counts before.all now.all
  pub taken_count : Counts before.taken now.taken
  pub cause : LoadCause before now result
