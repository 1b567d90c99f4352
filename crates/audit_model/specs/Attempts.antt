-- Save attempts, if a keeper is observable.
use Rattle.std.specs.Prelude.{ℕ, Bool, List, [], ◌∷◌, ◌++◌, Option, Some, None}

-- a save attempt: its slot, its bytes, and its success
pub record Try : Type 0 where
  pub slot : ℕ
  pub bytes : List ℕ
  pub succeeded : Bool

-- the save attempt with these parts
abbrev pub try_of : ℕ → List ℕ → Bool → Try
try_of slot bytes succeeded = record { slot = slot; bytes = bytes; succeeded = succeeded }

-- one more save attempt
abbrev pub attempted_too : Option (List Try) → ℕ → List ℕ → Bool → Option (List Try)
attempted_too None slot bytes succeeded = None
attempted_too (Some attempts) slot bytes succeeded = Some (attempts ++ try_of slot bytes succeeded ∷ [])

-- more save attempts, in order
abbrev pub attempted_all : Option (List Try) → List Try → Option (List Try)
attempted_all observed [] = observed
attempted_all observed (t ∷ attempts) = attempted_all (attempted_too observed t.slot t.bytes t.succeeded) attempts
