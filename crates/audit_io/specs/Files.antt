-- The results of opening a file and reading it to its end, and the names of the files.
use Rattle.std.specs.Prelude.{◌≡◌, ℕ, zero, suc, ◌<◌, ◌≤◌, Bool, true, false, List, length, codes, ⊤, Option, IfSome, Result, Ok, Err}
use Rattle.audit_io.specs.declared.keeper.LoadError.{LoadError}
use Rattle.audit_io.specs.declared.keeper.LoadError.TheVariants as load

-- the facts that the answer implies about the reader's bytes, if they are observable, and about the buffer
abbrev pub ReadsWithin : {U : Type 0} → Option (List ℕ) → ℕ → List ℕ → Result U LoadError → Type 0
ReadsWithin bytes limit room (Ok done) = (length room ≤ limit) × IfSome bytes (λ xs. room ≡ xs)
ReadsWithin bytes limit room (Err load.Failed) = ⊤
ReadsWithin bytes limit room (Err load.Taken) = ⊥
ReadsWithin bytes limit room (Err (load.Long n)) = (n ≡ limit) × IfSome bytes (λ xs. limit < length xs)
ReadsWithin bytes limit room (Err load.Memory) = ⊤

-- the answer of a load from an opened file with these bytes, if they are observable: the slot is there, whatever its
-- length
abbrev pub LoadsFile : Option (List ℕ) → ℕ → List ℕ → Result Bool LoadError → Type 0
LoadsFile bytes limit room (Ok true) = (length room ≤ limit) × IfSome bytes (λ xs. room ≡ xs)
LoadsFile bytes limit room (Ok false) = ⊥
LoadsFile bytes limit room (Err load.Failed) = ⊤
LoadsFile bytes limit room (Err load.Taken) = ⊥
LoadsFile bytes limit room (Err (load.Long n)) = (n ≡ limit) × IfSome bytes (λ xs. limit < length xs)
LoadsFile bytes limit room (Err load.Memory) = ⊤

-- the name of a slot's file
abbrev pub file_name : ℕ → List ℕ
file_name zero = codes "audit-0.ckpt"
file_name (suc n) = codes "audit-1.ckpt"
