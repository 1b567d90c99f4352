-- The calls on files that store a file, in their order, and which of them may fail.
-- This project's.
use Rattle.std.specs.Prelude.{◌≡◌, ◌⊎◌, ℕ, ◌-◌, Bool, true, false, ◌&&◌, not, List, [], ◌∷◌, ◌++◌, codes, Option, Some, None, is_some, option_map, pos, Result, Ok, Err}
use Rattle.std.specs.IoError.{error_kind, raw_os_error}
use Rattle.std.specs.declared.fs.TryLockError.{TryLockError}
use Rattle.std.specs.declared.fs.TryLockError.TheVariants as attempt
use Rattle.std_io.specs.declared.io.error.Error.{Error}
use Rattle.std_io.specs.declared.io.kind.ErrorKind.{ErrorKind}
use Rattle.std_io.specs.declared.io.kind.ErrorKind.TheVariants.{AlreadyExists, InvalidInput, NotFound, Unsupported}
use Rattle.audit_io.specs.declared.file_calls.FileEntry.{FileEntry}
use Rattle.audit_io.specs.declared.folder_lock.LockError.{LockError}
use Rattle.audit_io.specs.Files.{file_name}

-- a call on files: to look at what stands in the place of a name, and what was found there; to look there, also if it
-- is a link to nothing; to lock a folder, and whether this gave a lock, or which error; to open a file of this name to
-- read it; to wait until that file is stored; to make a file of this name where there is none; to open the one that is
-- there, and empty it; to write all these bytes to the file that was made or emptied last; and to wait until that file
-- is stored
pub data What : Type 0 where
  looked : List ℕ → Option FileEntry → What
  looked_at_link : List ℕ → What
  locked : List ℕ → Result Bool LockError → What
  opened : List ℕ → What
  stored : List ℕ → What
  made : List ℕ → What
  emptied : List ℕ → What
  wrote : List ℕ → What
  stored_made : What

-- a call, and the kind of its error where it failed
pub record Call : Type 0 where
  pub what : What
  pub error : Option ErrorKind

-- the kind of the error, where there is one
abbrev pub error_of : {A : Type 0} → Result A Error → Option ErrorKind
error_of (Ok a) = None
error_of (Err e) = Some (error_kind e)

-- the answer, where there is one
abbrev pub answered : {A : Type 0} → Result A Error → Option A
answered (Ok a) = Some a
answered (Err e) = None

-- the attempt to lock a folder gave a lock, or found that the system has none, or failed
abbrev pub lock_answer : {A : Type 0} → Result (Option A) LockError → Result Bool LockError
lock_answer (Ok lock) = Ok (is_some lock)
lock_answer (Err why) = Err why

-- the error says that the system has no such lock: it is of this kind, as EOPNOTSUPP and ENOSYS are, or has the number
-- of ENOLCK
abbrev pub MeansNoLocks : TryLockError → Type 0
MeansNoLocks attempt.WouldBlock = ⊥
MeansNoLocks (attempt.Error e) = (error_kind e ≡ Unsupported) ⊎ (raw_os_error e ≡ Some (pos 37))

-- the calls with more at the end, where they are known
abbrev pub called_all : Option (List Call) → List Call → Option (List Call)
called_all observed more = option_map (λ calls. calls ++ more) observed

-- the calls with one more
abbrev pub called : Option (List Call) → What → Option ErrorKind → Option (List Call)
called observed what error = called_all observed (record { what = what; error = error } ∷ [])

-- the calls of a wait for the file of a name: the file is opened, and where that succeeds the wait is made
abbrev pub storing : {A : Type 0} → List ℕ → Result (Result A Error) Error → List Call
storing name (Err e) = record { what = opened name; error = Some (error_kind e) } ∷ []
storing name (Ok result) = record { what = opened name; error = None } ∷ record { what = stored name; error = error_of result } ∷ []

-- a call that is due, and after which errors the rest goes on
pub record Step : Type 0 where
  pub what : What
  pub goes_on : Option ErrorKind → Bool

-- after no error
abbrev pub no_error : Option ErrorKind → Bool
no_error None = true
no_error (Some kind) = false

-- after the error that the file is there
abbrev pub is_there : Option ErrorKind → Bool
is_there (Some AlreadyExists) = true
is_there error = false

-- after no error, and after those by which a system says that it stores no folders
abbrev pub no_folder_error : Option ErrorKind → Bool
no_folder_error None = true
no_folder_error (Some Unsupported) = true
no_folder_error (Some InvalidInput) = true
no_folder_error error = false

-- after the error that there is no such file
abbrev pub is_not_found : Option ErrorKind → Bool
is_not_found (Some NotFound) = true
is_not_found error = false

-- a call that has to succeed
abbrev pub step : What → Step
step what = record { what = what; goes_on = no_error }

-- these calls are the steps one after the other: all of them, and then the answer is true; or the first ones, of which
-- the last failed, and then the answer is false
abbrev pub Follows : List Call → List Step → Bool → Type 0
Follows [] [] ok = ok ≡ true
Follows [] (s ∷ steps) ok = ⊥
Follows (c ∷ calls) [] ok = ⊥
Follows (c ∷ calls) (s ∷ steps) ok =
    (c.what ≡ s.what) × (((s.goes_on c.error ≡ true) × Follows calls steps ok) ⊎ ((s.goes_on c.error ≡ false) × (calls ≡ []) × (ok ≡ false)))

-- the calls since follow the steps
pub record HasDone (before after : Option (List Call)) (steps : List Step) (ok : Bool) : Type 0 where
  pub added : List Call
  pub calls : after ≡ called_all before added
  pub follows : Follows added steps ok

-- the name of the working folder
abbrev pub here : List ℕ
here = codes "."

-- to store the folder with the names in it
abbrev pub folder_steps : List Step
folder_steps = step (opened here) ∷ record { what = stored here; goes_on = no_folder_error } ∷ []

-- to make a file of this name, or, where there is one, to empty it
abbrev pub making_steps : Bool → List ℕ → List Step
making_steps true name = step (made name) ∷ []
making_steps false name = record { what = made name; goes_on = is_there } ∷ step (emptied name) ∷ []

-- to write the bytes and store them
abbrev pub writing_steps : List ℕ → List Step
writing_steps bytes = step (wrote bytes) ∷ step stored_made ∷ []

-- to store the folder, unless it is known to be stored with all names
abbrev pub names_steps : Bool → List Step
names_steps true = []
names_steps false = folder_steps

-- to make the file hold these bytes, to store it, and to store the folder, unless it is known to be stored with all
-- names and got none
abbrev pub file_steps : Bool → Bool → List ℕ → List ℕ → List Step
file_steps names fresh name bytes = making_steps fresh name ++ (writing_steps bytes ++ names_steps (not fresh && names))

-- the calls since make a file of this name, or empty the one that is there, as the answer says
abbrev pub HasMade : {F : Type 0} → List ℕ → Option (List Call) → Option (List Call) → Result (F × Bool) Error → Type 0
HasMade name before after (Ok answer) = HasDone before after (making_steps answer.1 name) true
HasMade name before after (Err e) = (fresh : Bool) × HasDone before after (making_steps fresh name) false

-- the calls since make the file of this name hold these bytes, and store it; `names` says whether the folder was known
-- to be stored with all names
abbrev pub HasSavedFile : Bool → List ℕ → List ℕ → Option (List Call) → Option (List Call) → Bool → Type 0
HasSavedFile names name bytes before after ok = (fresh : Bool) × HasDone before after (file_steps names fresh name bytes) ok

-- after a wait for a file, the folder is stored too, where the wait succeeded
abbrev pub HasFolderAfter : Result (Unit {0}) Error → Option (List Call) → Option (List Call) → Bool → Type 0
HasFolderAfter (Ok done) before after ok = HasDone before after folder_steps ok
HasFolderAfter (Err e) before after ok = (after ≡ before) × (ok ≡ false)

-- to store a file that was found, and the folder with its name
abbrev pub found_steps : List ℕ → List Step
found_steps name = step (opened name) ∷ step (stored name) ∷ folder_steps

-- to do so for a file that was found, and that may be gone by now
abbrev pub other_steps : Bool → Bool → List ℕ → List Step
other_steps false gone name = []
other_steps true false name = found_steps name
other_steps true true name = record { what = opened name; goes_on = is_not_found } ∷ []

-- the calls since store the file of this name, where it was found
abbrev pub HasStoredOther : Bool → List ℕ → Option (List Call) → Option (List Call) → Bool → Type 0
HasStoredOther found name before after ok = (gone : Bool) × HasDone before after (other_steps found gone name) ok

-- The calls since are those of a save of these bytes to this slot, or the first of them. Where the other slot's file
-- was found, it is stored first, unless it is gone. Then the slot's file is made, or emptied; all bytes are written to
-- it; it is stored; and so is the folder, where it is not known to be. The answer is true exactly where all was done.
pub record HasSavedSlot (found names : Bool) (slot : ℕ) (bytes : List ℕ) (before after : Option (List Call)) (ok : Bool) : Type 0 where
  pub gone : Bool
  pub fresh : Bool
  pub done : HasDone before after (other_steps found gone (file_name (1 - slot)) ++ file_steps names fresh (file_name slot) bytes) ok
