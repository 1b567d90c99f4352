-- The calls of the keepers over files: what they ask of the file system, in turn, and what their answers are.
-- This project's.
use Rattle.std.specs.Prelude.{◌≡◌, ◌≢◌, ℕ, Bool, true, false, List, ◌++◌, codes, Option, None, Result, Ok, Err}
use Rattle.std.specs.IoError.{error_kind}
use Rattle.std_io.specs.declared.io.error.Error.{Error}
use Rattle.std_io.specs.declared.io.kind.ErrorKind.{ErrorKind}
use Rattle.std_io.specs.declared.io.kind.ErrorKind.TheVariants.{NotFound, OutOfMemory}
use Rattle.audit_io.specs.declared.keeper.LoadError.{LoadError}
use Rattle.audit_io.specs.declared.keeper.LoadError.TheVariants as load
use Rattle.audit_io.specs.declared.folder_lock.LockError.{LockError}
use Rattle.audit_io.specs.declared.folder_lock.LockError.TheVariants as lock
use Rattle.audit_io.specs.declared.file_calls.FileEntry.{FileEntry}
use Rattle.audit_io.specs.Files.{LoadsFile, file_name}
use Rattle.audit_io.specs.FileCalls.{Call, answered, called, error_of, here, locked, looked}
use Rattle.audit_io.specs.Looks.{HasOpened, HasOpenedSlot, HasSaved, are_one, kinds}

-- what the kind of an error is for a load: only that there is no such file makes the slot absent
pub data LoadsError (kind : ErrorKind) (result : Result Bool LoadError) : Type 0 where
  error_absent : kind ≡ NotFound → result ≡ Ok false → LoadsError kind result
  error_memory : kind ≡ OutOfMemory → result ≡ Err load.Memory → LoadsError kind result
  error_failed : kind ≢ NotFound → kind ≢ OutOfMemory → result ≡ Err load.Failed → LoadsError kind result

-- the answer of a load, by that of opening the file, whose bytes are these where they are observable
abbrev pub LoadsOpened : {F : Type 0} → (F → Option (List ℕ)) → ℕ → List ℕ → Result Bool LoadError → Result F Error → Type 0
LoadsOpened bytes limit room result (Ok file) = LoadsFile (bytes file) limit room result
LoadsOpened bytes limit room result (Err e) = LoadsError (error_kind e) result

-- the error of a load whose folder could not be locked
abbrev pub load_error_of : LockError → LoadError
load_error_of lock.Taken = load.Taken
load_error_of lock.Failed = load.Failed

-- The calls since take the lock of the working folder, unless this was done before. `had` and `has` say whether the
-- keeper holds a lock before and after: exactly if the call gave one.
pub data HasTakenFolder (before after : Option (List Call)) (is_own had has : Bool) (result : Result (Unit {0}) LockError) : Type 0 where
  folder_own : is_own ≡ true → after ≡ before → has ≡ had → result ≡ Ok tt → HasTakenFolder before after is_own had has result
  folder_locked : is_own ≡ false → after ≡ called before (locked here (Ok has)) None → result ≡ Ok tt → HasTakenFolder before after is_own had has result
  folder_refused : (why : LockError) → is_own ≡ false → after ≡ called before (locked here (Err why)) None → has ≡ had → result ≡ Err why → HasTakenFolder before after is_own had has result

-- the calls since are those of a load: nothing is looked at or opened before the lock is taken, or if it cannot be taken
pub data HasLoadedSlot {F : Type 0} (before after : Option (List Call)) (is_own had has : Bool) (slot : ℕ) (bytes : F → Option (List ℕ)) (limit : ℕ) (room : List ℕ) (result : Result Bool LoadError) : Type 0 where
  load_unlocked : (why : LockError) → HasTakenFolder before after is_own had has (Err why) → result ≡ Err (load_error_of why) → HasLoadedSlot before after is_own had has slot bytes limit room result
  load_done : (between : Option (List Call)) (opened : Result F Error) → HasTakenFolder before between is_own had has (Ok tt) → HasOpenedSlot between after slot (error_of opened) → LoadsOpened bytes limit room result opened
      → HasLoadedSlot before after is_own had has slot bytes limit room result

-- the calls since are those of a save: nothing is looked at or written before the lock is taken, or if it cannot be taken
pub data HasKept (before after : Option (List Call)) (is_own had has was now names : Bool) (slot : ℕ) (bytes : List ℕ) (ok : Bool) : Type 0 where
  keep_unlocked : (why : LockError) → HasTakenFolder before after is_own had has (Err why) → now ≡ was → ok ≡ false → HasKept before after is_own had has was now names slot bytes ok
  keep_done : (between : Option (List Call)) → HasTakenFolder before between is_own had has (Ok tt) → HasSaved between after was now names slot bytes ok → HasKept before after is_own had has was now names slot bytes ok

-- ---- the slots of another folder

-- the name of a file in a folder
abbrev pub within : List ℕ → List ℕ → List ℕ
within folder name = folder ++ codes "/" ++ name

-- the calls since look at a folder and at the working folder, and say whether they are one
pub record HasComparedHere (before after : Option (List Call)) (folder : List ℕ) (same : Bool) : Type 0 where
  pub one : Result FileEntry Error
  pub other : Result FileEntry Error
  pub calls : after ≡ called (called before (looked folder (answered one)) (error_of one)) (looked here (answered other)) (error_of other)
  pub is : same ≡ are_one (kinds one) (kinds other)

-- the calls since open a slot's file in a folder and read it, unless there is no memory for its name
pub data HasReadSlot {F : Type 0} (before after : Option (List Call)) (folder : List ℕ) (slot : ℕ) (bytes : F → Option (List ℕ)) (limit : ℕ) (room : List ℕ) (result : Result Bool LoadError) : Type 0 where
  read_memory : after ≡ before → result ≡ Err load.Memory → HasReadSlot before after folder slot bytes limit room result
  read_opened : (answer : Result F Error) → HasOpened before after (within folder (file_name slot)) (error_of answer) → LoadsOpened bytes limit room result answer → HasReadSlot before after folder slot bytes limit room result

-- the calls since lock a folder and then read a slot, unless it cannot be locked, or there is no memory for its name
pub data HasReadLocked {F : Type 0} (before after : Option (List Call)) (folder : List ℕ) (slot : ℕ) (bytes : F → Option (List ℕ)) (limit : ℕ) (room : List ℕ) (result : Result Bool LoadError) : Type 0 where
  lock_memory : after ≡ before → result ≡ Err load.Memory → HasReadLocked before after folder slot bytes limit room result
  lock_failed : (why : LockError) → after ≡ called before (locked (within folder here) (Err why)) None → result ≡ Err (load_error_of why) → HasReadLocked before after folder slot bytes limit room result
  lock_asked : (found : Bool) → HasReadSlot (called before (locked (within folder here) (Ok found)) None) after folder slot bytes limit room result → HasReadLocked before after folder slot bytes limit room result

-- The calls since read a slot of a folder. Where locks are asked for, that of any folder but the working one is taken
-- first.
pub data HasReadFolder {F : Type 0} (before after : Option (List Call)) (locks : Bool) (folder : List ℕ) (slot : ℕ) (bytes : F → Option (List ℕ)) (limit : ℕ) (room : List ℕ) (result : Result Bool LoadError) : Type 0 where
  folder_unlocked : locks ≡ false → HasReadSlot before after folder slot bytes limit room result → HasReadFolder before after locks folder slot bytes limit room result
  folder_working : (between : Option (List Call)) → locks ≡ true → HasComparedHere before between folder true → HasReadSlot between after folder slot bytes limit room result → HasReadFolder before after locks folder slot bytes limit room result
  folder_other : (between : Option (List Call)) → locks ≡ true → HasComparedHere before between folder false → HasReadLocked between after folder slot bytes limit room result → HasReadFolder before after locks folder slot bytes limit room result
