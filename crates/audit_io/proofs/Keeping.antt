-- The calls of the keepers over files, one after the other.
use Rattle.std.proofs.Common.{◌≡◌, ◌∙◌, ℕ, Bool, true, false, List, Option, None, Result, Ok, Err, sym, ap, subst}
use Rattle.std_io.specs.declared.io.error.Error.{Error}
use Rattle.audit_io.specs.declared.folder_lock.LockError.{LockError}
use Rattle.audit_io.specs.declared.keeper.LoadError.{LoadError}
use Rattle.audit_io.specs.Files.{file_name}
use Rattle.audit_io.specs.FileCalls.{Call, called, error_of, here, locked}
use Rattle.audit_io.specs.Looks.{HasOpened, HasSaved}
use Rattle.audit_io.specs.Keepers.{HasComparedHere, HasKept, HasLoadedSlot, HasReadFolder, HasReadLocked, HasReadSlot, HasTakenFolder, LoadsOpened, folder_other, folder_working, keep_done, load_error_of, lock_asked, lock_failed, read_opened, within}

-- a slot of a folder is opened under its name
pub read_path : {F : Type 0} (a b : Option (List Call)) (folder name : List ℕ) (slot : ℕ) (bytes : F → Option (List ℕ)) (limit : ℕ) (room : List ℕ) (result : Result Bool LoadError) (answer : Result F Error)
    → HasOpened a b name (error_of answer) → LoadsOpened bytes limit room result answer → name ≡ within folder (file_name slot) → HasReadSlot a b folder slot bytes limit room result
read_path a b folder name slot bytes limit room result answer done loads named = read_opened answer (subst (λ (n : List ℕ). HasOpened a b n (error_of answer)) named done) loads

-- the folder is the working one, or another
pub working : {F : Type 0} (a b d : Option (List Call)) (locks same : Bool) (folder : List ℕ) (slot : ℕ) (bytes : F → Option (List ℕ)) (limit : ℕ) (room : List ℕ) (result : Result Bool LoadError)
    → locks ≡ true → same ≡ true → HasComparedHere a b folder same → HasReadSlot b d folder slot bytes limit room result → HasReadFolder a d locks folder slot bytes limit room result
working a b d locks same folder slot bytes limit room result asks is seen done = folder_working b asks (subst (λ (s : Bool). HasComparedHere a b folder s) is seen) done

pub another : {F : Type 0} (a b d : Option (List Call)) (locks same : Bool) (folder : List ℕ) (slot : ℕ) (bytes : F → Option (List ℕ)) (limit : ℕ) (room : List ℕ) (result : Result Bool LoadError)
    → locks ≡ true → same ≡ false → HasComparedHere a b folder same → HasReadLocked b d folder slot bytes limit room result → HasReadFolder a d locks folder slot bytes limit room result
another a b d locks same folder slot bytes limit room result asks is seen done = folder_other b asks (subst (λ (s : Bool). HasComparedHere a b folder s) is seen) done

-- the lock was asked for under the folder's path
pub locked_asked : {F : Type 0} (a b d : Option (List Call)) (folder path : List ℕ) (found : Bool) (slot : ℕ) (bytes : F → Option (List ℕ)) (limit : ℕ) (room : List ℕ) (result : Result Bool LoadError)
    → path ≡ within folder here → b ≡ called a (locked path (Ok found)) None → HasReadSlot b d folder slot bytes limit room result → HasReadLocked a d folder slot bytes limit room result
locked_asked a b d folder path found slot bytes limit room result named after done =
    lock_asked found (subst (λ (o : Option (List Call)). HasReadSlot o d folder slot bytes limit room result) (after ∙ ap (λ (n : List ℕ). called a (locked n (Ok found)) None) named) done)

-- the lock was asked for under the folder's path, and not given
pub locked_failed : {F : Type 0} (a b : Option (List Call)) (folder path : List ℕ) (why : LockError) (error : LoadError) (slot : ℕ) (bytes : F → Option (List ℕ)) (limit : ℕ) (room : List ℕ) (result : Result Bool LoadError)
    → path ≡ within folder here → b ≡ called a (locked path (Err why)) None → result ≡ Err error → error ≡ load_error_of why → HasReadLocked a b folder slot bytes limit room result
locked_failed a b folder path why error slot bytes limit room result named after is same =
    lock_failed why (after ∙ ap (λ (n : List ℕ). called a (locked n (Err why)) None) named) (subst (λ (e : LoadError). result ≡ Err e) same is)

-- equal answers
pub loaded_same : {F : Type 0} (a b : Option (List Call)) (is_own had has : Bool) (slot : ℕ) (bytes : F → Option (List ℕ)) (limit : ℕ) (room : List ℕ) (r s : Result Bool LoadError) → s ≡ r
    → HasLoadedSlot a b is_own had has slot bytes limit room r → HasLoadedSlot a b is_own had has slot bytes limit room s
loaded_same a b is_own had has slot bytes limit room r s same done = subst (λ (x : Result Bool LoadError). HasLoadedSlot a b is_own had has slot bytes limit room x) (sym same) done

pub read_same : {F : Type 0} (a b : Option (List Call)) (locks : Bool) (folder : List ℕ) (slot : ℕ) (bytes : F → Option (List ℕ)) (limit : ℕ) (room : List ℕ) (r s : Result Bool LoadError) → s ≡ r
    → HasReadFolder a b locks folder slot bytes limit room r → HasReadFolder a b locks folder slot bytes limit room s
read_same a b locks folder slot bytes limit room r s same done = subst (λ (x : Result Bool LoadError). HasReadFolder a b locks folder slot bytes limit room x) (sym same) done

pub kept : (a b d : Option (List Call)) (is_own had has was now names : Bool) (slot : ℕ) (bytes : List ℕ) (r ok : Bool) → ok ≡ r → HasTakenFolder a b is_own had has (Ok tt) → HasSaved b d was now names slot bytes r
    → HasKept a d is_own had has was now names slot bytes ok
kept a b d is_own had has was now names slot bytes r ok same taken done = keep_done b taken (subst (λ (x : Bool). HasSaved b d was now names slot bytes x) (sym same) done)
