-- The looks at slots before they are opened or saved, and what follows from what is found.
-- This project's.
use Rattle.std.specs.Prelude.{◌≡◌, ◌≢◌, ℕ, ◌-◌, Bool, true, false, ◌&&◌, not, nat_eq, List, Option, Some, None, Result, Ok, Err, ⊤}
use Rattle.std.specs.IoError.{error_kind}
use Rattle.std_io.specs.declared.io.error.Error.{Error}
use Rattle.std_io.specs.declared.io.kind.ErrorKind.{ErrorKind}
use Rattle.std_io.specs.declared.io.kind.ErrorKind.TheVariants.{InvalidInput, NotFound}
use Rattle.audit_io.specs.declared.file_calls.FileEntry.{FileEntry}
use Rattle.audit_io.specs.Files.{file_name}
use Rattle.audit_io.specs.FileCalls.{Call, HasSavedSlot, HasStoredOther, called, called_all, looked, looked_at_link, opened}

-- the answer, with the kind of its error alone
abbrev pub kinds : {A : Type 0} → Result A Error → Result A ErrorKind
kinds (Ok a) = Ok a
kinds (Err e) = Err (error_kind e)

-- The calls since are those of a look for a plain file of this name, and they say this. Only a plain file is one, also
-- behind a link. A name is free only if nothing stands in its place, not even a link to nothing.
pub data HasSeen (before after : Option (List Call)) (name : List ℕ) (answer : Result FileEntry ErrorKind) : Type 0 where
  seen_plain : (found : FileEntry) → found.is_plain ≡ true → after ≡ called before (looked name (Some found)) None → answer ≡ Ok found → HasSeen before after name answer
  seen_odd : (found : FileEntry) → found.is_plain ≡ false → after ≡ called before (looked name (Some found)) None → answer ≡ Err InvalidInput → HasSeen before after name answer
  seen_failed : (kind : ErrorKind) → kind ≢ NotFound → after ≡ called before (looked name None) (Some kind) → answer ≡ Err kind → HasSeen before after name answer
  seen_none : (kind : ErrorKind) → after ≡ called (called before (looked name None) (Some NotFound)) (looked_at_link name) (Some kind) → answer ≡ Err NotFound → HasSeen before after name answer
  seen_loose : after ≡ called (called before (looked name None) (Some NotFound)) (looked_at_link name) None → answer ≡ Err InvalidInput → HasSeen before after name answer

-- the call since is a look whether a link to nothing stands in the place of a name that was not found
pub data HasSeenLink (before after : Option (List Call)) (name : List ℕ) (kind : ErrorKind) (answer : Result FileEntry ErrorKind) : Type 0 where
  link_none : (link : ErrorKind) → after ≡ called before (looked_at_link name) (Some link) → answer ≡ Err kind → HasSeenLink before after name kind answer
  link_loose : after ≡ called before (looked_at_link name) None → answer ≡ Err InvalidInput → HasSeenLink before after name kind answer

-- both names stand for one file
abbrev pub are_one : Result FileEntry ErrorKind → Result FileEntry ErrorKind → Bool
are_one (Ok one) (Ok other) = nat_eq one.device other.device && nat_eq one.node other.node
are_one (Ok one) (Err kind) = false
are_one (Err kind) other = false

-- the calls since are looks at both slots, and say whether these are one file
pub record HasCompared (before after : Option (List Call)) (same : Bool) : Type 0 where
  pub between : Option (List Call)
  pub first : Result FileEntry ErrorKind
  pub second : Result FileEntry ErrorKind
  pub one : HasSeen before between (file_name 0) first
  pub two : HasSeen between after (file_name 1) second
  pub is : same ≡ are_one first second

-- The calls since open the plain file of this name, and end with this error. Anything else is not opened.
pub data HasOpened (before after : Option (List Call)) (name : List ℕ) (error : Option ErrorKind) : Type 0 where
  open_refused : (kind : ErrorKind) → HasSeen before after name (Err kind) → error ≡ Some kind → HasOpened before after name error
  open_attempted : (between : Option (List Call)) (found : FileEntry) → HasSeen before between name (Ok found) → after ≡ called between (opened name) error → HasOpened before after name error

-- the calls since open the file of a slot, unless both slots are one file
pub data HasOpenedSlot (before after : Option (List Call)) (slot : ℕ) (error : Option ErrorKind) : Type 0 where
  slots_are_one : HasCompared before after true → error ≡ Some InvalidInput → HasOpenedSlot before after slot error
  slots_apart : (between : Option (List Call)) → HasCompared before between false → HasOpened between after (file_name slot) error → HasOpenedSlot before after slot error

-- a file may be written here: a plain file is here, or nothing
abbrev pub MayStand : Result FileEntry ErrorKind → Type 0
MayStand (Ok found) = ⊤
MayStand (Err kind) = kind ≡ NotFound

-- the calls since are the looks that say whether the file of a slot may be written
pub data HasCheckedPlace (before after : Option (List Call)) (slot : ℕ) (ok : Bool) : Type 0 where
  place_refused : (kind : ErrorKind) → kind ≢ NotFound → HasSeen before after (file_name slot) (Err kind) → ok ≡ false → HasCheckedPlace before after slot ok
  place_compared : (between : Option (List Call)) (seen : Result FileEntry ErrorKind) (same : Bool) → HasSeen before between (file_name slot) seen → MayStand seen → HasCompared between after same → ok ≡ not same
      → HasCheckedPlace before after slot ok

-- The calls since look whether a slot's file is there that has to be stored first: none if it is known to be stored.
-- There is no answer where the look fails.
pub data HasLookedFor (before after : Option (List Call)) (is_stored : Bool) (slot : ℕ) (answer : Option Bool) : Type 0 where
  look_known : is_stored ≡ true → after ≡ before → answer ≡ Some false → HasLookedFor before after is_stored slot answer
  look_found : (file : FileEntry) → is_stored ≡ false → HasSeen before after (file_name slot) (Ok file) → answer ≡ Some true → HasLookedFor before after is_stored slot answer
  look_none : is_stored ≡ false → HasSeen before after (file_name slot) (Err NotFound) → answer ≡ Some false → HasLookedFor before after is_stored slot answer
  look_failed : (kind : ErrorKind) → kind ≢ NotFound → is_stored ≡ false → HasSeen before after (file_name slot) (Err kind) → answer ≡ None → HasLookedFor before after is_stored slot answer

-- The other slot's file is known to be stored if it was before, or if the calls since begin with those that store it
-- where it was found.
pub data KnowsStored (before after : Option (List Call)) (found : Bool) (slot : ℕ) (was now : Bool) : Type 0 where
  knows_same : now ≡ was → KnowsStored before after found slot was now
  knows_more : (between : Option (List Call)) (more : List Call) → HasStoredOther found (file_name (1 - slot)) before between true → after ≡ called_all between more → KnowsStored before after found slot was now

-- The calls since are those of a save of these bytes to this slot. Nothing is written where its place is not free for a
-- plain file. Unless the other slot's file is known to be stored, it is looked for and, where it is there, stored
-- first; nothing is written where that fails. `was` and `now` say whether it is known to be stored before and after.
pub data HasSaved (before after : Option (List Call)) (was now names : Bool) (slot : ℕ) (bytes : List ℕ) (ok : Bool) : Type 0 where
  save_no_place : HasCheckedPlace before after slot false → now ≡ was → ok ≡ false → HasSaved before after was now names slot bytes ok
  save_no_look : (free : Option (List Call)) → HasCheckedPlace before free slot true → HasLookedFor free after was (1 - slot) None → now ≡ was → ok ≡ false → HasSaved before after was now names slot bytes ok
  save_done : (free seen : Option (List Call)) (found : Bool) → HasCheckedPlace before free slot true → HasLookedFor free seen was (1 - slot) (Some found) → KnowsStored seen after found slot was now
      → HasSavedSlot found names slot bytes seen after ok → HasSaved before after was now names slot bytes ok
