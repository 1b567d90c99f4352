-- Calls that follow steps, one part of them after the other.
use Rattle.std.proofs.Common.{◌≡◌, ◌⊎◌, inl, inr, ◌∙◌, ℕ, ◌-◌, Bool, true, false, not, ◌&&◌, List, [], ◌∷◌, ◌++◌, Option, Some, None, Result, Ok, Err, is_ok, refl, sym, ap, subst, append_assoc, append-nil}
use Rattle.std_io.specs.declared.io.error.Error.{Error}
use Rattle.std_io.specs.declared.io.kind.ErrorKind.{ErrorKind}
use Rattle.std_io.specs.declared.io.kind.ErrorKind.TheVariants.{InvalidInput, Unsupported}
use Rattle.audit_io.specs.Files.{file_name}
use Rattle.audit_io.specs.FileCalls.{Call, Follows, HasDone, HasFolderAfter, HasSavedFile, HasSavedSlot, HasStoredOther, Step, What, called, called_all, error_of, file_steps, folder_steps, found_steps, here, making_steps, names_steps, no_error, no_folder_error, opened, other_steps, step, stored, storing, writing_steps}
use Rattle.audit_io.specs.Looks.{KnowsStored, knows_more}

-- calls added twice are added at once
pub called_twice : (observed : Option (List Call)) (xs ys : List Call) → called_all (called_all observed xs) ys ≡ called_all observed (xs ++ ys)
called_twice None xs ys = refl
called_twice (Some cs) xs ys = ap (λ (l : List Call). Some l) (append_assoc cs xs ys)

-- calls that follow all of some steps, and then calls that follow others
pub follow_then : (a b : List Call) (s t : List Step) (ok : Bool) → Follows a s true → Follows b t ok → Follows (a ++ b) (s ++ t) ok
follow_then [] b [] t ok done rest = rest
follow_then [] b (s ∷ ss) t ok done rest = absurd done
follow_then (c ∷ a) b [] t ok done rest = absurd done
follow_then (c ∷ a) b (s ∷ ss) t ok (same, inl (goes, more)) rest = (same, inl (goes, follow_then a b ss t ok more rest))
follow_then (c ∷ a) b (s ∷ ss) t ok (same, inr (fails, none, ended)) rest = cc

-- calls that follow the first of some steps
pub follow_stop : (a : List Call) (s t : List Step) → Follows a s false → Follows a (s ++ t) false
follow_stop [] [] t stopped = cc
follow_stop [] (s ∷ ss) t stopped = absurd stopped
follow_stop (c ∷ a) [] t stopped = absurd stopped
follow_stop (c ∷ a) (s ∷ ss) t (same, inl (goes, more)) = (same, inl (goes, follow_stop a ss t more))
follow_stop (c ∷ a) (s ∷ ss) t (same, inr fails) = (same, inr fails)

module _ (a b c : Option (List Call)) where
  -- calls after others
  pub together : (xs ys : List Call) → b ≡ called_all a xs → c ≡ called_all b ys → c ≡ called_all a (xs ++ ys)
  together xs ys one two = two ∙ ap (λ (observed : Option (List Call)). called_all observed ys) one ∙ called_twice a xs ys

  pub done_then : (s t : List Step) (ok : Bool) → HasDone a b s true → HasDone b c t ok → HasDone a c (s ++ t) ok
  done_then s t ok one two = record {
    added = one.added ++ two.added;
    calls = together one.added two.added one.calls two.calls;
    follows = follow_then one.added two.added s t ok one.follows two.follows;
  }

pub done_stop : (a b : Option (List Call)) (s t : List Step) → HasDone a b s false → HasDone a b (s ++ t) false
done_stop a b s t one = record { added = one.added; calls = one.calls; follows = follow_stop one.added s t one.follows }

-- nothing was done
pub none_done : (a : Option (List Call)) → HasDone a a [] true
none_done a = record { added = []; calls = sym (called_none a); follows = refl }
  where
    called_none : (observed : Option (List Call)) → called_all observed [] ≡ observed
    called_none None = refl
    called_none (Some cs) = ap (λ (l : List Call). Some l) (append-nil cs)

-- ---- one call

-- the last call went on, or failed, as the answer says
last_call : (goes ok : Bool) → goes ≡ ok → ((goes ≡ true) × Follows [] [] ok) ⊎ ((goes ≡ false) × (◌≡◌ {A = List Call} [] []) × (ok ≡ false))
last_call goes true e = inl (e, refl)
last_call goes false e = inr (e, refl, refl)

-- one call that is due
pub one_done : (a b : Option (List Call)) (what : What) (error : Option ErrorKind) (s : Step) (ok : Bool) → b ≡ called a what error → what ≡ s.what → s.goes_on error ≡ ok
    → HasDone a b (s ∷ []) ok
one_done a b what error s ok is same goes = record { added = record { what = what; error = error } ∷ []; calls = is; follows = (same, last_call (s.goes_on error) ok goes) }

-- a call without an error succeeded
pub ok_error : {A : Type 0} (result : Result A Error) → no_error (error_of result) ≡ is_ok result
ok_error (Ok a) = refl
ok_error (Err e) = refl

-- the wait for a folder, which was opened
pub folder_done : (a b : Option (List Call)) (answer : Result (Unit {0}) Error) (ok : Bool) → b ≡ called_all a (storing here (Ok answer)) → ok ≡ no_folder_error (error_of answer) → HasDone a b folder_steps ok
folder_done a b answer ok is e = record {
  added = storing here (Ok answer);
  calls = is;
  follows = (refl, inl (refl, (refl, last_call (no_folder_error (error_of answer)) ok (sym e))));
}

-- an error that is neither of those of a system that stores no folders
pub folder_error : (kind : ErrorKind) → (kind ≡ Unsupported → ⊥) → (kind ≡ InvalidInput → ⊥) → no_folder_error (Some kind) ≡ false
folder_error Unsupported first second = absurd (first refl)
folder_error InvalidInput first second = absurd (second refl)
folder_error kind first second = refl

-- ---- the folder, and the file

-- a folder that is known to be stored is not waited for
pub names_known : (a : Option (List Call)) (names : Bool) → names ≡ true → HasDone a a (names_steps names) true
names_known a true known = none_done a
names_known a false known = cc

-- any other is
pub names_stored : (a b : Option (List Call)) (names ok : Bool) → names ≡ false → HasDone a b folder_steps ok → HasDone a b (names_steps names) ok
names_stored a b true ok unknown done = cc
names_stored a b false ok unknown done = done

-- a file is made, and then filled and stored
pub file_done : (a b d : Option (List Call)) (names names_now fresh : Bool) (name bytes : List ℕ) (ok : Bool) → HasDone a b (making_steps fresh name) true
    → names_now ≡ (not fresh && names) → HasDone b d (writing_steps bytes ++ names_steps names_now) ok → HasSavedFile names name bytes a d ok
file_done a b d names names_now fresh name bytes ok one is two = (
  fresh,
  done_then a b d (making_steps fresh name) (writing_steps bytes ++ names_steps (not fresh && names)) ok one
      (subst (λ (known : Bool). HasDone b d (writing_steps bytes ++ names_steps known) ok) is two),
)

-- ---- the other slot, and the whole save

pub after_ok : (answer : Result (Unit {0}) Error) (u : Unit {0}) (a b : Option (List Call)) (ok : Bool) → answer ≡ Ok u → HasDone a b folder_steps ok → HasFolderAfter answer a b ok
after_ok answer u a b ok is done = subst (λ (r : Result (Unit {0}) Error). HasFolderAfter r a b ok) (sym is) done

pub after_err : (answer : Result (Unit {0}) Error) (e : Error) (a : Option (List Call)) → answer ≡ Err e → HasFolderAfter answer a a false
after_err answer e a is = subst (λ (r : Result (Unit {0}) Error). HasFolderAfter r a a false) (sym is) (refl, refl)

-- a file that was found is stored, and then the folder
pub found_done : (a b d : Option (List Call)) (name : List ℕ) (answer : Result (Unit {0}) Error) (ok : Bool) → b ≡ called_all a (storing name (Ok answer)) → HasFolderAfter answer b d ok
    → HasStoredOther true name a d ok
found_done a b d name (Ok u) ok is done = (
  false,
  done_then a b d (step (opened name) ∷ step (stored name) ∷ []) folder_steps ok
      (record { added = storing {A = Unit {0}} name (Ok (Ok u)); calls = is; follows = (refl, inl (refl, (refl, inl (refl, refl)))) }) done,
)
found_done a b d name (Err e) ok is (same, failed) = (
  false,
  subst (λ (o : Bool). HasDone a d (found_steps name) o) (sym failed)
      (done_stop a d (step (opened name) ∷ step (stored name) ∷ []) folder_steps
      (record { added = storing {A = Unit {0}} name (Ok (Err e)); calls = same ∙ is; follows = (refl, inl (refl, (refl, inr (refl, refl, refl)))) })),
)

pub other_found : (a b : Option (List Call)) (found : Bool) (name : List ℕ) (ok : Bool) → found ≡ true → HasStoredOther true name a b ok → HasStoredOther found name a b ok
other_found a b found name ok is done = subst (λ (f : Bool). HasStoredOther f name a b ok) (sym is) done

pub other_none : (a : Option (List Call)) (found : Bool) (name : List ℕ) → found ≡ false → HasStoredOther found name a a true
other_none a found name is = subst (λ (f : Bool). HasStoredOther f name a a true) (sym is) (false, none_done a)

-- the other slot was stored, and then the file
pub saved_done : (a b d : Option (List Call)) (found names : Bool) (slot : ℕ) (bytes beside name : List ℕ) (ok : Bool) → beside ≡ file_name (1 - slot) → name ≡ file_name slot
    → HasStoredOther found beside a b true → HasSavedFile names name bytes b d ok → HasSavedSlot found names slot bytes a d ok
saved_done a b d found names slot bytes beside name ok there here_is one two = record {
  gone = one.0;
  fresh = two.0;
  done = done_then a b d (other_steps found one.0 (file_name (1 - slot))) (file_steps names two.0 (file_name slot) bytes) ok
      (subst (λ (n : List ℕ). HasDone a b (other_steps found one.0 n) true) there one.1)
      (subst (λ (n : List ℕ). HasDone b d (file_steps names two.0 n bytes) ok) here_is two.1);
}

-- it was not
pub saved_stop : (a b : Option (List Call)) (found names : Bool) (slot : ℕ) (bytes beside : List ℕ) → beside ≡ file_name (1 - slot)
    → HasStoredOther found beside a b false → HasSavedSlot found names slot bytes a b false
saved_stop a b found names slot bytes beside there one = record {
  gone = one.0;
  fresh = true;
  done = done_stop a b (other_steps found one.0 (file_name (1 - slot))) (file_steps names true (file_name slot) bytes)
      (subst (λ (n : List ℕ). HasDone a b (other_steps found one.0 n) false) there one.1);
}

-- the other slot's file was stored, and then other calls were made
pub knows_stored : (a b d : Option (List Call)) (found was now names ok : Bool) (slot : ℕ) (beside name bytes : List ℕ) → beside ≡ file_name (1 - slot) → HasStoredOther found beside a b true
    → HasSavedFile names name bytes b d ok → KnowsStored a d found slot was now
knows_stored a b d found was now names ok slot beside name bytes there one two = knows_more b two.1.added (subst (λ (n : List ℕ). HasStoredOther found n a b true) there one) two.1.calls
