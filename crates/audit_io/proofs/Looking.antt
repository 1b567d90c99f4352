-- The looks at slots, one after the other.
use Rattle.std.proofs.Common.{◌≡◌, ◌≢◌, ◌∙◌, ℕ, Bool, true, false, not, List, Option, Some, None, Result, Ok, Err, is_err, is_ok, refl, sym, ap, subst}
use Rattle.std_io.specs.declared.io.error.Error.{Error}
use Rattle.std_io.specs.declared.io.kind.ErrorKind.{ErrorKind}
use Rattle.std_io.specs.declared.io.kind.ErrorKind.TheVariants.{InvalidInput, NotFound}
use Rattle.audit_io.specs.declared.file_calls.FileEntry.{FileEntry}
use Rattle.audit_io.specs.Files.{file_name}
use Rattle.audit_io.specs.FileCalls.{Call, called, looked, looked_at_link}
use Rattle.audit_io.specs.Looks.{HasCheckedPlace, HasCompared, HasLookedFor, HasOpened, HasOpenedSlot, HasSeen, HasSeenLink, are_one, link_loose, link_none, look_failed, look_found, look_none, place_compared, place_refused, seen_loose, seen_none, slots_apart, slots_are_one}

-- the name was not found, and then the link was looked at
pub seen_link : (a b d : Option (List Call)) (name : List ℕ) (kind : ErrorKind) (answer : Result FileEntry ErrorKind) → kind ≡ NotFound → b ≡ called a (looked name None) (Some kind)
    → HasSeenLink b d name kind answer → HasSeen a d name answer
seen_link a b d name kind answer absent first (link_none link after is) =
    seen_none link
    (after ∙ ap (λ (o : Option (List Call)). called o (looked_at_link name) (Some link)) (first ∙ ap (λ (k : ErrorKind). called a (looked name None) (Some k)) absent))
    (is ∙ ap (λ (k : ErrorKind). Err k) absent)
seen_link a b d name kind answer absent first (link_loose after is) =
    seen_loose (after ∙ ap (λ (o : Option (List Call)). called o (looked_at_link name) None) (first ∙ ap (λ (k : ErrorKind). called a (looked name None) (Some k)) absent)) is

-- a look under an equal name
at : (a b : Option (List Call)) (answer : Result FileEntry ErrorKind) (name other : List ℕ) → name ≡ other → HasSeen a b name answer → HasSeen a b other answer
at a b answer name other same seen = subst (λ (n : List ℕ). HasSeen a b n answer) same seen

-- both slots were looked at
pub compared : (a b d : Option (List Call)) (first second : Result FileEntry ErrorKind) (zero one : List ℕ) (same : Bool) → zero ≡ file_name 0 → one ≡ file_name 1 → HasSeen a b zero first → HasSeen b d one second
    → same ≡ are_one first second → HasCompared a d same
compared a b d first second zero one same is_zero is_one seen again is = record { between = b; first = first; second = second; one = at a b first zero (file_name 0) is_zero seen; two = at b d second one (file_name 1) is_one again; is = is }

pub opened_one : (a b : Option (List Call)) (slot : ℕ) (error : Option ErrorKind) (same : Bool) → same ≡ true → HasCompared a b same → error ≡ Some InvalidInput → HasOpenedSlot a b slot error
opened_one a b slot error same is seen e = slots_are_one (subst (λ (s : Bool). HasCompared a b s) is seen) e

pub opened_apart : (a b d : Option (List Call)) (slot : ℕ) (error : Option ErrorKind) (same : Bool) (name : List ℕ) → same ≡ false → HasCompared a b same → name ≡ file_name slot → HasOpened b d name error
    → HasOpenedSlot a d slot error
opened_apart a b d slot error same name is seen named done = slots_apart b (subst (λ (s : Bool). HasCompared a b s) is seen) (subst (λ (n : List ℕ). HasOpened b d n error) named done)

not_err : {A : Type 0} (r : Result A Error) → is_ok r ≡ not (is_err r)
not_err (Ok a) = refl
not_err (Err e) = refl

pub checked_there : {A : Type 0} (a b d : Option (List Call)) (slot : ℕ) (name : List ℕ) (found : FileEntry) (r : Result A Error) → name ≡ file_name slot → HasSeen a b name (Ok found) → HasCompared b d (is_err r)
    → HasCheckedPlace a d slot (is_ok r)
checked_there a b d slot name found r named seen done = place_compared b (Ok found) (is_err r) (at a b (Ok found) name (file_name slot) named seen) tt done (not_err r)

pub checked_free : {A : Type 0} (a b d : Option (List Call)) (slot : ℕ) (name : List ℕ) (kind : ErrorKind) (r : Result A Error) → name ≡ file_name slot → kind ≡ NotFound → HasSeen a b name (Err kind) → HasCompared b d (is_err r)
    → HasCheckedPlace a d slot (is_ok r)
checked_free a b d slot name kind r named is seen done = place_compared b (Err kind) (is_err r) (at a b (Err kind) name (file_name slot) named seen) is done (not_err r)

pub checked_refused : (a b : Option (List Call)) (slot : ℕ) (name : List ℕ) (kind : ErrorKind) → name ≡ file_name slot → kind ≢ NotFound → HasSeen a b name (Err kind) → HasCheckedPlace a b slot false
checked_refused a b slot name kind named other seen = place_refused kind other (at a b (Err kind) name (file_name slot) named seen) refl

pub looked_found : (a b : Option (List Call)) (slot : ℕ) (name : List ℕ) (file : FileEntry) → name ≡ file_name slot → HasSeen a b name (Ok file) → HasLookedFor a b false slot (Some true)
looked_found a b slot name file named seen = look_found file refl (at a b (Ok file) name (file_name slot) named seen) refl

pub looked_none : (a b : Option (List Call)) (slot : ℕ) (name : List ℕ) (kind : ErrorKind) → name ≡ file_name slot → kind ≡ NotFound → HasSeen a b name (Err kind) → HasLookedFor a b false slot (Some false)
looked_none a b slot name kind named is seen = look_none refl (subst (λ (k : ErrorKind). HasSeen a b (file_name slot) (Err k)) is (at a b (Err kind) name (file_name slot) named seen)) refl

pub looked_failed : (a b : Option (List Call)) (slot : ℕ) (name : List ℕ) (kind : ErrorKind) → name ≡ file_name slot → kind ≢ NotFound → HasSeen a b name (Err kind) → HasLookedFor a b false slot None
looked_failed a b slot name kind named other seen = look_failed kind other refl (at a b (Err kind) name (file_name slot) named seen) refl

pub looked_still : (a b : Option (List Call)) (is_stored : Bool) (slot : ℕ) (answer : Option Bool) → is_stored ≡ false → HasLookedFor a b false slot answer → HasLookedFor a b is_stored slot answer
looked_still a b is_stored slot answer is done = subst (λ (s : Bool). HasLookedFor a b s slot answer) (sym is) done
