-- Options without a value, and the first of two.
use Rattle.std.proofs.Common.{◌≡◌, Some, None, Option, refl, Bool, true, false, cond, ℕ, sym}
use Rattle.std.specs.Option.{option_or, is_some}
use Rattle.std.specs.Prelude.{option_map}
use Rattle.std.proofs.lemmas.Bool.{false≢true}

-- an option with a value is not empty
pub some_is_not_none : {A : Type 0} (x : A) → Some x ≡ None → ⊥
some_is_not_none x h = cc

-- if the first option is empty, the result is the second
pub none_or : {A : Type 0} (o p : Option A) → o ≡ None → option_or o p ≡ p
none_or None p h = refl
none_or (Some x) p h = cc

-- if the result is empty, both options are
pub option_or_none : {A : Type 0} (a b : Option A) → option_or a b ≡ None → (a ≡ None) × (b ≡ None)
option_or_none None b h = (refl, h)
option_or_none (Some x) b h = absurd (some_is_not_none x h)

-- if nothing is kept, the test is false
pub cond_some_none : {A : Type 0} (b : Bool) (x : A) → cond b (Some x) None ≡ None → b ≡ false
cond_some_none true x h = absurd (some_is_not_none x h)
cond_some_none false x h = refl

-- if the test is false, nothing is kept
pub cond_none : {A : Type 0} (b : Bool) (x : A) → b ≡ false → cond b (Some x) None ≡ None
cond_none true x h = cc
cond_none false x h = refl

-- if the mapped option is empty, so is the option
pub option_map_none : {A B : Type 0} (f : A → B) (o : Option A) → option_map f o ≡ None → o ≡ None
option_map_none f None h = refl
option_map_none f (Some x) h = absurd (some_is_not_none (f x) h)

-- mapping an empty option gives an empty one
pub map_none : {A B : Type 0} (f : A → B) (o : Option A) → o ≡ None → option_map f o ≡ None
map_none f None h = refl
map_none f (Some x) h = cc

-- two empty options give an empty result
pub or_of_none : {A : Type 0} (a b : Option A) → a ≡ None → b ≡ None → option_or a b ≡ None
or_of_none None b h k = k
or_of_none (Some x) b h k = absurd (some_is_not_none x h)

-- an empty second option changes nothing
pub or_nothing : (x : Option ℕ) → option_or x None ≡ x
or_nothing None = refl
or_nothing (Some a) = refl

-- an option that tests as empty is empty
pub none_from : {A : Type 0} (o : Option A) → is_some o ≡ false → o ≡ None
none_from None h = refl
none_from (Some x) h = absurd (false≢true (sym h))

-- an option that tests as present has a value
pub some_from : {A : Type 0} (o : Option A) → is_some o ≡ true → (x : A) × (o ≡ Some x)
some_from None h = absurd (false≢true h)
some_from (Some x) h = (x, refl)
