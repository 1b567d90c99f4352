-- Mapped lists.
use Rattle.std.proofs.Common.{◌≡◌, ℕ, zero, suc, ◌+◌, ◌<◌, ◌≤◌, List, [], ◌∷◌, length, map, get_or, Bool, true, false, Option, Some, None, refl, sym, ap, ◌∙◌, subst, arith}
use Rattle.std.specs.List.{list_all}
use Rattle.std.specs.Option.{option_map, is_some, unwrap_or}
use Rattle.std.proofs.lemmas.Bool.{and_from, and_left, and_right}
use Rattle.std.proofs.lemmas.List.{length-map}
use Rattle.audit_model.specs.First.{first_some_below}
use Rattle.audit_model.proofs.First.{first_some_below_more, first_some_below_found}
use Rattle.serde_json.specs.Data.{Data, Items, null}
use Rattle.serde_json.specs.View.{items_of}
use Rattle.dual_json.specs.Values.{value_data, items_data}
use Rattle.dual_json.specs.declared.value.Value.{Value}
use Rattle.audit_statement.specs.Reading.{elements, list_of}
use Rattle.dual_json.specs.Places.{object_at}
use Rattle.dual_json.specs.Shape.{views, lists_in}

-- the item of a mapped list at a position
pub get_or-map_at : {A B : Type 0} → (f : A → B) (xs : List A) (i : ℕ) (x : A) (d : B) → i < length xs → x ≡ get_or xs i x → get_or (map f xs) i d ≡ f x
get_or-map_at f [] i x d l is = absurd (omega arith)
get_or-map_at f (y ∷ xs) zero x d l is = ap f (sym is)
get_or-map_at f (y ∷ xs) (suc i) x d l is = get_or-map_at f xs i x d (omega arith) is

-- the elements of a list of data
pub elements-items_of : (ds : List Data) → elements (items_of ds) ≡ ds
elements-items_of [] = refl
elements-items_of (d ∷ ds) = ap (λ (rest : List Data). d ∷ rest) (elements-items_of ds)

-- the elements of a list of values are their data
pub elements-items_data : (vs : List Value) → elements (items_data vs) ≡ views vs
elements-items_data vs = elements-items_of (map value_data vs)

-- mapping keeps the length of a list of values
pub length-views : (vs : List Value) → length (views vs) ≡ length vs
length-views vs = length-map vs value_data

-- mapping keeps the length of a list of arrays
pub length-lists_in : (vs : List Value) → length (lists_in vs) ≡ length vs
length-lists_in vs = length-map (views vs) (λ d. unwrap_or (list_of d) []) ∙ length-views vs

-- the data at a position is that of the value there
pub object_is : (vs : List Value) (i : ℕ) (x : Value) → i < length vs → x ≡ get_or vs i x → object_at (views vs) i ≡ value_data x
object_is vs i x l is = get_or-map_at value_data vs i x null l is

-- a list exists exactly if its elements do
pub is_some-elements : (o : Option Items) → is_some (option_map elements o) ≡ is_some o
is_some-elements None = refl
is_some-elements (Some x) = refl

-- if each item passes, all pass
pub list_all_from : (test : Data → Bool) (xs : List Data) → ((k : ℕ) → k < length xs → test (object_at xs k) ≡ true) → list_all test xs ≡ true
list_all_from test [] each = refl
list_all_from test (x ∷ xs) each = and_from (test x) (list_all test xs) (each 0 (omega arith)) (list_all_from test xs (λ k l. each (suc k) (omega arith)))

-- if one item fails, not all pass
pub list_all_fails : (test : Data → Bool) (xs : List Data) (k : ℕ) → k < length xs → test (object_at xs k) ≡ false → list_all test xs ≡ false
list_all_fails test [] k l fails = absurd (omega arith)
list_all_fails test (x ∷ xs) zero l fails = and_left (test x) (list_all test xs) fails
list_all_fails test (x ∷ xs) (suc k) l fails = and_right (test x) (list_all test xs) (list_all_fails test xs k (omega arith) fails)

-- ---- the first result of a loop over the objects

module _ {A : Type 0} (vs : List Value) (f : ℕ → Data → Option A) where
  pub objects_found : (i : ℕ) (x : Value) (a : A) → i < length vs → x ≡ get_or vs i x → first_some_below i (λ k. f k (object_at (views vs) k)) ≡ None → f i (value_data x) ≡ Some a
      → first_some_below (length (views vs)) (λ k. f k (object_at (views vs) k)) ≡ Some a
  objects_found i x a l is none gives =
      first_some_below_found (length (views vs)) i (λ k. f k (object_at (views vs) k)) a (omega (arith, l, length-views vs)) none (ap (f i) (object_is vs i x l is) ∙ gives)

  pub objects_more : (i : ℕ) (x : Value) → i < length vs → x ≡ get_or vs i x → first_some_below i (λ k. f k (object_at (views vs) k)) ≡ None → f i (value_data x) ≡ None
      → first_some_below (i + 1) (λ k. f k (object_at (views vs) k)) ≡ None
  objects_more i x l is none nothing = first_some_below_more i (λ k. f k (object_at (views vs) k)) none (ap (f i) (object_is vs i x l is) ∙ nothing)

  pub objects_all : (i : ℕ) → i ≤ length vs → length vs ≤ i → first_some_below i (λ k. f k (object_at (views vs) k)) ≡ None
      → first_some_below (length (views vs)) (λ k. f k (object_at (views vs) k)) ≡ None
  objects_all i low high none =
      let at : i ≡ length (views vs) = omega (arith, low, high, length-views vs) in
      subst (λ (m : ℕ). first_some_below m (λ k. f k (object_at (views vs) k)) ≡ None) at none
