-- The data of a value, level by level, and lists that grow at their end.
use Rattle.std.proofs.Common.{◌≡◌, ℕ, Bool, true, false, cond, List, [], ◌∷◌, ◌++◌, map, Option, Some, None, Bor, Vec, Global, bytes_eq, true≢false, refl, sym, ap, subst, ◌∙◌, rules}
use Rattle.std.proofs.lemmas.Slice.Eq.{bytes_eq-Decides}
use Rattle.json.specs.Token.{Token}
use Rattle.json.specs.Json.{parse_map}
use Rattle.serde_json.specs.Data.{Data, array, object, Items, no_items, item, Members, no_members, put}
use Rattle.serde_json.specs.Find.{get_member}
use Rattle.serde_json.proofs.Views.{get_member-put, get_member-put_other}
use Rattle.dual_json.specs.Values.{value_data, items_data, members_data, put_all}
use Rattle.dual_json.specs.declared.value.Value.{Value, Array, Object, the_lemmas}

-- a member of an object: its key and value
abbrev pub Entry : Type 0
Entry = Bor (List ℕ) × Value

-- the data of an array
pub data-Array : (v : Vec Value Global) → value_data (Array v) ≡ array (items_data v.items)
data-Array v = search (rules, the_lemmas)

-- the data of an object
pub data-Object : (v : Vec Entry Global) → value_data (Object v) ≡ object (members_data v.items)
data-Object v = search (rules, the_lemmas)

-- ---- growing arrays

-- the items, followed by others
abbrev pub items_before : List Value → Items → Items
items_before [] rest = rest
items_before (v ∷ vs) rest = item (value_data v) (items_before vs rest)

-- items followed by nothing
pub items_before-no_items : (vs : List Value) → items_before vs no_items ≡ items_data vs
items_before-no_items [] = refl
items_before-no_items (v ∷ vs) = ap (item (value_data v)) (items_before-no_items vs)

-- moving the first of the others to the items
items_push : (vs : List Value) (v : Value) (rest : Items) → items_before vs (item (value_data v) rest) ≡ items_before (vs ++ v ∷ []) rest
items_push [] v rest = refl
items_push (w ∷ vs) v rest = ap (item (value_data w)) (items_push vs v rest)

-- moving an item, inside a parser's result
pub one_more_item : (vs : List Value) (v : Value) (r : Option (Items × List Token)) → parse_map (items_before vs) (parse_map (item (value_data v)) r) ≡ parse_map (items_before (vs ++ v ∷ [])) r
one_more_item vs v None = refl
one_more_item vs v (Some p) = ap (λ ds. Some (ds, p.1)) (items_push vs v p.0)

-- no items before a parser's result
pub none_before : (r : Option (Items × List Token)) → r ≡ parse_map (items_before []) r
none_before None = refl
none_before (Some p) = refl

-- ---- growing objects

-- putting one more member
put_all-push : (found : Members) (ms : List Entry) (m : Entry)
    → put_all found (map (λ e. (e.0, value_data e.1)) (ms ++ m ∷ [])) ≡ put m.0.now (value_data m.1) (put_all found (map (λ e. (e.0, value_data e.1)) ms))
put_all-push found [] m = refl
put_all-push found (n ∷ ms) m = put_all-push (put n.0.now (value_data n.1) found) ms m

-- the data of an object with one more member
pub one_more_member : (ms : List Entry) (m : Entry) → members_data (ms ++ m ∷ []) ≡ put m.0.now (value_data m.1) (members_data ms)
one_more_member ms m = put_all-push no_members ms m

-- a lookup after a member was put
found_after : (name k : List ℕ) (d : Data) (ms : Members) (b : Bool) → bytes_eq k name ≡ b → get_member name (put k d ms) ≡ cond b (Some d) (get_member name ms)
found_after name k d ms true e = subst (λ (q : List ℕ). get_member q (put k d ms) ≡ Some d) ((bytes_eq-Decides k name).0 e) (get_member-put k d ms)
found_after name k d ms false e = get_member-put_other name k d ms (λ same. true≢false (sym ((bytes_eq-Decides k name).1 (sym same)) ∙ e))

-- the last member counts if it has the key
pub get_member-last : (name : List ℕ) (ms : List Entry) (m : Entry) → get_member name (members_data (ms ++ m ∷ [])) ≡ cond (bytes_eq m.0.now name) (Some (value_data m.1)) (get_member name (members_data ms))
get_member-last name ms m = ap (get_member name) (one_more_member ms m) ∙ found_after name m.0.now (value_data m.1) (members_data ms) (bytes_eq m.0.now name) refl
