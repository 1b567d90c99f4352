-- The grid's text parses back to its tree.
use Rattle.std.proofs.Common.{◌≡◌, ℕ, zero, suc, ◌-◌, ◌/◌, ◌^◌, ◌<◌, ◌≤◌, Bool, true, false, cond, List, [], ◌∷◌, ◌++◌, map, codes, decimal, Option, Some, option_map, option_and_then, IsUtf8, refl, sym, ap, ◌∙◌, subst, arith, append-nil}
use Rattle.std.proofs.lemmas.Fmt.{IsAscii-decimal}
use Rattle.std.proofs.lemmas.Str.{IsUtf8-append, IsUtf8-from_ascii, is_utf8-from_IsUtf8}
use Rattle.std.specs.Str.{is_utf8}
use Rattle.json.specs.Json as json
use Rattle.json.specs.Token.{Token}
use Rattle.json.specs.Tree as tree
use Rattle.json.specs.Lex.{tokens}
use Rattle.json.proofs.Printed.Decimals.{IsNumber-decimal}
use Rattle.json.proofs.Printed.Trees.{value-json_tokens, ArePrintable-json_tokens}
use Rattle.json.proofs.Printed.Tokens.{tokens-print}
use Rattle.json.proofs.Printed.Utf8.{are_ascii, IsUtf8-are_ascii}
use Rattle.serde_json.specs.Data.{Data, array}
use Rattle.serde_json.specs.Read.{of_json, of_items, read, max_depth}
use Rattle.serde_json.specs.View.{items_of}
use Rattle.serde_json.specs.Written.{compact_text, items_text, outline, items_outline}
use Rattle.serde_json.proofs.Numbers.{number_of-decimal}
use Rattle.serde_json.proofs.Texts.{print-outline}
use Rattle.audit_model.specs.Below.{map_below, filter_below}
use Rattle.std.proofs.lemmas.List.{map-append}
use Rattle.audit_statement.specs.Grid.{grid_side, are_beside, first_votes_of, grid}
use Rattle.grid_maker.specs.Tree.{entry_tree, neighbours_tree, node_tree, adjacency_tree, nodes_tree, root_tree, grid_tree}
use Rattle.grid_maker.proofs.Districts.{units_of, few_units, district_below}
use Rattle.grid_maker.proofs.Compact.{entry_text, node_text, root_text, grid_text}

-- the parsed value, if no token is left
abbrev whole : Option (json.Json × List Token) → Option Data
whole o = option_and_then of_json (option_and_then (λ p. json.if_last p.0 p.1) o)

-- the value's text parses back to the value, with a bounded nesting depth
pub record IsReadable (deep : ℕ) (d : Data) : Type 0 where
  pub numbers : tree.HasNumbers (outline d)
  pub shallow : tree.depth (outline d) ≤ deep
  pub back : of_json (outline d) ≡ Some d
  pub utf8 : IsUtf8 (compact_text d)

abbrev AreReadable : ℕ → List Data → Type 0
AreReadable deep [] = Unit {0}
AreReadable deep (d ∷ ds) = IsReadable deep d × AreReadable deep ds

-- appended lists of readable items are readable
readable-append : (deep : ℕ) (ds es : List Data) → AreReadable deep ds → AreReadable deep es → AreReadable deep (ds ++ es)
readable-append deep [] es h k = k
readable-append deep (d ∷ ds) es h k = (h.0, readable-append deep ds es h.1 k)

-- a list built from readable values is readable
readable_below : (deep n : ℕ) (f : ℕ → Data) → ((k : ℕ) → k < n → IsReadable deep (f k)) → AreReadable deep (map_below n f)
readable_below deep zero f h = tt
readable_below deep (suc n) f h =
    readable-append deep (map_below n f) (f n ∷ []) (readable_below deep n f (λ k l. h k (omega (arith, l)))) (h n (omega arith), tt)

-- a filtered list of readable values is readable
readable_filter : (deep n : ℕ) (test : ℕ → Bool) (f : ℕ → Data) → ((k : ℕ) → k < n → IsReadable deep (f k)) → AreReadable deep (map f (filter_below n test))
readable_filter deep zero test f h = tt
readable_filter deep (suc n) test f h =
    subst (λ (ds : List Data). AreReadable deep ds) (sym (map-append f (filter_below n test) (cond (test n) (n ∷ []) [])))
    (readable-append deep (map f (filter_below n test)) (map f (cond (test n) (n ∷ []) [])) (readable_filter deep n test f (λ k l. h k (omega (arith, l)))) (last (test n)))
  where
    last : (b : Bool) → AreReadable deep (map f (cond b (n ∷ []) []))
    last true = (h n (omega arith), tt)
    last false = tt

-- ---- lists

-- readable items have readable numbers
items_numbers : (deep : ℕ) (ds : List Data) → AreReadable deep ds → tree.ItemsHaveNumbers (items_outline (items_of ds))
items_numbers deep [] h = tt
items_numbers deep (d ∷ ds) h = (h.0.numbers, items_numbers deep ds h.1)

-- readable items are within the nesting depth
items_shallow : (deep : ℕ) (ds : List Data) → AreReadable deep ds → tree.items_depth (items_outline (items_of ds)) ≤ deep
items_shallow deep [] h = omega arith
items_shallow deep (d ∷ ds) h = omega (arith, h.0.shallow, items_shallow deep ds h.1)

-- readable items parse back to themselves
items_back : (deep : ℕ) (ds : List Data) → AreReadable deep ds → of_items (items_outline (items_of ds)) ≡ Some (items_of ds)
items_back deep [] h = refl
items_back deep (d ∷ ds) h = rw (h.0.back, items_back deep ds h.1) refl

-- a comma before a text keeps it UTF-8
comma_utf8 : (xs : List ℕ) → IsUtf8 xs → IsUtf8 (44 ∷ xs)
comma_utf8 xs u = IsUtf8-append (44 ∷ []) xs (IsUtf8-are_ascii (44 ∷ []) refl) u

-- the items after the first are UTF-8
later_utf8 : (deep : ℕ) (ds : List Data) → AreReadable deep ds → IsUtf8 (items_text true (items_of ds))
later_utf8 deep [] h = IsUtf8-are_ascii (93 ∷ []) refl
later_utf8 deep (d ∷ ds) h = comma_utf8 (compact_text d ++ items_text true (items_of ds)) (IsUtf8-append (compact_text d) (items_text true (items_of ds)) h.0.utf8 (later_utf8 deep ds h.1))

-- an array of readable items is UTF-8
list_utf8 : (deep : ℕ) (ds : List Data) → AreReadable deep ds → IsUtf8 (compact_text (array (items_of ds)))
list_utf8 deep [] h = IsUtf8-are_ascii (91 ∷ 93 ∷ []) refl
list_utf8 deep (d ∷ ds) h =
    IsUtf8-append (91 ∷ []) (compact_text d ++ items_text true (items_of ds)) (IsUtf8-are_ascii (91 ∷ []) refl)
    (IsUtf8-append (compact_text d) (items_text true (items_of ds)) h.0.utf8 (later_utf8 deep ds h.1))

-- an array of readable items is readable, one level deeper
list_readable : (deep : ℕ) (ds : List Data) → AreReadable deep ds → IsReadable (suc deep) (array (items_of ds))
list_readable deep ds h = record {
  numbers = items_numbers deep ds h;
  shallow = omega (arith, items_shallow deep ds h);
  back = ap (option_map array) (items_back deep ds h);
  utf8 = list_utf8 deep ds h;
}

-- ---- the parts of the grid

-- the digits of a number are UTF-8
decimal_utf8 : (n : ℕ) → n < 2 ^ 64 → IsUtf8 (decimal n)
decimal_utf8 n h = IsUtf8-from_ascii (decimal n) (IsAscii-decimal n h)

-- a number between two texts is UTF-8
number_utf8 : (before after : List ℕ) (n : ℕ) → IsUtf8 before → n < 2 ^ 64 → are_ascii after ≡ true → IsUtf8 (before ++ decimal n ++ after)
number_utf8 before after n u l a =
    IsUtf8-append (before ++ decimal n) after (IsUtf8-append before (decimal n) u (decimal_utf8 n l)) (IsUtf8-are_ascii after a)

-- an adjacency entry is readable
entry_readable : (unit : ℕ) → unit < 2 ^ 64 → IsReadable 1 (entry_tree unit)
entry_readable unit l = record {
  numbers = (IsNumber-decimal unit l, tt);
  shallow = omega arith;
  back = rw (number_of-decimal unit l) refl;
  utf8 = subst IsUtf8 (sym (entry_text unit)) (number_utf8 (codes "{\"id\":") (codes "}") unit (IsUtf8-are_ascii (codes "{\"id\":") refl) l refl);
}

-- a text between two texts is UTF-8
part_utf8 : (before after part : List ℕ) → IsUtf8 before → IsUtf8 part → are_ascii after ≡ true → IsUtf8 (before ++ part ++ after)
part_utf8 before after part u v a = IsUtf8-append (before ++ part) after (IsUtf8-append before part u v) (IsUtf8-are_ascii after a)

-- a root of readable parts is readable
root_readable : (adjacency nodes : Data) → IsReadable 3 adjacency → IsReadable 2 nodes → IsReadable 4 (root_tree adjacency nodes)
root_readable adjacency nodes a n = record {
  numbers = (a.numbers, (tt, (tt, (tt, (n.numbers, tt)))));
  shallow = omega (arith, a.shallow, n.shallow);
  back = rw (a.back, n.back) refl;
  utf8 = subst IsUtf8 (sym (root_text adjacency nodes))
      (part_utf8 (codes "{\"adjacency\":" ++ compact_text adjacency ++ codes ",\"directed\":false,\"graph\":[],\"multigraph\":false,\"nodes\":") (codes "}") (compact_text nodes)
      (part_utf8 (codes "{\"adjacency\":") (codes ",\"directed\":false,\"graph\":[],\"multigraph\":false,\"nodes\":") (compact_text adjacency)
      (IsUtf8-are_ascii (codes "{\"adjacency\":") refl) a.utf8 refl) n.utf8 refl);
}

module _ (size : ℕ) (key : List ℕ) (some : 1 ≤ size) (few : size ≤ 30) where
  below_64 : (unit : ℕ) → unit < units_of size → unit < 2 ^ 64
  below_64 unit l = omega (arith, few_units size few, l)

  neighbours_readable : (unit : ℕ) → IsReadable 2 (neighbours_tree size unit)
  neighbours_readable unit =
      list_readable 1 (map entry_tree (filter_below (units_of size) (are_beside size unit)))
      (readable_filter 1 (units_of size) (are_beside size unit) entry_tree (λ k l. entry_readable k (below_64 k l)))

  node_readable : (unit : ℕ) → unit < units_of size → IsReadable 1 (node_tree size key unit)
  node_readable unit l =
      let first : ℕ = first_votes_of key unit in
      let district : ℕ = unit / grid_side size / size in
      let a : first < 2 ^ 64 = omega arith in
      let b : 100 - first < 2 ^ 64 = omega arith in
      let d : district < 2 ^ 64 = omega (arith, district_below size unit some l) in
      let u : unit < 2 ^ 64 = below_64 unit l in
      let p : 100 < 2 ^ 64 = omega arith in
      record {
        numbers = (IsNumber-decimal first a, (IsNumber-decimal (100 - first) b, (IsNumber-decimal district d, (IsNumber-decimal unit u, (IsNumber-decimal 100 p, tt)))));
        shallow = omega arith;
        back = rw (number_of-decimal first a, number_of-decimal (100 - first) b, number_of-decimal district d, number_of-decimal unit u, number_of-decimal 100 p) refl;
        utf8 = subst IsUtf8 (sym (node_text size key unit))
            (number_utf8 (codes "{\"a\":" ++ decimal first ++ codes ",\"b\":" ++ decimal (100 - first) ++ codes ",\"district\":" ++ decimal district ++ codes ",\"id\":") (codes ",\"pop\":100}") unit
            (number_utf8 (codes "{\"a\":" ++ decimal first ++ codes ",\"b\":" ++ decimal (100 - first) ++ codes ",\"district\":") (codes ",\"id\":") district
            (number_utf8 (codes "{\"a\":" ++ decimal first ++ codes ",\"b\":") (codes ",\"district\":") (100 - first)
            (number_utf8 (codes "{\"a\":") (codes ",\"b\":") first (IsUtf8-are_ascii (codes "{\"a\":") refl) a refl) b refl) d refl) u refl);
      }

  tree_readable : IsReadable 4 (grid_tree size key)
  tree_readable =
      let adjacency : IsReadable 3 (adjacency_tree size) =
      list_readable 2 (map_below (units_of size) (neighbours_tree size)) (readable_below 2 (units_of size) (neighbours_tree size) (λ k l. neighbours_readable k)) in
      let nodes : IsReadable 2 (nodes_tree size key) =
      list_readable 1 (map_below (units_of size) (node_tree size key)) (readable_below 1 (units_of size) (node_tree size key) node_readable) in
      root_readable (adjacency_tree size) (nodes_tree size key) adjacency nodes

  grid_tokens : tokens (grid size key) ≡ tree.json_tokens (outline (grid_tree size key))
  grid_tokens =
      ap tokens (sym (print-outline (grid_tree size key) ∙ grid_text size key))
      ∙ tokens-print (tree.json_tokens (outline (grid_tree size key))) (ArePrintable-json_tokens (outline (grid_tree size key)) tree_readable.numbers)

  pub grid_read : read (grid size key) ≡ Some (grid_tree size key)
  grid_read =
      let j : json.Json = outline (grid_tree size key) in
      ap whole (ap (json.value max_depth) (grid_tokens ∙ sym (append-nil (tree.json_tokens j))) ∙ value-json_tokens j max_depth [] (omega (arith, tree_readable.shallow)))
      ∙ tree_readable.back

  pub grid_utf8 : is_utf8 (grid size key) ≡ true
  grid_utf8 = is_utf8-from_IsUtf8 (grid size key) (subst IsUtf8 (grid_text size key) tree_readable.utf8)
