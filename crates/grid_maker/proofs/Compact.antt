-- The text of the grid's JSON is the text of the definition.
use Rattle.std.proofs.Common.{◌≡◌, ℕ, zero, suc, ◌-◌, ◌*◌, ◌/◌, true, false, List, [], ◌∷◌, ◌++◌, map, codes, decimal, refl, sym, ap, ◌∙◌, append_assoc, append-nil}
use Rattle.std.specs.Fmt.{digits}
use Rattle.std.specs.List.{join_with_byte}
use Rattle.std.proofs.lemmas.Bool.{or_parts}
use Rattle.std.proofs.lemmas.List.{map-append}
use Rattle.std.proofs.lemmas.Simd.{map-map}
use Rattle.serde_json.specs.Data.{Data, array}
use Rattle.serde_json.specs.View.{items_of}
use Rattle.serde_json.specs.Written.{compact_text, items_text, has_float, items_have_float}
use Rattle.serde_json.proofs.OnLiterals.{serde_json_on_literals}
use Rattle.audit_model.specs.Below.{map_below, filter_below}
use Rattle.audit_statement.specs.Grid.{grid_side, are_beside, first_votes_of, bracketed, neighbours_json, node_json, grid}
use Rattle.grid_maker.specs.Tree.{entry_tree, neighbours_tree, node_tree, adjacency_tree, nodes_tree, root_tree, grid_tree}

-- ---- lists in brackets

-- each piece, preceded by a comma
after : List (List ℕ) → List ℕ
after [] = []
after (x ∷ xs) = 44 ∷ (x ++ after xs)

-- pieces joined by commas are the first piece, then the others preceded by commas
joined_is : (x : List ℕ) (xs : List (List ℕ)) → join_with_byte 44 (x ∷ xs) ≡ x ++ after xs
unfolding after
joined_is x [] = sym (append-nil x)
joined_is x (y ∷ xs) = ap (λ (t : List ℕ). x ++ (44 ∷ t)) (joined_is y xs)

-- the items after the first, preceded by commas, then the closing bracket
items_after : (ds : List Data) → items_text true (items_of ds) ≡ after (map compact_text ds) ++ 93 ∷ []
unfolding after
items_after [] = refl
items_after (d ∷ ds) =
    ap (λ (t : List ℕ). 44 ∷ (compact_text d ++ t)) (items_after ds)
    ∙ ap (λ (t : List ℕ). 44 ∷ t) (sym (append_assoc (compact_text d) (after (map compact_text ds)) (93 ∷ [])))

-- the text of an array is its items in brackets
list_text : (ds : List Data) → compact_text (array (items_of ds)) ≡ bracketed (map compact_text ds)
list_text [] = refl
list_text (d ∷ ds) =
    ap (λ (t : List ℕ). 91 ∷ (compact_text d ++ t)) (items_after ds)
    ∙ ap (λ (t : List ℕ). 91 ∷ t) (sym (append_assoc (compact_text d) (after (map compact_text ds)) (93 ∷ []))
    ∙ ap (λ (t : List ℕ). t ++ 93 ∷ []) (sym (joined_is (compact_text d) (map compact_text ds))))

-- ---- lists of values

-- functions that agree everywhere map a list to equal lists
map_same : {A B : Type 0} (f g : A → B) (xs : List A) → ((x : A) → f x ≡ g x) → map f xs ≡ map g xs
map_same f g [] same = refl
map_same f g (x ∷ xs) same = ap (λ y. y ∷ map f xs) (same x) ∙ ap (λ ys. g x ∷ ys) (map_same f g xs same)

-- mapping over the values below a bound maps each value
pub map-map_below : {A B : Type 0} (f : A → B) (n : ℕ) (g : ℕ → A) (h : ℕ → B) → ((k : ℕ) → f (g k) ≡ h k) → map f (map_below n g) ≡ map_below n h
map-map_below f zero g h same = refl
map-map_below f (suc n) g h same =
    map-append f (map_below n g) (g n ∷ [])
    ∙ ap (λ ys. ys ++ f (g n) ∷ []) (map-map_below f n g h same)
    ∙ ap (λ y. map_below n h ++ y ∷ []) (same n)

-- ---- the grid

-- the text of an adjacency entry
pub entry_text : (unit : ℕ) → compact_text (entry_tree unit) ≡ codes "{\"id\":" ++ decimal unit ++ codes "}"
unfolding serde_json_on_literals
entry_text unit = refl

-- the text of a unit's adjacency list
neighbours_text : (size unit : ℕ) → compact_text (neighbours_tree size unit) ≡ neighbours_json size unit
neighbours_text size unit =
    let units = filter_below (grid_side size * grid_side size) (are_beside size unit) in
    list_text (map entry_tree units)
    ∙ ap bracketed (map-map compact_text entry_tree units ∙ map_same (λ v. compact_text (entry_tree v)) (λ v. codes "{\"id\":" ++ decimal v ++ codes "}") units entry_text)

-- nine texts may be concatenated in any grouping
regroup : (a b c d e f g h i : List ℕ) → a ++ b ++ c ++ d ++ e ++ f ++ g ++ h ++ i ≡ a ++ (b ++ (c ++ (d ++ (e ++ (f ++ (g ++ (h ++ i)))))))
regroup a b c d e f g h i = simp append_assoc

-- the text of a node
pub node_text : (size : ℕ) (key : List ℕ) (unit : ℕ) → compact_text (node_tree size key unit) ≡ node_json size key unit
unfolding serde_json_on_literals digits
node_text size key unit =
    let first : ℕ = first_votes_of key unit in
    sym (regroup (codes "{\"a\":") (decimal first) (codes ",\"b\":") (decimal (100 - first)) (codes ",\"district\":") (decimal (unit / grid_side size / size))
    (codes ",\"id\":") (decimal unit) (codes ",\"pop\":100}"))

-- five texts may be concatenated in any grouping
regroup_five : (a b c d e : List ℕ) → a ++ b ++ c ++ d ++ e ≡ a ++ (b ++ (c ++ (d ++ e)))
regroup_five a b c d e = simp append_assoc

-- the text of the root is its five members in order
pub root_text : (adjacency nodes : Data) → compact_text (root_tree adjacency nodes)
    ≡ codes "{\"adjacency\":" ++ compact_text adjacency ++ codes ",\"directed\":false,\"graph\":[],\"multigraph\":false,\"nodes\":" ++ compact_text nodes ++ codes "}"
unfolding serde_json_on_literals
root_text adjacency nodes =
    sym (regroup_five (codes "{\"adjacency\":") (compact_text adjacency) (codes ",\"directed\":false,\"graph\":[],\"multigraph\":false,\"nodes\":") (compact_text nodes) (codes "}"))

-- the text of the adjacency lists
adjacency_text : (size : ℕ) → compact_text (adjacency_tree size) ≡ bracketed (map_below (grid_side size * grid_side size) (neighbours_json size))
adjacency_text size =
    list_text (map_below (grid_side size * grid_side size) (neighbours_tree size))
    ∙ ap bracketed (map-map_below compact_text (grid_side size * grid_side size) (neighbours_tree size) (neighbours_json size) (neighbours_text size))

-- the text of the nodes
nodes_text : (size : ℕ) (key : List ℕ) → compact_text (nodes_tree size key) ≡ bracketed (map_below (grid_side size * grid_side size) (node_json size key))
nodes_text size key =
    list_text (map_below (grid_side size * grid_side size) (node_tree size key))
    ∙ ap bracketed (map-map_below compact_text (grid_side size * grid_side size) (node_tree size key) (node_json size key) (node_text size key))

-- the text of the grid's JSON is the grid
pub grid_text : (size : ℕ) (key : List ℕ) → compact_text (grid_tree size key) ≡ grid size key
unfolding grid
grid_text size key =
    root_text (adjacency_tree size) (nodes_tree size key)
    ∙ ap (λ (t : List ℕ). codes "{\"adjacency\":" ++ t ++ codes ",\"directed\":false,\"graph\":[],\"multigraph\":false,\"nodes\":" ++ compact_text (nodes_tree size key) ++ codes "}") (adjacency_text size)
    ∙ ap (λ (t : List ℕ). codes "{\"adjacency\":" ++ bracketed (map_below (grid_side size * grid_side size) (neighbours_json size))
    ++ codes ",\"directed\":false,\"graph\":[],\"multigraph\":false,\"nodes\":" ++ t ++ codes "}") (nodes_text size key)

-- ---- the grid has no floating-point number

-- appended lists without floats have no floats
floats-append : (ds es : List Data) → items_have_float (items_of ds) ≡ false → items_have_float (items_of es) ≡ false → items_have_float (items_of (ds ++ es)) ≡ false
floats-append [] es h k = k
floats-append (d ∷ ds) es h k =
    let parts = or_parts (has_float d) (items_have_float (items_of ds)) h in
    rw (parts.0) (floats-append ds es parts.1 k)

-- a list built from values without floats has no floats
floats_below : (n : ℕ) (f : ℕ → Data) → ((k : ℕ) → has_float (f k) ≡ false) → items_have_float (items_of (map_below n f)) ≡ false
floats_below zero f h = refl
floats_below (suc n) f h =
    let last : items_have_float (items_of (f n ∷ [])) ≡ false = rw (h n) refl in
    floats-append (map_below n f) (f n ∷ []) (floats_below n f h) last

-- adjacency entries have no floats
entries_floats : (units : List ℕ) → items_have_float (items_of (map entry_tree units)) ≡ false
entries_floats [] = refl
entries_floats (u ∷ us) = entries_floats us

-- the grid's JSON has no floats
pub grid_floats : (size : ℕ) (key : List ℕ) → has_float (grid_tree size key) ≡ false
grid_floats size key =
    let adjacency : has_float (adjacency_tree size) ≡ false =
    floats_below (grid_side size * grid_side size) (neighbours_tree size) (λ u. entries_floats (filter_below (grid_side size * grid_side size) (are_beside size u))) in
    let nodes : has_float (nodes_tree size key) ≡ false = floats_below (grid_side size * grid_side size) (node_tree size key) (λ u. refl) in
    rw (adjacency, nodes) refl
