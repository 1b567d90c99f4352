-- The grid's text parses without a fault.
use Rattle.std.proofs.Common.{◌≡◌, ℕ, zero, suc, ◌≤◌, Bool, true, false, not, cond, List, [], ◌∷◌, ◌++◌, map, Option, None, Ok, refl, ap, ap₂, ◌∙◌}
use Rattle.std.specs.Prelude.{is_ok, is_some, unwrap_or}
use Rattle.std.specs.List.{list_all}
use Rattle.std.proofs.lemmas.Bool.{and_parts, and_from}
use Rattle.serde_json.specs.Data.{Data}
use Rattle.serde_json.specs.Read.{read}
use Rattle.serde_json.specs.View.{items_of}
use Rattle.audit_model.specs.Below.{map_below}
use Rattle.dual_json.proofs.Listed.{elements-items_of}
use Rattle.dual_json.proofs.Shapes.{not_refused}
use Rattle.audit_model.proofs.Options.{or_of_none}
use Rattle.audit_statement.specs.Grid.{grid}
use Rattle.audit_statement.specs.Reading.{Document, elements, list_of, bad_part, document, parsed, refusal, accepted_or, of_root, of_json, reading}
use Rattle.grid_maker.specs.Columns.{grid_columns}
use Rattle.grid_maker.specs.Tree.{entry_tree, neighbours_tree, node_tree, grid_tree}
use Rattle.grid_maker.proofs.Accepted.{units_beside, grid_document, accepted}
use Rattle.grid_maker.proofs.Compact.{map-map_below}
use Rattle.grid_maker.proofs.Districts.{units_of}
use Rattle.grid_maker.proofs.Readable.{grid_read, grid_utf8}

-- a property of all items of two lists holds of the appended list
list_all-append : (p : Data → Bool) (ds es : List Data) → list_all p ds ≡ true → list_all p es ≡ true → list_all p (ds ++ es) ≡ true
list_all-append p [] es h k = k
list_all-append p (d ∷ ds) es h k =
    let parts = and_parts (p d) (list_all p ds) h in
    and_from (p d) (list_all p (ds ++ es)) parts.0 (list_all-append p ds es parts.1 k)

-- a property of all values below a bound holds of their list
list_all_below : (p : Data → Bool) (n : ℕ) (f : ℕ → Data) → ((k : ℕ) → p (f k) ≡ true) → list_all p (map_below n f) ≡ true
list_all_below p zero f h = refl
list_all_below p (suc n) f h = list_all-append p (map_below n f) (f n ∷ []) (list_all_below p n f h) (and_from (p (f n)) true (h n) refl)

-- the undirected document with these nodes and adjacency lists
document_from : List Data → List (List Data) → Document
document_from nodes adjacency = record { nodes = nodes; adjacency = adjacency; directed = false }

module _ (size : ℕ) (key : List ℕ) where
  all_lists : list_all (λ d. is_some (list_of d)) (elements (items_of (map_below (units_of size) (neighbours_tree size)))) ≡ true
  all_lists =
      ap (λ (ds : List Data). list_all (λ d. is_some (list_of d)) ds) (elements-items_of (map_below (units_of size) (neighbours_tree size)))
      ∙ list_all_below (λ d. is_some (list_of d)) (units_of size) (neighbours_tree size) (λ k. refl)

  shaped : bad_part (grid_tree size key) ≡ None
  shaped = or_of_none _ _ (not_refused _ _ (ap not all_lists)) refl

  document_is : document (grid_tree size key) ≡ grid_document size key
  unfolding document_from
  document_is =
      ap₂ document_from (elements-items_of (map_below (units_of size) (node_tree size key)))
      (ap (λ (ds : List Data). map (λ d. unwrap_or (list_of d) []) ds) (elements-items_of (map_below (units_of size) (neighbours_tree size)))
      ∙ map-map_below (λ d. unwrap_or (list_of d) []) (units_of size) (neighbours_tree size) (λ u. map entry_tree (units_beside size u))
      (λ u. elements-items_of (map entry_tree (units_beside size u))))

  -- the result of parsing the text
  pub grid_gives : 1 ≤ size → size ≤ 30 → reading (grid size key) grid_columns ≡ Ok (parsed (grid_document size key) grid_columns)
  unfolding reading
  grid_gives some few =
      let g : List ℕ = grid size key in
      let tree : Data = grid_tree size key in
      ap (λ (b : Bool). of_json grid_columns (cond b (read g) None)) (grid_utf8 size key some few)
      ∙ ap (λ (o : Option Data). of_json grid_columns o) (grid_read size key some few)
      ∙ ap (λ o. of_root grid_columns tree o) shaped
      ∙ ap (λ o. accepted_or (parsed (document tree) grid_columns) o)
      (ap (λ (d : Document). refusal d grid_columns) document_is ∙ accepted size key some few)
      ∙ ap (λ (d : Document). Ok (parsed d grid_columns)) document_is

  pub grid_is_read : 1 ≤ size → size ≤ 30 → is_ok (reading (grid size key) grid_columns) ≡ true
  grid_is_read some few = ap is_ok (grid_gives some few)
