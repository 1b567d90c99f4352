-- A root whose parts have the right shape.
use Rattle.std.proofs.Common.{◌≡◌, Bool, true, false, not, List, [], ◌∷◌, map, Option, Some, None, refl, sym, ap, ◌∙◌}
use Rattle.std.specs.List.{list_all}
use Rattle.std.specs.Option.{is_some, is_none, unwrap_or, option_and_then, MatchOption}
use Rattle.std.specs.Prelude.{codes}
use Rattle.std.proofs.lemmas.Bool.{cond-false, not_from_true}
use Rattle.audit_model.specs.declared.fault.Part.TheVariants as part
use Rattle.audit_model.proofs.Options.{or_of_none}
use Rattle.serde_json.specs.Data.{Data, Members, null}
use Rattle.serde_json.specs.Find.{get, as_bool, as_object}
use Rattle.audit_statement.specs.Reading.{Document, document, bad_part, is_no_flag, list_at, list_of, refused_if}

-- if the test fails, there is no fault
pub not_refused : {A : Type 0} → (b : Bool) (f : A) → b ≡ false → refused_if b f ≡ None
not_refused b f e = cond-false b (Some f) None e

-- if the test passes, there is the fault
pub is_refused : {A : Type 0} → (b : Bool) (f : A) → b ≡ true → refused_if b f ≡ Some f
is_refused b f e = ap (λ t. refused_if t f) e

-- an option with a value is not empty
some_is_there : (o : Option Members) → is_some o ≡ true → is_none o ≡ false
some_is_there None e = sym e
some_is_there (Some x) e = refl

-- a flag that is a Boolean or missing reads as it should
pub flag_good : (o : Option Bool) (a : Bool) (P : Bool → Type 0) → MatchOption o (a ≡ true) (λ flag. (a ≡ false) × P flag) → is_some o ≡ true → a ≡ false
flag_good None a P h there = cc there
flag_good (Some b) a P h there = h.0

-- a root with both lists and Boolean flags has no part of wrong shape
pub parts_good : (root : Data) (nodes adjacency : List Data) → is_some (as_object root) ≡ true → Some nodes ≡ list_at (codes "nodes") root → Some adjacency ≡ list_at (codes "adjacency") root
    → list_all (λ d. is_some (list_of d)) adjacency ≡ true → is_no_flag (codes "directed") root ≡ false → is_no_flag (codes "multigraph") root ≡ false → bad_part root ≡ None
parts_good root nodes adjacency is_object has_nodes has_lists lists directed multigraph =
    or_of_none (refused_if (is_none (as_object root)) part.Root) _ (not_refused (is_none (as_object root)) part.Root (some_is_there (as_object root) is_object))
    (or_of_none (refused_if (is_none (list_at (codes "nodes") root)) part.Nodes) _ (not_refused (is_none (list_at (codes "nodes") root)) part.Nodes (ap is_none (sym has_nodes)))
    (or_of_none (refused_if (not (list_all (λ d. is_some (list_of d)) (unwrap_or (list_at (codes "adjacency") root) (null ∷ [])))) part.Adjacency) _
    (not_refused (not (list_all (λ d. is_some (list_of d)) (unwrap_or (list_at (codes "adjacency") root) (null ∷ [])))) part.Adjacency
    (ap (λ o. not (list_all (λ d. is_some (list_of d)) (unwrap_or o (null ∷ [])))) (sym has_lists) ∙ not_from_true (list_all (λ d. is_some (list_of d)) adjacency) lists))
    (or_of_none (refused_if (is_no_flag (codes "directed") root) part.Directed) _ (not_refused (is_no_flag (codes "directed") root) part.Directed directed)
    (or_of_none (refused_if (is_no_flag (codes "multigraph") root) part.Multigraph) None (not_refused (is_no_flag (codes "multigraph") root) part.Multigraph multigraph) refl))))

-- the document with these nodes, adjacency lists and flag
document_from : List Data → List (List Data) → Bool → Document
document_from nodes adjacency directed = record { nodes = nodes; adjacency = adjacency; directed = directed }

-- the document of a root consists of its three parts
pub document_is : (root : Data) (nodes adjacency : List Data) (directed : Bool) → Some nodes ≡ list_at (codes "nodes") root → Some adjacency ≡ list_at (codes "adjacency") root
    → unwrap_or (option_and_then as_bool (get (codes "directed") root)) false ≡ directed
    → document root ≡ record { nodes = nodes; adjacency = map (λ d. unwrap_or (list_of d) []) adjacency; directed = directed }
document_is root nodes adjacency directed has_nodes has_lists flag =
    ap (λ o. record { nodes = unwrap_or o []; adjacency = (document root).adjacency; directed = (document root).directed }) (sym has_nodes)
    ∙ ap (λ o. record { nodes = nodes; adjacency = map (λ d. unwrap_or (list_of d) []) (unwrap_or o []); directed = (document root).directed }) (sym has_lists)
    ∙ ap (λ b. record { nodes = nodes; adjacency = map (λ d. unwrap_or (list_of d) []) adjacency; directed = b }) flag
