-- The ids that are read against their definition.
use Rattle.std.proofs.Common.{◌≡◌, ℕ, ◌<◌, List, [], length, Option, Some, None, sym, ap, ◌∙◌, arith}
use Rattle.std.specs.Prelude.{cond, codes, nat_lt, unwrap_or}
use Rattle.std.specs.Option.{option_map, option_or}
use Rattle.std.specs.Str.{is_utf8}
use Rattle.std.proofs.lemmas.List.{ext_get_or}
use Rattle.serde_json.specs.Data.{Data}
use Rattle.serde_json.specs.Read.{read}
use Rattle.audit_model.specs.declared.fault.GraphFault.{GraphFault}
use Rattle.audit_model.specs.declared.fault.GraphFault.TheVariants as fault
use Rattle.audit_model.specs.declared.setting.Columns.{Columns}
use Rattle.audit_model.specs.declared.setting.Label.{Label}
use Rattle.audit_model.specs.declared.setting.Label.TheVariants.{Word}
use Rattle.audit_model.specs.Below.{map_below}
use Rattle.audit_model.proofs.Options.{option_map_none, option_or_none}
use Rattle.audit_model.proofs.Below.{length-map_below, get_or-map_below}
use Rattle.audit_statement.specs.Reading.{Document, document, id_of, label_count, length_fault, node, node_count, refusal, refused_if}
use Rattle.audit_statement.specs.Regions.{id_reading}
use Rattle.dual_json.specs.Districts.{district_count_fault}
use Rattle.dual_json.specs.Edges.{is_unnamed}
use Rattle.dual_json.specs.Places.{first_unnamed, AreLabels}
use Rattle.dual_json.specs.Shape.{frame_fault}
use Rattle.dual_json.specs.Stages.{edge_count, entry_fault, graph_fault, ids_fault, is_unknown_neighbor, labels_fault, repeated_in}
use Rattle.dual_json.proofs.Bridge.{refusal_is}
use Rattle.dual_json.proofs.Regioned.{document_is_of}

-- the faults after those of the ids
later : Document → Option GraphFault
later d = option_or (entry_fault d is_unnamed fault.BadNeighbour) (option_or (entry_fault d (is_unknown_neighbor d.nodes) fault.UnknownNeighbour)
    (refused_if (nat_lt 400000 (edge_count d)) (fault.TooManyEdges (edge_count d))))

-- without a fault, each node has an id
pub all_named : (d : Document) (columns : Columns) → refusal d columns ≡ None → first_unnamed (codes "id") d.nodes ≡ None
unfolding later
all_named d columns none =
    let whole : graph_fault d ≡ None =
    (option_or_none (graph_fault d) (option_or (labels_fault columns d.nodes) (option_or (district_count_fault (label_count d columns)) (length_fault d columns))) (sym (refusal_is d columns) ∙ none)).0 in
    let ids : ids_fault d.nodes ≡ None =
    (option_or_none (ids_fault d.nodes) (later d) (option_or_none (frame_fault d.directed (length d.nodes) (length d.adjacency)) (option_or (ids_fault d.nodes) (later d)) whole).1).0 in
    option_map_none fault.BadId (first_unnamed (codes "id") d.nodes) (option_or_none (option_map fault.BadId (first_unnamed (codes "id") d.nodes)) (repeated_in d.nodes) ids).0

-- the ids of the nodes of a document
ids_in : Document → List Label
ids_in d = map_below (node_count d) (λ i. unwrap_or (id_of (node d i)) (Word []))

-- the labels at the key of ids are the ids of the bytes
pub ids_are : (bytes : List ℕ) (root : Data) (d : Document) (ids : List Label) → cond (is_utf8 bytes) (read bytes) None ≡ Some root → document root ≡ d → AreLabels (codes "id") d.nodes ids → ids ≡ id_reading bytes
unfolding id_reading ids_in
ids_are bytes root d ids is same are =
    let f = λ (i : ℕ). unwrap_or (id_of (node d i)) (Word []) in
    let found : map_below (length d.nodes) f ≡ ids =
    ext_get_or (Word []) (map_below (length d.nodes) f) ids (length-map_below (length d.nodes) f ∙ sym are.count)
    (λ i l.
    let inside : i < length d.nodes = omega (arith, l, length-map_below (length d.nodes) f) in
    get_or-map_below (length d.nodes) f i (Word []) inside ∙ ap (λ o. unwrap_or o (Word [])) (are.each i inside)) in
    sym (ap ids_in (document_is_of bytes root is ∙ same) ∙ found)
