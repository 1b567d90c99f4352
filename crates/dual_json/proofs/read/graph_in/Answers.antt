use Rattle.std.proofs.Common.{◌≡◌, ℕ, ◌≤◌, true, List, length, None, Some, Err, refl, sym, ap, subst, ◌∙◌, inl, inr}
use Rattle.audit_model.specs.declared.fault.GraphFault.{GraphFault}
use Rattle.audit_model.specs.declared.fault.GraphFault.TheVariants.{BadNeighbour, Memory}
use Rattle.audit_model.specs.declared.setting.Label.{Label}
use Rattle.audit_model.specs.Graph.{Graph, count_edges}
use Rattle.audit_model.proofs.Options.{none_or, or_of_none}
use Rattle.audit_model.proofs.First.{or_some}
use Rattle.audit_model.proofs.Results.{err_at}
use Rattle.std.specs.Prelude.{codes, ◌⊎◌}
use Rattle.std.proofs.lemmas.Result.{err_from_is_err_and}
use Rattle.audit_statement.specs.Reading.{Document}
use Rattle.dual_json.specs.Edges.{edges_fault, first_entry_in, is_unnamed}
use Rattle.dual_json.specs.Places.{AreLabels}
use Rattle.dual_json.specs.Shape.{views, lists_in, document_of_parts, frame_fault}
use Rattle.dual_json.specs.Stages.{ids_fault, entry_fault, graph_fault}
use Rattle.dual_json.proofs.Bridge.{entry_same, edges_same, graph_same}
use Rattle.dual_json.proofs.Listed.{length-views, length-lists_in}
use Rattle.dual_json.proofs.read.graph_in.Goals as goal

frame_here : (d : Document) (nodes adjacency : ℕ) → length d.nodes ≡ nodes → length d.adjacency ≡ adjacency → frame_fault d.directed nodes adjacency ≡ None
    → frame_fault d.directed (length d.nodes) (length d.adjacency) ≡ None
frame_here d nodes adjacency long lists none = ap (λ m. frame_fault d.directed m (length d.adjacency)) long ∙ ap (frame_fault d.directed nodes) lists ∙ none

pub returns-in_err-check_frame : goal.returns-in_err-check_frame
returns-in_err-check_frame c =
    let f = c.in_err-check_frame.field-0.0 in
    let p = err_from_is_err_and c.from_residual.result c.from_residual.ensures.1 in
    let e : c.from_residual.result ≡ Err f = p.1 ∙ ap Err p.2 in
    let nodes = c.args.parts.now.nodes.now in
    let lists = c.args.parts.now.adjacency.now in
    let directed = c.args.parts.now.directed in
    let frame : frame_fault directed (length (views nodes)) (length (lists_in lists)) ≡ Some f =
    ap (λ m. frame_fault directed m (length (lists_in lists))) (length-views nodes) ∙ ap (frame_fault directed (length nodes)) (length-lists_in lists) ∙ c.in_err-check_frame.ensures in
    err_at c.from_residual.result f _ _ e (inr (or_some (frame_fault directed (length (views nodes)) (length (lists_in lists))) _ f frame))

pub returns-in_err-index : goal.returns-in_err-index
returns-in_err-index c =
    let f = c.in_err-index.field-0.0 in
    let p = err_from_is_err_and c.from_residual-in_err-index.result c.from_residual-in_err-index.ensures.1 in
    let e : c.from_residual-in_err-index.result ≡ Err f = p.1 ∙ ap Err p.2 in
    let d : Document = document_of_parts c.args.parts.now in
    let nodes = c.args.parts.now.nodes.now in
    let lists = c.args.parts.now.adjacency.now in
    let frame = frame_here d (length nodes) (length lists) (length-views nodes) (length-lists_in lists) c.in_ok-check_frame.ensures.0 in
    let why : (f ≡ Memory) ⊎ (graph_fault d ≡ Some f) = elim c.in_err-index.ensures [
      | inl m ↦ inl m
      | inr h ↦ inr (none_or (frame_fault d.directed (length d.nodes) (length d.adjacency)) _ frame ∙ or_some (ids_fault d.nodes) _ f h)
    ] in
    err_at c.from_residual-in_err-index.result f _ _ e why

pub returns-in_err-check_entries : goal.returns-in_err-check_entries
returns-in_err-check_entries c =
    let f = c.in_err-check_entries.field-0.0 in
    let p = err_from_is_err_and c.from_residual-in_err-check_entries.result c.from_residual-in_err-check_entries.ensures.1 in
    let e : c.from_residual-in_err-check_entries.result ≡ Err f = p.1 ∙ ap Err p.2 in
    let d : Document = document_of_parts c.args.parts.now in
    let nodes = c.args.parts.now.nodes.now in
    let lists = c.args.parts.now.adjacency.now in
    let directed = c.args.parts.now.directed in
    let ids : List Label = c.in_ok-index.index in
    let are = c.in_ok-index.ensures.1 in
    let long : length (views nodes) ≡ length (lists_in lists) = length-views nodes ∙ c.in_ok-check_frame.ensures.1 ∙ sym (length-lists_in lists) in
    let frame : frame_fault directed (length (views nodes)) (length (lists_in lists)) ≡ None =
    ap (λ m. frame_fault directed m (length (lists_in lists))) (length-views nodes) ∙ ap (frame_fault directed (length nodes)) (length-lists_in lists) ∙ c.in_ok-check_frame.ensures.0 in
    err_at c.from_residual-in_err-check_entries.result f _ _ e (inr (none_or (frame_fault directed (length (views nodes)) (length (lists_in lists))) _ frame
    ∙ none_or (ids_fault (views nodes)) _ c.in_ok-index.ensures.0
    ∙ or_some (entry_fault d is_unnamed BadNeighbour) _ f (entry_same d ids are is_unnamed is_unnamed BadNeighbour long (λ x. refl) ∙ c.in_err-check_entries.ensures)))

-- the stages before the edges find no fault
module _ (d : Document) (ids : List Label) (are : AreLabels (codes "id") d.nodes ids) (long : length d.nodes ≡ length d.adjacency)
    (frame : frame_fault d.directed (length d.nodes) (length d.adjacency) ≡ None) (named : ids_fault d.nodes ≡ None)
    (entries : first_entry_in is_unnamed BadNeighbour d.adjacency ≡ None) where
  no_entry : entry_fault d is_unnamed BadNeighbour ≡ None
  no_entry = entry_same d ids are is_unnamed is_unnamed BadNeighbour long (λ x. refl) ∙ entries

  none_of : edges_fault ids d.adjacency ≡ None → graph_fault d ≡ None
  none_of none = or_of_none (frame_fault d.directed (length d.nodes) (length d.adjacency)) _ frame
      (or_of_none (ids_fault d.nodes) _ named (or_of_none (entry_fault d is_unnamed BadNeighbour) _ no_entry (edges_same d ids are long ∙ none)))

  some_of : (f : GraphFault) → edges_fault ids d.adjacency ≡ Some f → graph_fault d ≡ Some f
  some_of f some = none_or (frame_fault d.directed (length d.nodes) (length d.adjacency)) _ frame
      ∙ none_or (ids_fault d.nodes) _ named ∙ none_or (entry_fault d is_unnamed BadNeighbour) _ no_entry ∙ edges_same d ids are long ∙ some

pub returns-in-Ok : goal.returns-in-Ok
returns-in-Ok c =
    let d : Document = document_of_parts c.args.parts.now in
    let nodes = c.args.parts.now.nodes.now in
    let lists = c.args.parts.now.adjacency.now in
    let ids : List Label = c.in_ok-index.index in
    let are = c.in_ok-index.ensures.1 in
    let long : length (views nodes) ≡ length (lists_in lists) = length-views nodes ∙ c.in_ok-check_frame.ensures.1 ∙ sym (length-lists_in lists) in
    let frame = frame_here d (length nodes) (length lists) (length-views nodes) (length-lists_in lists) c.in_ok-check_frame.ensures.0 in
    let h = c.in-Ok.ensures in
    let few = h.3 in (
      none_of d ids are long frame c.in_ok-index.ensures.0 c.in_ok-check_entries.ensures h.0,
      graph_same d ids are ∙ sym h.1,
      c.in_ok-check_frame.ensures.2,
      h.2,
      subst (λ (x : Graph). count_edges x (λ u v. true) ≤ 400000) (sym h.1) few,
      are,
      are.count ∙ long ∙ length-lists_in lists,
    )

pub returns : goal.returns
returns c =
    let d : Document = document_of_parts c.args.parts.now in
    let nodes = c.args.parts.now.nodes.now in
    let lists = c.args.parts.now.adjacency.now in
    let ids : List Label = c.in_ok-index.index in
    let are = c.in_ok-index.ensures.1 in
    let long : length (views nodes) ≡ length (lists_in lists) = length-views nodes ∙ c.in_ok-check_frame.ensures.1 ∙ sym (length-lists_in lists) in
    let frame = frame_here d (length nodes) (length lists) (length-views nodes) (length-lists_in lists) c.in_ok-check_frame.ensures.0 in
    elim c.in-Err.ensures [
      | inl e ↦ inl e
      | inr e ↦ inr (some_of d ids are long frame c.in_ok-index.ensures.0 c.in_ok-check_entries.ensures c.in-Err.fault e)
    ]
