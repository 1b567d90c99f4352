use Rattle.std.proofs.Common.{◌≡◌, ℕ, ◌≤◌, List, length, subst, None, Some, Err, refl, sym, ap, ◌∙◌, inl, inr, arith}
use Rattle.std.specs.Prelude.{◌⊎◌}
use Rattle.std.proofs.lemmas.List.{length-map}
use Rattle.std.proofs.lemmas.Result.{err_from_is_err_and}
use Rattle.audit_model.specs.declared.fault.GraphFault.{GraphFault}
use Rattle.audit_model.specs.declared.fault.GraphFault.TheVariants.{Memory}
use Rattle.audit_model.specs.declared.setting.Columns.{Columns}
use Rattle.audit_model.specs.declared.setting.Label.{Label}
use Rattle.audit_model.specs.Graph.{Graph}
use Rattle.audit_model.specs.Limits.{AreFrozen, AreWithin, IsGroup}
use Rattle.audit_model.proofs.First.{or_some}
use Rattle.audit_model.proofs.Options.{none_or, or_of_none}
use Rattle.audit_model.proofs.Results.{err_at}
use Rattle.dual_graph.specs.Read.{parsed_of}
use Rattle.dual_graph.specs.declared.parsed.Parsed.{Parsed}
use Rattle.audit_statement.specs.Reading.{Document, label_count, length_fault, refusal}
use Rattle.dual_json.specs.Districts.{district_count_fault, different_count}
use Rattle.dual_json.specs.Lengths.{lengths_if_named}
use Rattle.dual_json.specs.Names.{label_from}
use Rattle.dual_json.specs.Places.{AreLabels, labels_from}
use Rattle.dual_json.specs.Shape.{views, lists_in, document_of_parts}
use Rattle.dual_json.specs.Stages.{graph_fault, labels_fault}
use Rattle.dual_json.specs.declared.names.NodeName.{NodeName}
use Rattle.dual_json.specs.declared.read.Numbers.{Numbers}
use Rattle.dual_json.specs.declared.read.Districts.{Districts}
use Rattle.dual_json.proofs.Bridge.{refusal_is, different_same, parsed_is, rows_are, within_is, frozen_is, group_is}
use Rattle.dual_json.proofs.Measured.{length_fault_same, lengths_are, lengths_same}
use Rattle.dual_json.proofs.Listed.{length-lists_in, length-views}
use Rattle.dual_json.proofs.read.read_parts.Goals as goal

-- the faults of the districts and the lengths
module _ (d : Document) (columns : Columns) (labels : List Label) (graph_none : graph_fault d ≡ None) (labels_none : labels_fault columns d.nodes ≡ None)
    (are : AreLabels columns.district d.nodes labels) where
  count_is : (n : ℕ) → different_count labels ≡ n → district_count_fault (label_count d columns) ≡ district_count_fault n
  count_is n is = ap district_count_fault (different_same d columns labels are) ∙ ap district_count_fault is

  count_refused : (n : ℕ) (f : GraphFault) → different_count labels ≡ n → district_count_fault n ≡ Some f → refusal d columns ≡ Some f
  count_refused n f is some = refusal_is d columns ∙ none_or (graph_fault d) _ graph_none ∙ none_or (labels_fault columns d.nodes) _ labels_none
      ∙ or_some (district_count_fault (label_count d columns)) _ f (count_is n is ∙ some)

  length_refused : (n : ℕ) (f : GraphFault) → different_count labels ≡ n → district_count_fault n ≡ None → length_fault d columns ≡ Some f → refusal d columns ≡ Some f
  length_refused n f is none some = refusal_is d columns ∙ none_or (graph_fault d) _ graph_none ∙ none_or (labels_fault columns d.nodes) _ labels_none
      ∙ none_or (district_count_fault (label_count d columns)) _ (count_is n is ∙ none) ∙ some

  unrefused : (n : ℕ) → different_count labels ≡ n → district_count_fault n ≡ None → length_fault d columns ≡ None → refusal d columns ≡ None
  unrefused n is none fine = refusal_is d columns ∙ or_of_none (graph_fault d) _ graph_none (or_of_none (labels_fault columns d.nodes) _ labels_none
      (or_of_none (district_count_fault (label_count d columns)) _ (count_is n is ∙ none) fine))

pub returns-in_err-made-clause-read : goal.returns-in_err-made-clause-read
returns-in_err-made-clause-read c =
    let f = c.in_err-made.field-0.0 in
    let p = err_from_is_err_and c.from_residual.result c.from_residual.ensures.1 in
    let e : c.from_residual.result ≡ Err f = p.1 ∙ ap Err p.2 in
    let d : Document = document_of_parts c.args.parts.now in
    let columns = c.args.columns.now in
    let why : (f ≡ Memory) ⊎ (refusal d columns ≡ Some f) = elim c.in_err-made.ensures [
      | inl m ↦ inl m
      | inr h ↦ inr (refusal_is d columns ∙ or_some (graph_fault d) _ f h)
    ] in
    err_at c.from_residual.result f _ _ e why

pub names_in-requires : goal.names_in-requires
names_in-requires c = c.in_ok-made.ensures.2

pub districts_of-requires : goal.districts_of-requires
districts_of-requires c =
    let names = c.in_ok-names.names.items in
    let nodes = c.args.parts.now.nodes.now in
    let same : length c.deref.result.now ≡ length names = ap (λ (ns : List NodeName). length ns) c.deref.ensures.value in
    let few : length nodes ≤ 100000 = c.in_ok-made.ensures.2 in
    let count = c.in_ok-names.ensures.1.count in
    omega (arith, same, few, count, length-map names label_from, length-views nodes)

pub lengths_in-requires-clause-as_many : goal.lengths_in-requires-clause-as_many
lengths_in-requires-clause-as_many c = c.in_ok-made.ensures.6

pub lengths_in-requires-clause-few : goal.lengths_in-requires-clause-few
lengths_in-requires-clause-few c =
    let nodes = c.args.parts.now.nodes.now in
    let few : length nodes ≤ 100000 = c.in_ok-made.ensures.2 in
    let count = c.in_ok-made.ensures.5.count in
    let as_many = c.in_ok-made.ensures.6 in
    omega (arith, few, count, as_many, length-views nodes)

pub lengths_in-requires-clause-units : goal.lengths_in-requires-clause-units
lengths_in-requires-clause-units c = ap (λ (g : Graph). g.units) (sym c.in_ok-made.ensures.1) ∙ sym c.in_ok-made.ensures.5.count

pub returns-in_err-districts-clause-read : goal.returns-in_err-districts-clause-read
returns-in_err-districts-clause-read c =
    let f = c.in_err-districts.field-0.0 in
    let p = err_from_is_err_and c.from_residual-in_err-districts.result c.from_residual-in_err-districts.ensures.1 in
    let e : c.from_residual-in_err-districts.result ≡ Err f = p.1 ∙ ap Err p.2 in
    let d : Document = document_of_parts c.args.parts.now in
    let columns = c.args.columns.now in
    let labels : List Label = labels_from c.in_ok-names.names.items in
    let why : (f ≡ Memory) ⊎ (refusal d columns ≡ Some f) = elim c.in_err-districts.ensures [
      | inl m ↦ inl m
      | inr h ↦ inr (count_refused d columns labels c.in_ok-made.ensures.0 c.in_ok-names.ensures.0 c.in_ok-names.ensures.1
          (different_count (labels_from c.deref.result.now)) f (ap (λ (ns : List NodeName). different_count (labels_from ns)) (sym c.deref.ensures.value)) h)
    ] in
    err_at c.from_residual-in_err-districts.result f _ _ e why

pub returns-in_err-names-clause-read : goal.returns-in_err-names-clause-read
returns-in_err-names-clause-read c =
    let f = c.in_err-names.field-0.0 in
    let p = err_from_is_err_and c.from_residual-in_err-names.result c.from_residual-in_err-names.ensures.1 in
    let e : c.from_residual-in_err-names.result ≡ Err f = p.1 ∙ ap Err p.2 in
    let d : Document = document_of_parts c.args.parts.now in
    let columns = c.args.columns.now in
    let why : (f ≡ Memory) ⊎ (refusal d columns ≡ Some f) = elim c.in_err-names.ensures [
      | inl m ↦ inl m
      | inr h ↦ inr (refusal_is d columns ∙ none_or (graph_fault d) _ c.in_ok-made.ensures.0 ∙ or_some (labels_fault columns d.nodes) _ f h)
    ] in
    err_at c.from_residual-in_err-names.result f _ _ e why

pub returns-in_err-lengths-clause-read : goal.returns-in_err-lengths-clause-read
returns-in_err-lengths-clause-read c =
    let f = c.in_err-lengths.field-0.0 in
    let p = err_from_is_err_and c.from_residual-in_err-lengths.result c.from_residual-in_err-lengths.ensures.1 in
    let e : c.from_residual-in_err-lengths.result ≡ Err f = p.1 ∙ ap Err p.2 in
    let d : Document = document_of_parts c.args.parts.now in
    let columns = c.args.columns.now in
    let labels : List Label = labels_from c.in_ok-names.names.items in
    let are = c.in_ok-made.ensures.5 in
    let long = sym are.count ∙ c.in_ok-made.ensures.6 ∙ sym (length-lists_in c.args.parts.now.adjacency.now) in
    let why : (f ≡ Memory) ⊎ (refusal d columns ≡ Some f) = elim c.in_err-lengths.ensures [
      | inl m ↦ inl m
      | inr h ↦ inr (length_refused d columns labels c.in_ok-made.ensures.0 c.in_ok-names.ensures.0 c.in_ok-names.ensures.1
          (different_count (labels_from c.deref.result.now)) f (ap (λ (ns : List NodeName). different_count (labels_from ns)) (sym c.deref.ensures.value)) c.in_ok-districts.ensures.0
          (length_fault_same d columns c.in_ok-made.made.index are long ∙ h))
    ] in
    err_at c.from_residual-in_err-lengths.result f _ _ e why

pub returns-in-Err-clause-read : goal.returns-in-Err-clause-read
returns-in-Err-clause-read c = inl refl

-- the parts of the result
abbrev parts : Graph → Numbers → Districts → List ℕ → Parsed
parts g numbers plan lengths = record { graph = g; counts = record numbers.counts { lengths = lengths }; group = numbers.group; frozen = numbers.frozen; start = plan.start; labels = plan.labels }

pub returns-in-Ok-clause-read : goal.returns-in-Ok-clause-read
returns-in-Ok-clause-read c =
    let d : Document = document_of_parts c.args.parts.now in
    let columns = c.args.columns.now in
    let labels : List Label = labels_from c.in_ok-names.names.items in
    let are = c.in_ok-made.ensures.5 in
    let long = sym are.count ∙ c.in_ok-made.ensures.6 ∙ sym (length-lists_in c.args.parts.now.adjacency.now) in
    let numbers = c.in-Ok.numbers in
    let plan = c.in_ok-districts.districts in
    let lengths = c.in_ok-lengths.lengths in
    let made = c.in_ok-made.made.graph in
    let is : c.with.result ≡ parts made numbers plan lengths = c.with.ensures ∙ ap (λ (g : Graph). parts g numbers plan lengths) c.into_graph.ensures in (
      unrefused d columns labels c.in_ok-made.ensures.0 c.in_ok-names.ensures.0 c.in_ok-names.ensures.1
          (different_count (labels_from c.deref.result.now)) (ap (λ (ns : List NodeName). different_count (labels_from ns)) (sym c.deref.ensures.value)) c.in_ok-districts.ensures.0
          (length_fault_same d columns c.in_ok-made.made.index are long ∙ c.in_ok-lengths.ensures.0),
      parsed_is d columns made (record numbers.counts { lengths = lengths }) numbers.group numbers.frozen plan.start plan.labels c.in_ok-made.ensures.1
          (rows_are d.nodes columns numbers.counts numbers.group numbers.frozen plan.start plan.labels lengths (labels_from c.deref.result.now) c.in-Ok.ensures
          (subst (λ (ns : List NodeName). AreLabels columns.district d.nodes (labels_from ns)) (sym c.deref.ensures.value) c.in_ok-names.ensures.1)
          c.in_ok-districts.ensures.1 c.in_ok-districts.ensures.2 c.in_ok-districts.ensures.3)
          (c.in_ok-lengths.ensures.1
          ∙ ap (λ (g : Graph). lengths_if_named columns.length c.in_ok-made.made.index d.adjacency g) (sym c.in_ok-made.ensures.1)
          ∙ sym (lengths_same d columns c.in_ok-made.made.index are long))
          ∙ ap (λ (p : Parsed). parsed_of p) (sym is),
    )

pub returns-in-Ok-clause-within : goal.returns-in-Ok-clause-within
returns-in-Ok-clause-within c =
    let nodes = views c.args.parts.now.nodes.now in
    let columns = c.args.columns.now in
    let few = c.in_ok-made.ensures.2 in
    let numbers = c.in-Ok.numbers in
    let plan = c.in_ok-districts.districts in
    let lengths = c.in_ok-lengths.lengths in
    let made = c.in_ok-made.made.graph in
    let is : c.with.result ≡ parts made numbers plan lengths = c.with.ensures ∙ ap (λ (g : Graph). parts g numbers plan lengths) c.into_graph.ensures in
    subst (λ (p : Parsed). AreWithin p.graph p.counts p.start (length p.labels)) (sym is)
    (within_is nodes columns made (record numbers.counts { lengths = lengths }) numbers.group numbers.frozen plan.start plan.labels c.in_ok-made.ensures.3
    (ap (λ (g : Graph). g.units) (sym c.in_ok-made.ensures.1)) (omega (arith, few, length-views c.args.parts.now.nodes.now)) c.in_ok-made.ensures.4
    (rows_are nodes columns numbers.counts numbers.group numbers.frozen plan.start plan.labels lengths (labels_from c.deref.result.now) c.in-Ok.ensures
    (subst (λ (ns : List NodeName). AreLabels columns.district nodes (labels_from ns)) (sym c.deref.ensures.value) c.in_ok-names.ensures.1)
    c.in_ok-districts.ensures.1 c.in_ok-districts.ensures.2 c.in_ok-districts.ensures.3)
    (lengths_are columns.length c.in_ok-made.made.index (lists_in c.args.parts.now.adjacency.now) made c.in_ok-made.ensures.3 lengths c.in_ok-lengths.ensures.1))

pub returns-in-Ok-clause-group : goal.returns-in-Ok-clause-group
returns-in-Ok-clause-group c =
    let numbers = c.in-Ok.numbers in
    let plan = c.in_ok-districts.districts in
    let lengths = c.in_ok-lengths.lengths in
    let made = c.in_ok-made.made.graph in
    let is : c.with.result ≡ parts made numbers plan lengths = c.with.ensures ∙ ap (λ (g : Graph). parts g numbers plan lengths) c.into_graph.ensures in
    subst (λ (p : Parsed). IsGroup p.graph.units p.group) (sym is)
    (group_is (views c.args.parts.now.nodes.now) c.args.columns.now made.units numbers.group c.in-Ok.ensures.grouped (ap (λ (g : Graph). g.units) (sym c.in_ok-made.ensures.1)))

pub returns-in-Ok-clause-frozen : goal.returns-in-Ok-clause-frozen
returns-in-Ok-clause-frozen c =
    let numbers = c.in-Ok.numbers in
    let plan = c.in_ok-districts.districts in
    let lengths = c.in_ok-lengths.lengths in
    let made = c.in_ok-made.made.graph in
    let is : c.with.result ≡ parts made numbers plan lengths = c.with.ensures ∙ ap (λ (g : Graph). parts g numbers plan lengths) c.into_graph.ensures in
    subst (λ (p : Parsed). AreFrozen p.graph.units p.frozen) (sym is)
    (frozen_is (views c.args.parts.now.nodes.now) c.args.columns.now made.units numbers.frozen c.in-Ok.ensures.freezing (ap (λ (g : Graph). g.units) (sym c.in_ok-made.ensures.1)))
