use Rattle.std.proofs.Common.{◌≡◌, ℕ, List, Option, Some, None, sym, ap, subst, ◌∙◌, inl, inr}
use Rattle.audit_model.specs.declared.fault.RegionFault.TheVariants.{BadLabel}
use Rattle.audit_model.specs.declared.setting.Label.{Label}
use Rattle.audit_model.proofs.Results.{match_map, ok_from}
use Rattle.dual_json.specs.Numbered.{first_without}
use Rattle.audit_statement.specs.Regions.{region_fault}
use Rattle.dual_json.specs.Places.{labels_from, first_unnamed, AreLabels, MatchesUnnamed}
use Rattle.dual_json.specs.Shape.{views, document_of_parts}
use Rattle.dual_json.specs.declared.names.NodeName.{NodeName}
use Rattle.dual_json.specs.declared.names.Unnamed.{Unnamed}
use Rattle.dual_json.specs.declared.names.Unnamed.TheVariants.{At, Memory as NoMemory}
use Rattle.dual_json.proofs.Listed.{length-views}
use Rattle.dual_json.proofs.Regioned.{fault_unlabelled, fault_many, fault_none, regions_are, regions_within}
use Rattle.dual_json.proofs.regions.regions_in.Goals as goal

pub returns-in-Ok-clause-read : goal.returns-in-Ok-clause-read
returns-in-Ok-clause-read c =
    let d = document_of_parts c.args.parts.now in
    let column = c.args.column.now in
    let labels : List Label = labels_from c.deref.result.now in
    let all : first_without column d.nodes ≡ None = sym c.first_missing.ensures ∙ c.in_default.is in
    let named : first_unnamed column d.nodes ≡ None = subst (λ k. first_unnamed k d.nodes ≡ None) c.as_str.ensures c.in-Ok.ensures.0 in
    let are : AreLabels column d.nodes labels = subst (λ k. AreLabels k d.nodes labels) c.as_str.ensures
    (subst (λ (ns : List NodeName). AreLabels c.as_str.result.now d.nodes (labels_from ns)) (sym c.deref.ensures.value) c.in-Ok.ensures.1) in
    match_map c.numbers_of.result _ _ _ _ c.numbers_of.ensures
    (λ numbers h. (fault_none d column labels all named are h.0, regions_are d column labels numbers are h.1))
    (λ f h. elim h [
      | inl m ↦ inl m
      | inr e ↦ inr (fault_many d column labels all named are e.1 ∙ ap Some (sym e.0))
    ])

pub returns-in-Ok-clause-within : goal.returns-in-Ok-clause-within
returns-in-Ok-clause-within c =
    let nodes = views c.args.parts.now.nodes.now in
    let column = c.args.column.now in
    let labels : List Label = labels_from c.deref.result.now in
    let are : AreLabels column nodes labels = subst (λ k. AreLabels k nodes labels) c.as_str.ensures
    (subst (λ (ns : List NodeName). AreLabels c.as_str.result.now nodes (labels_from ns)) (sym c.deref.ensures.value) c.in-Ok.ensures.1) in
    ok_from c.numbers_of.result _ _ _ c.numbers_of.ensures
    (λ numbers h. regions_within nodes column labels numbers _ (sym (length-views c.args.parts.now.nodes.now)) are h.1)

pub returns-in-Err-At-clause-read : goal.returns-in-Err-At-clause-read
returns-in-Err-At-clause-read c =
    let d = document_of_parts c.args.parts.now in
    let column = c.args.column.now in
    let all : first_without column d.nodes ≡ None = sym c.first_missing.ensures ∙ c.in_default.is in
    let bad : first_unnamed column d.nodes ≡ Some c.in-Err-At.node = observed c.in-Err-At.field-0 _ c.in-Err-At.node
    (subst (λ k. MatchesUnnamed c.in-Err-At.field-0 (first_unnamed k d.nodes)) c.as_str.ensures (c.in-Err-At.ensures {u = tt})) c.in-Err-At.field-0-is in
    inr (subst (λ n. region_fault d column ≡ Some (BadLabel n)) (sym c.in-Err-At.node-is) (fault_unlabelled d column c.in-Err-At.node all bad))
  where
    observed : (why : Unnamed) (found : Option ℕ) (node : ℕ) → MatchesUnnamed why found → why ≡ At node → found ≡ Some node
    observed (At i) found node reason is = reason ∙ ap Some (cc is)
    observed NoMemory found node reason is = cc is
