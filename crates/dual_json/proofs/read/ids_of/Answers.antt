use Rattle.std.proofs.Common.{◌≡◌, List, None, sym, ap, subst, ◌∙◌, inl, inr}
use Rattle.std.specs.Prelude.{codes}
use Rattle.std.specs.Option.{option_map}
use Rattle.audit_model.specs.declared.fault.GraphFault.TheVariants.{BadId}
use Rattle.audit_model.specs.declared.setting.Label.{Label}
use Rattle.audit_model.proofs.Options.{none_or, or_of_none}
use Rattle.audit_model.proofs.Results.{match_map}
use Rattle.dual_json.specs.Places.{labels_from, first_unnamed, repeated_label, AreLabels}
use Rattle.dual_json.specs.Shape.{views}
use Rattle.dual_json.specs.Stages.{repeated_in}
use Rattle.dual_json.proofs.Bridge.{repeated_same}
use Rattle.dual_json.proofs.read.ids_of.Goals as goal

pub returns-in-Ok : goal.returns-in-Ok
returns-in-Ok c =
    let nodes = views c.args.nodes.now in
    let ids : List Label = labels_from c.in-Ok.names.items in
    let named = ap (option_map BadId) c.in-Ok.ensures.0 in
    match_map c.of.result _ _ _ _ c.of.ensures
    (λ index h. (
      or_of_none (option_map BadId (first_unnamed (codes "id") nodes)) (repeated_in nodes) named (repeated_same nodes ids c.in-Ok.ensures.1 ∙ h.0),
      subst (λ (ls : List Label). AreLabels (codes "id") nodes ls) (sym h.1) c.in-Ok.ensures.1,
      subst (λ (ls : List Label). repeated_label ls ≡ None) (sym h.1) h.0,
    ))
    (λ f h. elim h [
      | inl e ↦ inl e
      | inr e ↦ inr (none_or (option_map BadId (first_unnamed (codes "id") nodes)) (repeated_in nodes) named ∙ repeated_same nodes ids c.in-Ok.ensures.1 ∙ e)
    ])
