use Rattle.std.proofs.Common.{◌≡◌, Option, Some, None, sym, ◌∙◌, arith}
use Rattle.audit_model.proofs.Results.{ok_map}
use Rattle.dual_json.specs.Values.{value_data}
use Rattle.dual_json.specs.Shape.{document_of_parts}
use Rattle.dual_json.proofs.Identified.{all_named, ids_are}
use Rattle.dual_json.proofs.Listed.{length-views}
use Rattle.dual_json.proofs.Regioned.{part_none, document_read, few_nodes, units_are}
use Rattle.dual_json.proofs.ids.ids_beside.Goals as goal

pub ids_in-ids-requires-clause-few : goal.ids_in-ids-requires-clause-few
ids_in-ids-requires-clause-few c =
    let g = c.requires.graph in
    let few = few_nodes c.args.bytes.now g.columns (value_data c.in-Ok.root) g.parsed c.in-Ok.ensures g.accepted (document_of_parts c.in-Ok-parts_of.parts) c.in-Ok-parts_of.ensures.1 in
    omega (arith, few, length-views c.in-Ok-parts_of.parts.nodes.now)

pub ids_in-ids-requires-clause-named : goal.ids_in-ids-requires-clause-named
ids_in-ids-requires-clause-named c =
    let g = c.requires.graph in
    all_named (document_of_parts c.in-Ok-parts_of.parts) g.columns
    (document_read c.args.bytes.now g.columns (value_data c.in-Ok.root) g.parsed c.in-Ok.ensures g.accepted (document_of_parts c.in-Ok-parts_of.parts) c.in-Ok-parts_of.ensures.1).0

pub unreachable-requires : goal.unreachable-requires
unreachable-requires c =
    let g = c.requires.graph in
    none_some _ _ (part_none c.args.bytes.now g.columns (value_data c.in-Ok.root) g.parsed c.in-Ok.ensures g.accepted) c.in-Err-parts_of.ensures
  where
    none_some : {A : Type 0} → (o : Option A) (a : A) → o ≡ None → o ≡ Some a → ⊥
    none_some None a e f = cc f
    none_some (Some b) a e f = cc e

pub returns-in-Ok-parts_of-clause-read : goal.returns-in-Ok-parts_of-clause-read
returns-in-Ok-parts_of-clause-read c =
    ok_map c.ids_in-ids.result _ _ c.ids_in-ids.ensures
    (λ ids h. ids_are c.args.bytes.now (value_data c.in-Ok.root) (document_of_parts c.in-Ok-parts_of.parts) ids c.in-Ok.ensures c.in-Ok-parts_of.ensures.1 h)

pub returns-in-Ok-parts_of-clause-width : goal.returns-in-Ok-parts_of-clause-width
returns-in-Ok-parts_of-clause-width c =
    ok_map c.ids_in-ids.result _ _ c.ids_in-ids.ensures
    (λ ids h columns parsed accepted.
    h.count ∙ sym (units_are c.args.bytes.now columns (value_data c.in-Ok.root) parsed c.in-Ok.ensures accepted (document_of_parts c.in-Ok-parts_of.parts) c.in-Ok-parts_of.ensures.1))

pub returns-in-Ok-parts_of-clause-few : goal.returns-in-Ok-parts_of-clause-few
returns-in-Ok-parts_of-clause-few c =
    let g = c.requires.graph in
    let few = few_nodes c.args.bytes.now g.columns (value_data c.in-Ok.root) g.parsed c.in-Ok.ensures g.accepted (document_of_parts c.in-Ok-parts_of.parts) c.in-Ok-parts_of.ensures.1 in
    ok_map c.ids_in-ids.result _ _ c.ids_in-ids.ensures (λ ids h. omega (arith, h.count, few))
