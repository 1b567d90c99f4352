use Rattle.std.proofs.Common.{◌≡◌, Option, Some, None, Ok, sym, ap, subst, ◌∙◌, inl, inr, arith}
use Rattle.dual_json.specs.Values.{value_data}
use Rattle.audit_model.specs.Limits.{AreRegions}
use Rattle.audit_model.proofs.Results.{match_map, ok_map}
use Rattle.audit_statement.specs.Regions.{regions, regions_or}
use Rattle.dual_json.specs.Shape.{document_of_parts}
use Rattle.dual_json.proofs.Listed.{length-views}
use Rattle.dual_json.proofs.Regioned.{part_none, few_nodes, units_are, region_reading_of}
use Rattle.dual_json.proofs.regions.regions_beside.Goals as goal

pub regions_in-numbers-requires : goal.regions_in-numbers-requires
regions_in-numbers-requires c =
    let g = c.requires.graph in
    let few = few_nodes c.args.bytes.now g.columns (value_data c.in-Ok.root) g.parsed c.in-Ok.ensures g.accepted (document_of_parts c.in-Ok-parts_of.parts) c.in-Ok-parts_of.ensures.1 in
    omega (arith, few, length-views c.in-Ok-parts_of.parts.nodes.now)

pub unreachable-requires : goal.unreachable-requires
unreachable-requires c =
    let g = c.requires.graph in
    none_some _ _ (part_none c.args.bytes.now g.columns (value_data c.in-Ok.root) g.parsed c.in-Ok.ensures g.accepted) c.in-Err-parts_of.ensures
  where
    none_some : {A : Type 0} → (o : Option A) (a : A) → o ≡ None → o ≡ Some a → ⊥
    none_some None a e f = cc f
    none_some (Some b) a e f = cc e

pub returns-in-Ok-parts_of-clause-read : goal.returns-in-Ok-parts_of-clause-read
returns-in-Ok-parts_of-clause-read c =
    let d = document_of_parts c.in-Ok-parts_of.parts in
    let column = c.args.column.now in
    let read = region_reading_of c.args.bytes.now column (value_data c.in-Ok.root) d c.in-Ok.ensures c.in-Ok-parts_of.ensures.1 in
    match_map c.regions_in-numbers.result _ _ _ _ c.regions_in-numbers.ensures.read
    (λ numbers h. read ∙ ap (regions_or (regions d column)) h.0 ∙ ap Ok h.1)
    (λ f h. elim h [
      | inl m ↦ inl m
      | inr e ↦ inr (read ∙ ap (regions_or (regions d column)) e)
    ])

pub returns-in-Ok-parts_of-clause-within : goal.returns-in-Ok-parts_of-clause-within
returns-in-Ok-parts_of-clause-within c =
    let d = document_of_parts c.in-Ok-parts_of.parts in
    ok_map c.regions_in-numbers.result _ _ c.regions_in-numbers.ensures.within
    (λ numbers h columns parsed accepted.
    let units = units_are c.args.bytes.now columns (value_data c.in-Ok.root) parsed c.in-Ok.ensures accepted d c.in-Ok-parts_of.ensures.1 in
    subst (λ n. AreRegions n numbers) (sym (units ∙ length-views c.in-Ok-parts_of.parts.nodes.now)) h)
