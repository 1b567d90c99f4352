use Rattle.std.proofs.Common.{sym, ap, ◌∙◌, inl, inr, arith}
use Rattle.std.specs.Option.{is_some}
use Rattle.std.proofs.lemmas.Bool.{cases_eq}
use Rattle.serde_json.specs.Find.{as_array}
use Rattle.dual_json.specs.Values.{value_data}
use Rattle.audit_statement.specs.Reading.{list_of}
use Rattle.dual_json.specs.Places.{object_at}
use Rattle.dual_json.specs.Shape.{views}
use Rattle.dual_json.proofs.Listed.{object_is, is_some-elements, list_all_from, list_all_fails, length-views}
use Rattle.dual_json.proofs.shape.are_lists.Goals as goal

pub loop-value-init : goal.loop-value-init
loop-value-init c = λ k l. absurd (omega (arith, l))

pub returns-then-not-is_array : goal.returns-then-not-is_array
returns-then-not-is_array c =
    let l = c.loop-value-test.true in
    sym (list_all_fails (λ d. is_some (list_of d)) (views c.args.values.now) c.loop-value.value-index (omega (arith, l, length-views c.args.values.now))
    (ap (λ d. is_some (list_of d)) (object_is c.args.values.now c.loop-value.value-index c.value-item.result l c.value-item.is)
    ∙ is_some-elements (as_array (value_data c.value-item.result)) ∙ sym c.is_array.ensures ∙ c.if-not-is_array.true))

pub loop-value-preserved : goal.loop-value-preserved
loop-value-preserved c = λ k under. elim (cases_eq k c.loop-value.value-index) [
  | inl e ↦
      let l = c.loop-value-test.true in
      ap (λ j. is_some (list_of (object_at (views c.args.values.now) j))) e
      ∙ ap (λ d. is_some (list_of d)) (object_is c.args.values.now c.loop-value.value-index c.value-item.result l c.value-item.is)
      ∙ is_some-elements (as_array (value_data c.value-item.result)) ∙ sym c.is_array.ensures ∙ c.if-not-is_array.false
  | inr off ↦ c.loop-value.invariant k (omega (arith, under, off))
]

pub returns : goal.returns
returns c =
    let high = c.loop-value-test.false in
    sym (list_all_from (λ d. is_some (list_of d)) (views c.args.values.now) (λ k l. c.loop-value.invariant k (omega (arith, l, high, length-views c.args.values.now))))
