use Rattle.std.proofs.Common.{◌≡◌, ℕ, ◌^◌, ◌<◌, ◌≤◌, length, get_or, subst, ◌∙◌, arith}
use Rattle.std.proofs.lemmas.List.Elements.{All-get_or}
use Rattle.audit_model.specs.Below.{map_below}
use Rattle.audit_model.specs.District.{district_sum}
use Rattle.audit_model.proofs.ColumnFacts.{part_small}
use Rattle.district_sums.proofs.Summing.{all_added}
use Rattle.district_sums.proofs.scratch.add_up.Goals as goal

pub overflow_add-sums : goal.overflow_add-sums
overflow_add-sums c =
    let column = c.args.column.now in
    let plan = c.args.plan.now in
    let unit = c.loop-unit.unit in
    let inside : unit < length plan = omega (arith, c.loop-unit-test.true) in
    let small : (u : ℕ) → u < length column → get_or column u 0 ≤ 10 ^ 9 = λ u l. All-get_or (λ n. n ≤ 10 ^ 9) column u 0 l c.requires.column.small in
    let below : get_or plan unit 0 < length c.loop-unit.sums = omega (arith, c.requires.in_range unit inside, c.loop-unit.auto.sums) in
    let is = c.loop-unit.invariant.each (get_or plan unit 0) below in
    let part = part_small column plan (10 ^ 9) unit (get_or plan unit 0) small (omega (arith, inside, c.requires.column.width)) in
    omega (arith, is, part, small unit (omega (arith, inside, c.requires.column.width)), inside, c.requires.few)

pub returns : goal.returns
returns c =
    subst (λ (n : ℕ). c.loop-unit.sums ≡ map_below n (district_sum c.args.column.now c.args.plan.now))
    (c.loop-unit.auto.sums ∙ c.fill.ensures.len)
    (all_added c.args.column.now c.args.plan.now c.loop-unit.sums c.loop-unit.unit (omega (arith, c.loop-unit-test.false, c.loop-unit.auto.unit-end)) c.loop-unit.invariant)
