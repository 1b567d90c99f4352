use Rattle.std.proofs.Common.{ℕ, length, get_or, refl, ◌^◌, ◌<◌, ◌≡◌, ◌∙◌, ap, arith}
use Rattle.audit_model.proofs.ColumnFacts.{part_of, part_small}
use Rattle.region_guard.proofs.Tallying.{added_on, whole_sum}
use Rattle.region_guard.proofs.counting.add_up.Goals as goal

pub loop-unit-init : goal.loop-unit-init
loop-unit-init c = λ d l. c.fill.ensures.clones d 0 (omega (arith, l, c.fill.ensures.len)) refl

pub overflow_add-sums : goal.overflow_add-sums
overflow_add-sums c =
    let unit : ℕ = c.loop-unit.unit in
    let d : ℕ = get_or c.args.plan.now unit 0 in
    let below : d < length c.loop-unit.sums =
    omega (arith, c.requires.districts unit (omega (arith, c.loop-unit-test.true, c.requires.entries)), c.loop-unit.auto.sums, c.fill.ensures.len) in
    let part = part_small c.args.column.now c.args.plan.now (10 ^ 9) unit d c.requires.small (omega (arith, c.loop-unit-test.true)) in
    omega (arith, c.loop-unit.invariant d below, part, c.requires.small unit (omega (arith, c.loop-unit-test.true)), c.loop-unit-test.true, c.requires.few)

pub loop-unit-preserved : goal.loop-unit-preserved
loop-unit-preserved c =
    let unit : ℕ = c.loop-unit.unit in
    let below : get_or c.args.plan.now unit 0 < length c.loop-unit.sums =
    omega (arith, c.requires.districts unit (omega (arith, c.loop-unit-test.true, c.requires.entries)), c.loop-unit.auto.sums, c.fill.ensures.len) in
    added_on c.args.column.now c.args.plan.now c.loop-unit.sums unit below c.loop-unit.invariant

pub returns : goal.returns
returns c = λ d l.
    let all : c.loop-unit.unit ≡ length c.args.column.now = omega (arith, c.loop-unit-test.false, c.loop-unit.auto.unit-end) in
    c.loop-unit.invariant d (omega (arith, l, c.loop-unit.auto.sums, c.fill.ensures.len)) ∙ ap (λ (n : ℕ). part_of c.args.column.now c.args.plan.now n d) all
    ∙ whole_sum c.args.column.now c.args.plan.now d c.requires.entries
