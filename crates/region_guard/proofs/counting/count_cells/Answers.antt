use Rattle.std.proofs.Common.{ℕ, ◌+◌, ◌*◌, ◌<◌, ◌&&◌, ◌==◌, get_or, refl, sym, ◌∙◌, arith}
use Rattle.region_guard.proofs.Moves.{counted_on}
use Rattle.region_guard.proofs.counting.count_cells.Goals as goal
use Rattle.audit_model.proofs.Below.{count_below_le, count_below_zero}
use Rattle.audit_model.proofs.Numbers.{place_below}

pub loop-unit-init : goal.loop-unit-init
loop-unit-init c = λ q d lq ld.
    c.fill.ensures.clones (q * c.args.districts + d) 0 (omega (arith, place_below q d c.args.rows c.args.districts lq ld, c.requires.places)) refl
    ∙ sym (count_below_zero (λ u. (get_or c.args.regions.now u 0 == q) && (get_or c.args.plan.now u 0 == d)))

pub overflow_add-cells-in-loop-unit : goal.overflow_add-cells-in-loop-unit
overflow_add-cells-in-loop-unit c =
    let unit : ℕ = c.loop-unit.unit in
    let q : ℕ = get_or c.args.regions.now unit 0 in
    let d : ℕ = get_or c.args.plan.now unit 0 in
    let lq : q < c.args.rows = c.requires.regions unit (omega (arith, c.loop-unit-test.true, c.requires.lengths)) in
    let ld : d < c.args.districts = c.requires.districts unit (omega (arith, c.loop-unit-test.true)) in
    let is = c.loop-unit.invariant q d lq ld in
    let few = count_below_le unit (λ u. (get_or c.args.regions.now u 0 == q) && (get_or c.args.plan.now u 0 == d)) in
    omega (arith, is, few, c.loop-unit-test.true)

pub loop-unit-preserved : goal.loop-unit-preserved
loop-unit-preserved c =
    let unit : ℕ = c.loop-unit.unit in
    counted_on c.args.regions.now c.args.plan.now c.loop-unit.cells c.args.districts unit c.args.rows
    (c.loop-unit.auto.cells ∙ c.fill.ensures.len ∙ c.requires.places)
    (c.requires.regions unit (omega (arith, c.loop-unit-test.true, c.requires.lengths)))
    (c.requires.districts unit (omega (arith, c.loop-unit-test.true))) c.loop-unit.invariant
