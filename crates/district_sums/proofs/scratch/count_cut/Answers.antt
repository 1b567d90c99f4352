use Rattle.std.proofs.Common.{◌≡◌, ℕ, ◌+◌, ◌==◌, ◌&&◌, Bool, not, get_or, ap, ◌∙◌, arith, add-one}
use Rattle.audit_model.specs.Below.{count_below, sum_below}
use Rattle.audit_model.specs.Graph.{adjacent}
use Rattle.audit_model.proofs.Rows.{counted_edges_le}
use Rattle.district_sums.proofs.scratch.count_cut.Goals as goal

pub overflow_add-cut : goal.overflow_add-cut
overflow_add-cut c =
    let g = c.args.graph.now in
    let unit = c.loop-unit.unit in
    let test : ℕ → ℕ → Bool = λ u v. not (get_or c.args.plan.now u 0 == get_or c.args.plan.now v 0) in
    let each : ℕ → ℕ = λ v. count_below v (λ u. adjacent g u v && test u v) in
    let more : sum_below (unit + 1) each ≡ sum_below unit each + each unit = ap (λ (n : ℕ). sum_below n each) (add-one unit) in
    let few = counted_edges_le g test (unit + 1) (omega (arith, c.loop-unit-test.true, c.units-unit-end.ensures.units)) in
    omega (arith, c.loop-unit.invariant, c.others_below-cut.ensures, more, few, c.units-unit-end.ensures.few_edges)

pub returns-clause-value : goal.returns-clause-value
returns-clause-value c =
    let g = c.args.graph.now in
    let each : ℕ → ℕ = λ v. count_below v (λ u. adjacent g u v && not (get_or c.args.plan.now u 0 == get_or c.args.plan.now v 0)) in
    let all : c.loop-unit.unit ≡ g.units = omega (arith, c.loop-unit-test.false, c.loop-unit.auto.unit-end, c.units-unit-end.ensures.units) in
    c.loop-unit.invariant ∙ ap (λ (n : ℕ). sum_below n each) all
