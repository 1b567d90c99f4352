use Rattle.std.proofs.Common.{◌≡◌, ℕ, ◌+◌, ◌-◌, ◌*◌, ◌≤◌, Bool, ◌==◌, ◌&&◌, cond, not, List, get_or, sym, ap, ◌∙◌, arith, add-one}
use Rattle.audit_model.specs.Below.{count_below, sum_below}
use Rattle.audit_model.specs.Graph.{Graph, adjacent}
use Rattle.audit_model.specs.Length.{edge_length}
use Rattle.audit_model.proofs.Lengths.{cut_length_few, sum_edges_few}
use Rattle.audit_model.proofs.Rows.{counted_edges_le}
use Rattle.district_sums.proofs.Measured.{own_apart}
use Rattle.district_sums.proofs.lengths.measure_edges.Goals as goal

-- the lengths of the edges to lesser units
own : Graph → List ℕ → List ℕ → ℕ → ℕ
own g lengths plan v = sum_below v (λ u. cond (adjacent g u v && not (get_or plan u 0 == get_or plan v 0)) (edge_length g lengths u v) 0)

pub overflow_add-total : goal.overflow_add-total
unfolding own
overflow_add-total c =
    let g = c.args.graph.now in
    let lengths : List ℕ = c.args.lengths.now in
    let plan : List ℕ = c.args.plan.now in
    let unit = c.loop-unit.unit in
    let test : ℕ → ℕ → Bool = λ u v. not (get_or plan u 0 == get_or plan v 0) in
    let more : sum_below (unit + 1) (own g lengths plan) ≡ sum_below unit (own g lengths plan) + own g lengths plan unit = ap (λ (n : ℕ). sum_below n (own g lengths plan)) (add-one unit) in
    let here : c.lengths_apart-total.result.0 ≡ own g lengths plan unit = c.lengths_apart-total.ensures.one ∙ own_apart g lengths c.units-unit-end.ensures.sound c.requires.lengths plan unit in
    let so_far : c.loop-unit.total ≡ sum_below unit (own g lengths plan) = c.loop-unit.invariant in
    let most : sum_below (unit + 1) (own g lengths plan) ≤ 4294967295 * sum_below (unit + 1) (λ v. count_below v (λ u. adjacent g u v && test u v)) =
    sum_edges_few g lengths test (unit + 1) c.requires.lengths.small in
    let few = counted_edges_le g test (unit + 1) (omega (arith, c.loop-unit-test.true, c.units-unit-end.ensures.units)) in
    omega (arith, so_far, here, more, most, few, c.units-unit-end.ensures.few_edges)

pub loop-unit-preserved : goal.loop-unit-preserved
unfolding own
loop-unit-preserved c =
    let g = c.args.graph.now in
    let lengths : List ℕ = c.args.lengths.now in
    let plan : List ℕ = c.args.plan.now in
    let unit = c.loop-unit.unit in
    let more : sum_below (unit + 1) (own g lengths plan) ≡ sum_below unit (own g lengths plan) + own g lengths plan unit = ap (λ (n : ℕ). sum_below n (own g lengths plan)) (add-one unit) in
    let here : c.lengths_apart-total.result.0 ≡ own g lengths plan unit = c.lengths_apart-total.ensures.one ∙ own_apart g lengths c.units-unit-end.ensures.sound c.requires.lengths plan unit in
    ap (λ (n : ℕ). n + c.lengths_apart-total.result.0) c.loop-unit.invariant ∙ ap (λ (n : ℕ). sum_below unit (own g lengths plan) + n) here ∙ sym more

pub returns-clause-small : goal.returns-clause-small
unfolding own
returns-clause-small c =
    let g = c.args.graph.now in
    let lengths : List ℕ = c.args.lengths.now in
    let plan : List ℕ = c.args.plan.now in
    let all : c.loop-unit.unit ≡ g.units = omega (arith, c.loop-unit-test.false, c.loop-unit.auto.unit-end, c.units-unit-end.ensures.units) in
    let is : c.loop-unit.total ≡ sum_below g.units (own g lengths plan) = c.loop-unit.invariant ∙ ap (λ (n : ℕ). sum_below n (own g lengths plan)) all in
    let few : sum_below g.units (own g lengths plan) ≤ 1717986918000000 = cut_length_few g lengths plan c.requires.lengths.small c.units-unit-end.ensures.few_edges in
    omega (arith, is, few)
