use Rattle.std.proofs.Common.{◌≡◌, ℕ, ◌<◌, List, length, get_or, ap, ◌∙◌, arith}
use Rattle.audit_model.proofs.Lengths.{cut_length_few}
use Rattle.district_sums.specs.Following.{length_apart}
use Rattle.district_sums.proofs.Measured.{shifted_length, apart_few}
use Rattle.district_sums.proofs.lengths.move_length.Goals as goal

pub overflow_add-result : goal.overflow_add-result
overflow_add-result c =
    let m = c.args.member in
    let g = m.graph.now in
    let few = cut_length_few g c.args.lengths.now m.plan.now c.requires.lengths.small c.units.ensures.few_edges in
    let row = apart_few g c.args.lengths.now m.plan.now m.unit g.units c.args.district c.requires.lengths.small in
    let bound : c.units.result ≡ g.units = c.units.ensures.units in
    let is = c.lengths_apart-was.ensures.other ∙ ap (λ (n : ℕ). length_apart g c.args.lengths.now m.plan.now m.unit n c.args.district) bound in
    omega (arith, few, row, is, c.requires.before, m.few)

pub overflow_sub-result : goal.overflow_sub-result
overflow_sub-result c =
    let m = c.args.member in
    let g = m.graph.now in
    let lengths : List ℕ = c.args.lengths.now in
    let inside : m.unit < length m.plan.now = omega (arith, m.within, m.complete) in
    let shifted = shifted_length g lengths m.sound c.requires.lengths m.plan.now m.unit c.args.district inside m.within in
    let bound : c.units.result ≡ g.units = c.units.ensures.units in
    let was = c.lengths_apart-was.ensures.one ∙ ap (λ (n : ℕ). length_apart g lengths m.plan.now m.unit n (get_or m.plan.now m.unit 0)) bound in
    let is = c.lengths_apart-was.ensures.other ∙ ap (λ (n : ℕ). length_apart g lengths m.plan.now m.unit n c.args.district) bound in
    omega (arith, shifted, was, is, c.requires.before)

pub returns : goal.returns
returns c =
    let m = c.args.member in
    let g = m.graph.now in
    let lengths : List ℕ = c.args.lengths.now in
    let inside : m.unit < length m.plan.now = omega (arith, m.within, m.complete) in
    let shifted = shifted_length g lengths m.sound c.requires.lengths m.plan.now m.unit c.args.district inside m.within in
    let bound : c.units.result ≡ g.units = c.units.ensures.units in
    let was = c.lengths_apart-was.ensures.one ∙ ap (λ (n : ℕ). length_apart g lengths m.plan.now m.unit n (get_or m.plan.now m.unit 0)) bound in
    let is = c.lengths_apart-was.ensures.other ∙ ap (λ (n : ℕ). length_apart g lengths m.plan.now m.unit n c.args.district) bound in
    omega (arith, shifted, was, is, c.requires.before)
