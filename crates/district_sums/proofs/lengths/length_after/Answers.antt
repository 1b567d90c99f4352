use Rattle.std.proofs.Common.{◌≡◌, length, set, sym, ◌∙◌, arith}
use Rattle.district_sums.proofs.Measured.{nothing_cut}
use Rattle.district_sums.proofs.lengths.length_after.Goals as goal

pub returns-then-len-eq0 : goal.returns-then-len-eq0
returns-then-len-eq0 c =
    let m = c.args.member in
    let none : length c.args.lengths.now ≡ 0 = omega (arith, c.len.ensures, c.if-len-eq0.true) in
    c.requires.before ∙ nothing_cut m.graph.now c.args.lengths.now m.plan.now none
    ∙ sym (nothing_cut m.graph.now c.args.lengths.now (set m.plan.now m.unit c.args.district) none)
