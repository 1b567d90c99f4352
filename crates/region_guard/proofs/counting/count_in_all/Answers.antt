use Rattle.std.proofs.Common.{ℕ, List, get_or, ◌-◌, arith}
use Rattle.region_guard.proofs.Cells.{sum_more, sum_small}
use Rattle.region_guard.proofs.counting.count_in_all.Goals as goal

pub overflow_add-in_all : goal.overflow_add-in_all
overflow_add-in_all c =
    let widths : List ℕ = c.args.widths.now in
    let k : ℕ = c.loop-width.width-index in
    let before = sum_small k 199 (λ region. get_or widths region 0 - 1) (λ q l. let few = c.requires.few q (omega (arith, l, c.loop-width-test.true)) in omega (arith, few)) in
    omega (arith, before, c.loop-width.invariant, c.loop-width-test.true, c.requires.few_rows, c.requires.few k c.loop-width-test.true)

pub loop-width-preserved : goal.loop-width-preserved
loop-width-preserved c =
    let more = sum_more c.loop-width.width-index (λ region. get_or c.args.widths.now region 0 - 1) in omega (arith, more, c.loop-width.invariant)
