use Rattle.std.proofs.Common.{ℕ, get_or, sym, arith}
use Rattle.std.specs.Prelude.{nat_lt}
use Rattle.std.proofs.lemmas.Bool.{cond-true, cond-false, lt-ltb, le-ltb}
use Rattle.region_guard.proofs.Moves.{next_counted}
use Rattle.region_guard.proofs.counting.count_split.Goals as goal
use Rattle.region_guard.proofs.counting.count_split.Goals.{then-width-gt1, else-width-gt1}
use Rattle.audit_model.proofs.Below.{count_below_le, count_below_zero}

pub loop-width-init : goal.loop-width-init
loop-width-init c = sym (count_below_zero (λ q. nat_lt 1 (get_or c.args.widths.now q 0)))

pub overflow_add-split : goal.overflow_add-split
overflow_add-split c =
    let few = count_below_le c.loop-width.width-index (λ q. nat_lt 1 (get_or c.args.widths.now q 0)) in
    omega (arith, few, c.loop-width.invariant, c.loop-width-test.true, c.requires)

pub loop-width-preserved : goal.loop-width-preserved
loop-width-preserved c =
    let k : ℕ = c.loop-width.width-index in
    let x : ℕ = get_or c.args.widths.now k 0 in
    let next = next_counted k (λ q. nat_lt 1 (get_or c.args.widths.now q 0)) in
    elim c.if-width-gt1.branch [
      | then-width-gt1 w ↦
          let one = cond-true {A = ℕ} (nat_lt 1 x) 1 0 (lt-ltb 1 x w.if-width-gt1.true) in
          omega (arith, next, one, w.split-is, c.loop-width.invariant)
      | else-width-gt1 w ↦
          let none = cond-false {A = ℕ} (nat_lt 1 x) 1 0 (le-ltb 1 x w.if-width-gt1.false) in
          omega (arith, next, none, w.split-is, c.loop-width.invariant)
    ]
