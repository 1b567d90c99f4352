use Rattle.std.proofs.Common.{ℕ, sym, arith}
use Rattle.std.specs.Prelude.{nat_lt}
use Rattle.std.proofs.lemmas.Bool.{cond-true, cond-false, lt-ltb, ltb-true, false_from_ne_true}
use Rattle.region_guard.specs.Standing.{cell}
use Rattle.region_guard.proofs.Moves.{next_counted}
use Rattle.region_guard.proofs.counting.width.Goals as goal
use Rattle.region_guard.proofs.counting.width.Goals.{then-cells-region-gt0, else-cells-region-gt0}
use Rattle.audit_model.proofs.Below.{count_below_le, count_below_zero}

pub loop-district-init : goal.loop-district-init
loop-district-init c = sym (count_below_zero (λ d. nat_lt 0 (cell c.args.districts c.args.cells.now c.args.region d)))

pub overflow_add-width : goal.overflow_add-width
overflow_add-width c =
    let few = count_below_le c.loop-district.district (λ d. nat_lt 0 (cell c.args.districts c.args.cells.now c.args.region d)) in
    omega (arith, few, c.loop-district.invariant, c.loop-district-test.true, c.requires.few)

pub loop-district-preserved : goal.loop-district-preserved
loop-district-preserved c =
    let d : ℕ = c.loop-district.district in
    let x : ℕ = cell c.args.districts c.args.cells.now c.args.region d in
    let next = next_counted d (λ d. nat_lt 0 (cell c.args.districts c.args.cells.now c.args.region d)) in
    elim c.if-cells-region-gt0.branch [
      | then-cells-region-gt0 w ↦
          let one = cond-true {A = ℕ} (nat_lt 0 x) 1 0 (lt-ltb 0 x w.if-cells-region-gt0.true) in
          omega (arith, next, one, w.width-is, c.loop-district.invariant)
      | else-cells-region-gt0 w ↦
          let none = cond-false {A = ℕ} (nat_lt 0 x) 1 0 (false_from_ne_true (nat_lt 0 x) (λ h. let l = ltb-true 0 x h in omega (arith, l, w.if-cells-region-gt0.false))) in
          omega (arith, next, none, w.width-is, c.loop-district.invariant)
    ]
