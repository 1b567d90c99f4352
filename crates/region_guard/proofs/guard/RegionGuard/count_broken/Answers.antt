use Rattle.std.proofs.Common.{◌≡◌, ℕ, not, List, length, get_or, sym, ap, ◌∙◌, arith}
use Rattle.std.specs.Prelude.{nat_le}
use Rattle.region_guard.proofs.Cells.{one_if}
use Rattle.region_guard.proofs.Moves.{next_counted}
use Rattle.region_guard.proofs.guard.RegionGuard.count_broken.Goals as goal
use Rattle.region_guard.proofs.guard.RegionGuard.count_broken.Goals.{then-not-passes, else-not-passes}
use Rattle.audit_model.proofs.Below.{count_below_le, count_below_zero}

pub loop-region-init : goal.loop-region-init
loop-region-init g c = sym (count_below_zero (λ q. not (nat_le (get_or c.as_slice-widths.result.now q 0) c.args.self.now.rules.max_split)))

pub overflow_add-broken : goal.overflow_add-broken
overflow_add-broken g c =
    let few = count_below_le c.loop-region.region (λ q. not (nat_le (get_or c.as_slice-widths.result.now q 0) c.args.self.now.rules.max_split)) in
    let long = ap (length {A = ℕ}) c.as_slice-widths.ensures in
    omega (arith, few, long, c.loop-region.invariant, c.loop-region-test.true, c.requires.few)

pub loop-region-preserved : goal.loop-region-preserved
loop-region-preserved g c =
    let widths : List ℕ = c.as_slice-widths.result.now in
    let q : ℕ = c.loop-region.region in
    let most : ℕ = c.args.self.now.rules.max_split in
    let next = next_counted q (λ q. not (nat_le (get_or widths q 0) most)) in
    elim c.if-not-passes.branch [
      | then-not-passes w ↦
          let one : one_if (not (nat_le (get_or widths q 0) most)) ≡ 1 = ap (λ t. one_if (not t)) (sym c.passes.ensures ∙ w.if-not-passes.true) in
          omega (arith, next, one, w.broken-is, c.loop-region.invariant)
      | else-not-passes w ↦
          let none : one_if (not (nat_le (get_or widths q 0) most)) ≡ 0 = ap (λ t. one_if (not t)) (sym c.passes.ensures ∙ w.if-not-passes.false) in
          omega (arith, next, none, w.broken-is, c.loop-region.invariant)
    ]
