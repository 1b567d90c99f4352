use Rattle.std.proofs.Common.{◌≡◌, ℕ, ◌+◌, ◌*◌, ◌^◌, ◌≤◌, ap, ◌∙◌, arith}
use Rattle.std.specs.Prelude.{nat_le}
use Rattle.std.proofs.lemmas.Bool.{le-leb, lt-leb}
use Rattle.audit_model.proofs.Below.{counted_none, counted_on, counted_off, count_below_le}
use Rattle.report.proofs.Powers.{power_small, product_small}
use Rattle.report.proofs.weight.largest_change.Goals as goal
use Rattle.report.proofs.weight.largest_change.Goals.{then-from-pow, else-from-pow}

pub loop-m-init : goal.loop-m-init
loop-m-init c = counted_none (λ m. nat_le (c.args.pairs * 64 ^ (m + 2)) (2 ^ 64))

pub pow-requires : goal.pow-requires
pow-requires c = omega (arith, power_small (c.loop-m.m + 2) (omega arith))

pub overflow_mul-from : goal.overflow_mul-from
overflow_mul-from c =
    let few : c.args.pairs ≤ 20000000 = c.requires in
    let e : c.from.result * c.pow.result ≡ c.args.pairs * 64 ^ (c.loop-m.m + 2) = ap (λ (n : ℕ). n * c.pow.result) c.from.ensures ∙ ap (λ (n : ℕ). c.args.pairs * n) c.pow.ensures in
    omega (arith, e, product_small c.args.pairs (c.loop-m.m + 2) few (omega arith))

pub overflow_add-most : goal.overflow_add-most
overflow_add-most c = omega (arith, c.loop-m.invariant, count_below_le c.loop-m.m (λ m. nat_le (c.args.pairs * 64 ^ (m + 2)) (2 ^ 64)))

pub loop-m-preserved : goal.loop-m-preserved
loop-m-preserved c =
    let e : c.from.result * c.pow.result ≡ c.args.pairs * 64 ^ (c.loop-m.m + 2) = ap (λ (n : ℕ). n * c.pow.result) c.from.ensures ∙ ap (λ (n : ℕ). c.args.pairs * n) c.pow.ensures in
    elim c.if-from-pow.branch [
      | then-from-pow w ↦ w.most-is ∙ counted_on c.loop-m.m c.loop-m.most (λ m. nat_le (c.args.pairs * 64 ^ (m + 2)) (2 ^ 64)) c.loop-m.invariant
          (le-leb (c.args.pairs * 64 ^ (c.loop-m.m + 2)) (2 ^ 64) (omega (arith, e, w.if-from-pow.true)))
      | else-from-pow w ↦ w.most-is ∙ counted_off c.loop-m.m c.loop-m.most (λ m. nat_le (c.args.pairs * 64 ^ (m + 2)) (2 ^ 64)) c.loop-m.invariant
          (lt-leb (c.args.pairs * 64 ^ (c.loop-m.m + 2)) (2 ^ 64) (omega (arith, e, w.if-from-pow.false)))
    ]
