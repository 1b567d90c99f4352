use Rattle.std.proofs.Common.{ℕ, ◌+◌, ◌*◌, ◌^◌, ◌≤◌, ap, ◌∙◌, arith}
use Rattle.std.proofs.Math.Nat.{mul-le-mul, pow-le-pow_right}
use Rattle.audit_model.specs.Weight.{factors}
use Rattle.flip_kernel.proofs.Weights.{factor_small, factors_more, factors_none, factors_small}
use Rattle.flip_kernel.proofs.weight.factors.Goals as goal

pub loop-k-init : goal.loop-k-init
loop-k-init c = factors_none c.args.weight c.args.cut

pub overflow_mul-product : goal.overflow_mul-product
overflow_mul-product c =
    let few : c.loop-k.k ≤ 9 = omega (arith, c.requires.added) in
    let power : 64 ^ c.loop-k.k ≤ 64 ^ 9 = pow-le-pow_right {n = 64} (omega arith) {i = c.loop-k.k} {j = 9} few in
    let small : c.loop-k.product ≤ 64 ^ 9 = omega (arith, c.loop-k.invariant, factors_small c.args.weight c.args.cut c.loop-k.k c.requires.weight, power) in
    let one : c.factor-product.result ≤ 64 = omega (arith, c.factor-product.ensures, factor_small c.args.weight (c.args.cut + c.loop-k.k) c.requires.weight) in
    omega (arith, mul-le-mul small one)

pub loop-k-preserved : goal.loop-k-preserved
loop-k-preserved c =
    ap (λ (p : ℕ). p * c.factor-product.result) c.loop-k.invariant
    ∙ ap (λ (f : ℕ). factors c.args.weight c.args.cut c.loop-k.k * f) c.factor-product.ensures
    ∙ factors_more c.args.weight c.args.cut c.loop-k.k
