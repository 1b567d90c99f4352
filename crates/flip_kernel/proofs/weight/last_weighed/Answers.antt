use Rattle.std.proofs.Common.{◌≡◌, ℕ, ◌+◌, ◌-◌, ◌*◌, ◌/◌, ◌^◌, ◌<◌, ◌≤◌, sym, ap, ◌∙◌, subst, arith}
use Rattle.audit_model.specs.Weight.{largest_change}
use Rattle.flip_kernel.proofs.Weights.{block_fits, block_some, few_digits, power_small, product_small, some_draws}
use Rattle.flip_kernel.proofs.weight.last_weighed.Goals as goal

-- the block is that of the definition
block_is : (pairs from pow most : ℕ) → from ≡ pairs → pow ≡ 64 ^ most → most ≡ largest_change pairs → from * pow ≡ pairs * 64 ^ largest_change pairs
block_is pairs from pow most same power is =
    ap (λ (n : ℕ). n * pow) same ∙ ap (λ (n : ℕ). pairs * n) (power ∙ ap (λ (m : ℕ). 64 ^ m) is)

pub pow-requires : goal.pow-requires
pow-requires c = omega (arith, power_small c.largest_change.result (omega (arith, few_digits c.args.pairs, c.largest_change.ensures)))

pub overflow_mul-block : goal.overflow_mul-block
overflow_mul-block c =
    let e = block_is c.args.pairs c.from.result c.pow.result c.largest_change.result c.from.ensures c.pow.ensures c.largest_change.ensures in
    omega (arith, e, product_small c.args.pairs (largest_change c.args.pairs) c.requires.1 (omega (arith, few_digits c.args.pairs)))

pub nonzero_div-whole : goal.nonzero_div-whole
nonzero_div-whole c =
    let e = block_is c.args.pairs c.from.result c.pow.result c.largest_change.result c.from.ensures c.pow.ensures c.largest_change.ensures in
    omega (arith, e, block_some c.args.pairs (largest_change c.args.pairs) c.requires.0)

pub overflow_sub-result : goal.overflow_sub-result
overflow_sub-result c =
    let e = block_is c.args.pairs c.from.result c.pow.result c.largest_change.result c.from.ensures c.pow.ensures c.largest_change.ensures in
    let some : 0 < c.from.result * c.pow.result = subst (λ (n : ℕ). 0 < n) (sym e) (block_some c.args.pairs (largest_change c.args.pairs) c.requires.0) in
    some_draws (c.from.result * c.pow.result) some (subst (λ (n : ℕ). n ≤ 2 ^ 64) (sym e) (block_fits c.args.pairs c.requires.0 c.requires.1))

pub returns : goal.returns
returns c =
    let e = block_is c.args.pairs c.from.result c.pow.result c.largest_change.result c.from.ensures c.pow.ensures c.largest_change.ensures in
    let some : 0 < c.from.result * c.pow.result = subst (λ (n : ℕ). 0 < n) (sym e) (block_some c.args.pairs (largest_change c.args.pairs) c.requires.0) in
    let draws : 0 < 2 ^ 64 / (c.from.result * c.pow.result) * (c.from.result * c.pow.result) =
    some_draws (c.from.result * c.pow.result) some (subst (λ (n : ℕ). n ≤ 2 ^ 64) (sym e) (block_fits c.args.pairs c.requires.0 c.requires.1)) in
    let whole : 2 ^ 64 / (c.from.result * c.pow.result) * (c.from.result * c.pow.result) - 1 + 1 ≡ 2 ^ 64 / (c.from.result * c.pow.result) * (c.from.result * c.pow.result) =
    omega (arith, draws) in
    whole ∙ ap (λ (n : ℕ). 2 ^ 64 / n * n) e
