use Rattle.std.proofs.Common.{◌≡◌, ℕ, ◌-◌, ◌*◌, ◌%◌, ◌^◌, ◌<◌, ◌≤◌, ap, ◌∙◌, arith}
use Rattle.std.specs.Int.Bits.{bit_and}
use Rattle.std.specs.Prelude.{nat_le, nat_lt}
use Rattle.std.proofs.lemmas.Nat.{one_shl, pow_pos}
use Rattle.audit_model.specs.Weight.{factors, largest_change, weighed_draws}
use Rattle.flip_kernel.proofs.Weights.{digits_are, few_digits, passes_digits, passes_down}
use Rattle.flip_kernel.proofs.weight.takes.Goals as goal

-- at most nine digits, for a change that is not too large
few_added : (added most pairs : ℕ) → added ≤ most → most ≡ largest_change pairs → added ≤ 9
few_added added most pairs few is = omega (arith, few, is, few_digits pairs)

pub returns-then-after-before : goal.returns-then-after-before
returns-then-after-before c =
    let pairs = c.args.pairs.now in
    let most : ℕ = largest_change pairs.count in
    let counts : c.args.draw < weighed_draws pairs.count most = omega (arith, c.if-draw-pairs.false, c.requires.blocks.last_weighed) in
    ap (λ (m : ℕ). nat_le (c.args.before - c.args.after) m) c.requires.blocks.largest
    ∙ passes_down c.args.weight pairs.count most c.args.draw c.args.before c.args.after counts c.if-after-before.true

pub overflow_mul-digits : goal.overflow_mul-digits
overflow_mul-digits c =
    omega (arith, few_added (c.args.after - c.args.before) c.args.pairs.now.largest_change c.args.pairs.now.count c.if-added-pairs.false c.requires.blocks.largest)

pub overflow_shl-digits : goal.overflow_shl-digits
overflow_shl-digits c =
    omega (arith, few_added (c.args.after - c.args.before) c.args.pairs.now.largest_change c.args.pairs.now.count c.if-added-pairs.false c.requires.blocks.largest)

pub overflow_sub-digits : goal.overflow_sub-digits
overflow_sub-digits c =
    let few = few_added (c.args.after - c.args.before) c.args.pairs.now.largest_change c.args.pairs.now.count c.if-added-pairs.false c.requires.blocks.largest in
    let bits : ℕ = 6 * (c.args.after - c.args.before) in
    omega (arith, one_shl bits 64 (omega (arith, few)), pow_pos bits)

pub factors-requires-clause-added : goal.factors-requires-clause-added
factors-requires-clause-added c =
    few_added (c.args.after - c.args.before) c.args.pairs.now.largest_change c.args.pairs.now.count c.if-added-pairs.false c.requires.blocks.largest

pub returns : goal.returns
returns c =
    let pairs = c.args.pairs.now in
    let most : ℕ = largest_change pairs.count in
    let added : ℕ = c.args.after - c.args.before in
    let removed : ℕ = c.args.before - c.args.after in
    let counts : c.args.draw < weighed_draws pairs.count most = omega (arith, c.if-draw-pairs.false, c.requires.blocks.last_weighed) in
    let few : added ≤ most = omega (arith, c.if-added-pairs.false, c.requires.blocks.largest) in
    let none : removed ≤ most = omega (arith, c.if-after-before.false) in
    let nine = few_added added pairs.largest_change pairs.count c.if-added-pairs.false c.requires.blocks.largest in
    let digits : ℕ = bit_and c.quotient.result ((1 * 2 ^ (6 * added)) % 2 ^ 64 - 1) in
    ap (λ (n : ℕ). nat_lt digits n) c.factors.ensures
    ∙ passes_digits (factors c.args.weight c.args.before added) pairs.count most c.args.draw added removed digits counts few none
    (digits_are c.quotient.result c.args.draw pairs.count added (6 * added) c.quotient.ensures (omega arith) nine)
