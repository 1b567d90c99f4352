use Rattle.std.proofs.Common.{ℕ, ◌*◌, ◌%◌, ◌^◌, bit_or, ap, ◌∙◌}
use Rattle.std.specs.Int.{bit_at}
use Rattle.flip_kernel.proofs.Words.{without, put_own, put_other}
use Rattle.flip_kernel.proofs.open_pairs.with_bit.Goals as goal

pub returns-clause-own : goal.returns-clause-own
returns-clause-own c =
    ap (λ (n : ℕ). bit_at (bit_or (without c.args.word c.args.bit) (n * 2 ^ c.args.bit % 2 ^ 64)) c.args.bit) c.from.ensures
    ∙ put_own c.args.word c.args.bit c.args.flag c.requires

pub returns-clause-others : goal.returns-clause-others
returns-clause-others c = λ i l off.
    ap (λ (n : ℕ). bit_at (bit_or (without c.args.word c.args.bit) (n * 2 ^ c.args.bit % 2 ^ 64)) i) c.from.ensures
    ∙ put_other c.args.word c.args.bit c.args.flag c.requires i l off
