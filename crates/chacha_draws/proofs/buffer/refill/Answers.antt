use Rattle.std.proofs.Common.{◌*◌, ap, ◌∙◌, arith}
use Rattle.rand_chacha.specs.ChaCha.{ChaCha}
use Rattle.chacha_draws.proofs.buffer.refill.Goals as goal

pub returns-clause-read : goal.returns-clause-read
returns-clause-read c key same =
    let start = 32 * c.args.buffer.now.block in
    let small = c.requires.few in
    c.read_16-2.ensures.read key start (omega (arith, small)) (c.read_16.ensures.read key start (omega (arith, small)) (record {
      same_key = ap (λ (w : ChaCha). w.key) c.set_word_pos.ensures ∙ same;
      at = ap (λ (w : ChaCha). w.word_pos) c.set_word_pos.ensures ∙ omega (arith, c.from.ensures, small);
      drawn = λ i below. absurd (omega (arith, below));
    }))
