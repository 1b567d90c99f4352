use Rattle.std.proofs.Common.{ℕ, ◌+◌, sym, ap, ◌∙◌, arith}
use Rattle.rand_chacha.specs.ChaCha.{ChaCha}
use Rattle.audit_statement.specs.Draw.{draw}
use Rattle.chacha_draws.proofs.Reading.{one_more, two_words}
use Rattle.chacha_draws.proofs.buffer.read_draw.Goals as goal

pub returns-clause-read : goal.returns-clause-read
returns-clause-read c key start l read =
    let words = c.args.buffer.now.words in
    let value = ap (λ (p : ℕ × ChaCha). p.0) c.next_u64_via_u32.ensures ∙ two_words words key (start + c.args.at) read.same_key read.at (omega (arith, l, c.requires.room)) in
    let stream_is = ap (λ (p : ℕ × ChaCha). p.1.stream) c.next_u64_via_u32.ensures in
    record {
      same_key = ap (λ (p : ℕ × ChaCha). p.1.key) c.next_u64_via_u32.ensures ∙ read.same_key;
      at = ap (λ (p : ℕ × ChaCha). p.1.word_pos) c.next_u64_via_u32.ensures ∙ omega (arith, read.at, l, c.requires.room);
      drawn = λ i below. one_more key c.args.buffer.now.draws words.stream start c.args.at c.next_u64_via_u32.result (omega (arith, c.requires.room, c.well_formed)) value read.drawn i below
          ∙ ap (λ (s : ℕ). draw key s (start + i)) (sym stream_is);
    }
