-- Draws that are read into a buffer.
use Rattle.std.proofs.Common.{◌≡◌, ℕ, ◌+◌, ◌<◌, ◌^◌, ◌*◌, ◌%◌, List, length, slice_index, slice_set, sym, ap, subst, ◌∙◌, ⊎_elim, arith}
use Rattle.std.proofs.Math.Nat.{mul_comm}
use Rattle.std.proofs.lemmas.Bool.Decides.{eqb_tells}
use Rattle.std.proofs.lemmas.Grind.{get_or-set_at}
use Rattle.std.proofs.lemmas.List.{get_or-set_other}
use Rattle.audit_statement.specs.Draw.{draw}
use Rattle.chacha_draws.specs.Ahead.{IsRead}
use Rattle.chacha_draws.specs.declared.buffer.Buffer.{Buffer}
use Rattle.rand_chacha.specs.ChaCha.{ChaCha, word_at, key_of, next_word}
use Rattle.rand_core.specs.Steps.{u64_via_u32}

-- the two words at an even position make the draw, lower half first
pub two_words : (words : ChaCha) (key : List ℕ) (place : ℕ) → words.key ≡ key_of key → words.word_pos ≡ 2 * place → place < 2 ^ 33
    → (u64_via_u32 (next_word 10) words).0 ≡ draw key words.stream place
unfolding draw
two_words words key place key_is pos_is l =
    let word : ℕ → ℕ = word_at 10 (key_of key) words.stream in
    let small : (2 * place + 1) % 2 ^ 68 ≡ 2 * place + 1 = omega arith in
    ap (λ (k : List ℕ). word_at 10 k words.stream words.word_pos + word_at 10 k words.stream ((words.word_pos + 1) % 2 ^ 68) * 2 ^ 32) key_is
    ∙ ap (λ (p : ℕ). word p + word ((p + 1) % 2 ^ 68) * 2 ^ 32) pos_is
    ∙ ap (λ (p : ℕ). word (2 * place) + word p * 2 ^ 32) small
    ∙ ap (λ (m : ℕ). word (2 * place) + m) (mul_comm (word (2 * place + 1)) (2 ^ 32))

-- where the first draws of a list are right, a write makes one more of them right
pub one_more : (key draws : List ℕ) (stream start at value : ℕ) → at < length draws → value ≡ draw key stream (start + at)
    → ((i : ℕ) → i < at → slice_index draws i ≡ draw key stream (start + i))
    → (i : ℕ) → i < at + 1 → slice_index (slice_set draws at value) i ≡ draw key stream (start + i)
one_more key draws stream start at value room is before i l =
    ⊎_elim (λ same. get_or-set_at draws at i value 0 same.1 room ∙ is ∙ ap (λ (n : ℕ). draw key stream (start + n)) (sym same.1))
    (λ other. get_or-set_other draws at i value 0 other.1 ∙ before i (omega (arith, l, other.1))) (eqb_tells i at)

pub as_many : (key : List ℕ) (start m n : ℕ) (b : Buffer) → m ≡ n → IsRead key start m b → IsRead key start n b
as_many key start m n b same read = subst (λ (k : ℕ). IsRead key start k b) same read
