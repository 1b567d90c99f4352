-- Draws that are read in advance.
use Rattle.std.specs.Prelude.{◌≡◌, ℕ, ◌+◌, ◌*◌, ◌<◌, ◌≤◌, ◌^◌, List, slice_index}
use Rattle.audit_statement.specs.Draw.{draw}
use Rattle.chacha_draws.specs.declared.buffer.Buffer.{Buffer}
use Rattle.rand_chacha.specs.ChaCha.{key_of}

-- the first n draws of the buffer are those from this place, and the generator stands behind them
pub record IsRead (key : List ℕ) (start n : ℕ) (b : Buffer) : Type 0 where
  pub same_key : b.words.key ≡ key_of key
  pub at : b.words.word_pos ≡ 2 * (start + n)
  pub drawn : (i : ℕ) → i < n → slice_index b.draws i ≡ draw key b.words.stream (start + i)

-- all draws of the buffer are those of its block
pub record IsFilled (key : List ℕ) (b : Buffer) : Type 0 where
  pub read : IsRead key (32 * b.block) 32 b
  pub few : b.block ≤ 2 ^ 27

-- a filled buffer has a draw that was not taken
pub record IsAhead (key : List ℕ) (b : Buffer) : Type 0 where
  pub filled : IsFilled key b
  pub next : b.next < 32
