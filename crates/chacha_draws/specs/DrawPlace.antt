-- A position among the numbered draws of a key.
use Rattle.std.specs.Prelude.{ℕ, List}

-- the key's bytes, the stream, and the number of draws already taken from it
pub record DrawPlace : Type 0 where
  pub key : List ℕ
  pub stream : ℕ
  pub place : ℕ
