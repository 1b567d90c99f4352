-- Positions on a cycle.
use Rattle.std.specs.Prelude.{ℕ, ◌+◌, cond, nat_lt}

-- the position after position i on a cycle of n units
abbrev pub next_place : ℕ → ℕ → ℕ
next_place n i = cond (nat_lt (i + 1) n) (i + 1) 0
