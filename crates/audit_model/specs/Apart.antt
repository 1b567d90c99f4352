-- Lists of distinct numbers.
use Rattle.std.specs.Prelude.{IsFalse, ℕ, List, [], ◌∷◌}
use Rattle.audit_model.specs.Graph.{has}

-- no number occurs twice
abbrev pub AllApart : List ℕ → Type 0
AllApart [] = Unit {0}
AllApart (x ∷ xs) = IsFalse (has xs x) × AllApart xs
