-- Facts about values that are known only if they are observable.
use Rattle.std.specs.Prelude.{⊤, Option, Some, None}

-- a fact about a value, if it is observable
abbrev pub IfObserved : {A : Type 0} → Option A → (A → Type 0) → Type 0
IfObserved None P = ⊤
IfObserved (Some x) P = P x

-- a fact about two values, if the first is observable; then so is the second
abbrev pub IfBothObserved : {A : Type 0} → Option A → Option A → (A → A → Type 0) → Type 0
IfBothObserved None y P = ⊤
IfBothObserved (Some x) None P = ⊥
IfBothObserved (Some x) (Some y) P = P x y
