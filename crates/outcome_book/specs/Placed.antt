-- A table with a place for each id.
use Rattle.std.specs.Prelude.{◌≡◌, ℕ, ◌+◌, List, [], ◌∷◌, Option, Some, None}
use Rattle.std.specs.List.{slice_index_or}
use Rattle.audit_model.specs.declared.outcome.Outcome.{Outcome}

-- the outcomes of the filled places
abbrev pub those_there : List (Option Outcome) → List Outcome
those_there [] = []
those_there (None ∷ places) = those_there places
those_there (Some o ∷ places) = o ∷ those_there places

-- the outcome at each place has the place's id, counted from the first id
abbrev pub ArePlacedById : ℕ → List (Option Outcome) → Type 0
ArePlacedById first places = (k : ℕ) (o : Outcome) → slice_index_or places k None ≡ Some o → o.id ≡ first + k
