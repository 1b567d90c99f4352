-- The arguments of small runs.
use Rattle.std.specs.Prelude.{ℕ, List, ◌∷◌, codes, replicate}

-- a run on the usual columns with the all-zero key, and more arguments
abbrev pub run_words : List (List ℕ) → List (List ℕ)
run_words more =
    codes "run" ∷ codes "--pop" ∷ codes "pop" ∷ codes "--first" ∷ codes "a" ∷ codes "--second" ∷ codes "b" ∷ codes "--district" ∷ codes "d"
    ∷ codes "--key" ∷ replicate 64 48 ∷ more

-- twelve walks, a budget of five, and these arguments about saving
abbrev pub small_budget : List (List ℕ) → List (List ℕ)
small_budget saving = run_words (codes "--ask" ∷ codes "gap:low" ∷ codes "--walks" ∷ codes "12" ∷ codes "--budget" ∷ codes "5" ∷ saving)
