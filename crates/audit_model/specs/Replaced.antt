-- Lists with one value replaced by another.
use Rattle.std.specs.Prelude.{◌≡◌, ℕ, ◌<◌, ◌==◌, cond, List, length, slice_index}

-- entries equal to the one at the first place have become equal to the one at the second, and the others are unchanged
abbrev pub Replaced : List ℕ → List ℕ → ℕ → ℕ → Type 0
Replaced old new from into = (k : ℕ) → k < length old
    → slice_index new k ≡ cond (slice_index old k == slice_index old from) (slice_index old into) (slice_index old k)
