-- The union of several folders' outcomes, and the outcomes that each folder added.
-- Source: this project. The first list is that of the working folder.
use Rattle.std.specs.Prelude.{ℕ, ◌<◌, List, [], ◌∷◌, ◌++◌, length, get_or}
use Rattle.audit_model.specs.declared.outcome.Outcome.{Outcome}
use Rattle.outcome_book.specs.Union.{AgreesWith}

-- the union of the folders' outcomes for a job with `total` trajectories, and the list that each folder added, which is
-- empty if it added none
pub record Collected : Type 0 where
  pub total : ℕ
  pub outcomes : List Outcome
  pub lists : List (List Outcome)

-- the collection before the first folder
abbrev pub no_collected : ℕ → Collected
no_collected total = record { total = total; outcomes = []; lists = [] }

-- the collection after a folder that added nothing
abbrev pub passed_over : Collected → Collected
passed_over before = record { total = before.total; outcomes = before.outcomes; lists = before.lists ++ [] ∷ [] }

-- an outcome with which each folder agrees agrees with the union
abbrev pub IsCovered : Collected → Type 0
IsCovered c = (o : Outcome) → ((k : ℕ) → k < length c.lists → AgreesWith (get_or c.lists k []) o) → AgreesWith c.outcomes o

-- the number of the first folder that has another outcome for the id of this outcome
pub record IsFirstOther (lists : List (List Outcome)) (o : Outcome) (number : ℕ) : Type 0 where
  pub there : number < length lists
  pub differs : AgreesWith (get_or lists number []) o → ⊥
  pub before : (k : ℕ) → k < number → AgreesWith (get_or lists k []) o
