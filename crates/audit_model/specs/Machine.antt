-- A run of several workers as a state machine, with claims, posts, saves and halts as events. This project's model of a
-- run. It has lists of ids; the code has atomic words, tickets and a slot.
use Rattle.std.specs.Prelude.{◌≡◌, ◌<◌, ◌≤◌, ◌⊎◌, IsTrue, IsFalse, ℕ, ◌+◌, not, List, [], ◌∷◌, ◌++◌, ◌&&◌, length, take, replicate, slice_get, slice_set, Option, Some, None}
use Rattle.audit_model.specs.declared.outcome.Did.{Did}
use Rattle.audit_model.specs.declared.outcome.Did.TheVariants.{Claimed, Empty, Posted, Idle, Saved, Halted}
use Rattle.audit_model.specs.declared.outcome.Event.{Event}
use Rattle.audit_model.specs.declared.outcome.Event.TheVariants.{Claim, Post, Save, Halt}
use Rattle.audit_model.specs.Apart.{AllApart}
use Rattle.audit_model.specs.Below.{filter_below}
use Rattle.audit_model.specs.Graph.{has}
use Rattle.audit_model.specs.Run.{is_in_part}

-- the number of ids, the parts into which they are dealt, the run's part, and its budget; the ids done at the start of
-- the run, at its last save, and now; the number of ids claimed in this run; and the open id of each worker
pub record Machine : Type 0 where
  pub total : ℕ
  pub parts : ℕ
  pub part : ℕ
  pub budget : ℕ
  pub start : List ℕ
  pub saved : List ℕ
  pub done : List ℕ
  pub next : ℕ
  pub open_ids : List (Option ℕ)

-- the ids that the run has to do, in rising order
abbrev pub todo : Machine → List ℕ
todo m = take m.budget (filter_below m.total (λ id. not (has m.start id) && is_in_part m.parts m.part id))

-- the worker claims the id, if there is one
abbrev pub claimed : Machine → ℕ → Option ℕ → Machine × Did
claimed m worker None = (m, Empty)
claimed m worker (Some id) = (record m { next = m.next + 1; open_ids = slice_set m.open_ids worker (Some id) }, Claimed id)

-- an event by the worker's entry in `open_ids`: no such worker, an open id, or none
abbrev pub claim : Machine → ℕ → Option (Option ℕ) → Machine × Did
claim m worker None = (m, Idle)
claim m worker (Some (Some id)) = (m, Idle)
claim m worker (Some None) = claimed m worker (slice_get (todo m) m.next)

abbrev pub post : Machine → ℕ → Option (Option ℕ) → Machine × Did
post m worker None = (m, Idle)
post m worker (Some None) = (m, Idle)
post m worker (Some (Some id)) = (record m { done = m.done ++ id ∷ []; open_ids = slice_set m.open_ids worker None }, Posted id)

-- one event
abbrev pub step : Machine → Event → Machine × Did
step m (Claim worker) = claim m worker (slice_get m.open_ids worker)
step m (Post worker) = post m worker (slice_get m.open_ids worker)
step m Save = (record m { saved = m.done }, Saved (length m.done))
step m Halt = (record m { start = m.saved; done = m.saved; next = 0; open_ids = replicate (length m.open_ids) None }, Halted)

-- a run of one part that starts with these ids done and saved
abbrev pub started_part : ℕ → ℕ → ℕ → ℕ → ℕ → List ℕ → Machine
started_part parts part total budget workers ids = record {
  total = total;
  parts = parts;
  part = part;
  budget = budget;
  start = ids;
  saved = ids;
  done = ids;
  next = 0;
  open_ids = replicate workers None;
}

-- a run of all ids that starts with these ids done and saved
abbrev pub started : ℕ → ℕ → ℕ → List ℕ → Machine
started total budget workers ids = started_part 1 0 total budget workers ids

-- a run that starts with nothing done
abbrev pub new_machine : ℕ → ℕ → Machine
new_machine total workers = started total total workers []

-- the state after all events, and the effect of each
abbrev pub state_after : Machine → List Event → Machine
state_after m [] = m
state_after m (event ∷ events) = state_after (step m event).0 events

abbrev pub answers_to : Machine → List Event → List Did
answers_to m [] = []
answers_to m (event ∷ events) = (step m event).1 ∷ answers_to (step m event).0 events

-- ---- invariants

-- the first list is a prefix of the second
abbrev pub IsFront : List ℕ → List ℕ → Type 0
IsFront front whole = (rest : List ℕ) × (whole ≡ front ++ rest)

-- the worker has the id open
abbrev pub IsOpen : Machine → ℕ → ℕ → Type 0
IsOpen m worker id = slice_get m.open_ids worker ≡ Some (Some id)

-- the id is at this position of those to do
abbrev pub IsAt : Machine → ℕ → ℕ → Type 0
IsAt m place id = slice_get (todo m) place ≡ Some id

-- the ids done are distinct and below the total, and those done at the start or saved are prefixes of them; each
-- claimed id is either done or open under one worker; no other id is open
pub record IsRun (m : Machine) : Type 0 where
  pub apart : AllApart m.done
  pub below : (id : ℕ) → IsTrue (has m.done id) → id < m.total
  pub start_front : IsFront m.start m.done
  pub saved_front : IsFront m.saved m.done
  pub claimed : (k id : ℕ) → k < m.next → IsAt m k id → IsTrue (has m.done id) ⊎ ((worker : ℕ) × IsOpen m worker id)
  pub opened : (worker id : ℕ) → IsOpen m worker id → (k : ℕ) × (k < m.next) × IsAt m k id
  pub not_both : (worker id : ℕ) → IsOpen m worker id → IsFalse (has m.done id)
  pub one_worker : (v w id : ℕ) → IsOpen m v id → IsOpen m w id → v ≡ w
  pub ahead : (k id : ℕ) → m.next ≤ k → IsAt m k id → IsFalse (has m.done id)
