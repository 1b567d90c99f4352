-- The state of the run machine that matches a desk, and the history of a desk.
use Rattle.std.specs.Prelude.{◌≡◌, ℕ, ◌==◌, ◌&&◌, nat_lt, min, cond, List, [], ◌∷◌, ◌++◌, map, length, slice_index, Option, Some, None}
use Rattle.audit_model.specs.declared.outcome.Event.{Event}
use Rattle.audit_model.specs.declared.outcome.Event.TheVariants.{Halt}
use Rattle.audit_model.specs.Below.{map_below}
use Rattle.audit_model.specs.Machine.{Machine, started_part, state_after}
use Rattle.audit_model.specs.Run.{total}
use Rattle.audit_model.specs.Times.{times}
use Rattle.tally_desk.specs.declared.entry.Entry.{Entry}
use Rattle.tally_desk.specs.Entries.{ids_of, saves_made, up_to_save}
use Rattle.tally_desk.specs.Parts.{Parts}

abbrev pub initial_ids : Parts → List ℕ
initial_ids parts = map (λ o. o.id) parts.initial_outcomes

-- the id at a place of the list, if the place is claimed and the id is not posted
abbrev pub open_at : Parts → ℕ → List Entry → ℕ → Option ℕ
open_at parts next posted place =
    cond (nat_lt place next && (times (slice_index parts.todo place) (ids_of posted) == 0)) (Some (slice_index parts.todo place)) None

-- the machine after these draws and posts. Its worker names are the places of the list.
abbrev pub machine_of : Parts → ℕ → List Entry → Machine
machine_of parts drawn posted = record {
  total = total parts.job;
  parts = parts.job.setting.parts;
  part = parts.job.setting.part;
  budget = length parts.todo;
  start = initial_ids parts;
  saved = initial_ids parts ++ ids_of (up_to_save (saves_made posted) posted);
  done = initial_ids parts ++ ids_of posted;
  next = min drawn (length parts.todo);
  open_ids = map_below (length parts.todo) (open_at parts (min drawn (length parts.todo)) posted);
}

-- the machine that starts with the initial outcomes of a desk
abbrev pub first_machine : Parts → Machine
first_machine parts = started_part parts.job.setting.parts parts.job.setting.part (total parts.job) (length parts.todo) (length parts.todo) (initial_ids parts)

-- events that take the machine from its start to the desk after these draws and posts
pub record HasHistory (parts : Parts) (drawn : ℕ) (posted : List Entry) : Type 0 where
  pub events : List Event
  pub reaches : state_after (first_machine parts) events ≡ machine_of parts drawn posted

-- the machines agree on the ids done, saved and claimed, and on the part
pub record AreAlike (m n : Machine) : Type 0 where
  pub total : m.total ≡ n.total
  pub parts : m.parts ≡ n.parts
  pub part : m.part ≡ n.part
  pub start : m.start ≡ n.start
  pub saved : m.saved ≡ n.saved
  pub done : m.done ≡ n.done
  pub next : m.next ≡ n.next

-- the law that a halt takes the machine of a desk to that with which the next desk starts. The next desk starts with
-- the initial outcomes and the saved posts, and has a budget of its own.
abbrev pub HaltsAreRestarts : Type 0
HaltsAreRestarts = (parts later : Parts) (drawn : ℕ) (posted : List Entry) → later.job ≡ parts.job
    → initial_ids later ≡ initial_ids parts ++ ids_of (up_to_save (saves_made posted) posted)
    → AreAlike (state_after (machine_of parts drawn posted) (Halt ∷ [])) (first_machine later)
