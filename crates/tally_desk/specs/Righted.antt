-- If the initial outcomes are correct, so is each checkpoint of a desk.
use Rattle.std.specs.Prelude.{ℕ, ◌≤◌, List}
use Rattle.audit_model.specs.Run.{IsRight, total, by_id}
use Rattle.audit_model.specs.Times.{times}
use Rattle.audit_statement.specs.Draw.{draw}
use Rattle.tally_desk.specs.declared.entry.Entry.{Entry}
use Rattle.tally_desk.specs.Entries.{ids_of}
use Rattle.tally_desk.specs.Homes.{booked}
use Rattle.tally_desk.specs.Parts.{IsPlan, Parts}

-- the law that outcomes saved from correct initial outcomes and posts of ids to do are those of the job's trajectories
abbrev pub SavedOutcomesAreRight : Type 0
SavedOutcomesAreRight = (parts : Parts) (posted : List Entry) → IsPlan parts → ((id : ℕ) → times id (ids_of posted) ≤ times id parts.todo)
    → IsRight parts.job (draw parts.job.setting.key) parts.initial_outcomes → IsRight parts.job (draw parts.job.setting.key) (by_id (total parts.job) (booked parts posted))
