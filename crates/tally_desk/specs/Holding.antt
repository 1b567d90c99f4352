-- The contents of a run's saves.
use Rattle.std.specs.Prelude.{◌≡◌, ℕ, ◌+◌, ◌<◌, ◌≤◌, ◌⊎◌, List, length}
use Rattle.std.specs.List.{All, Contains}
use Rattle.audit_model.specs.Attempts.{Try}
use Rattle.audit_model.specs.declared.outcome.Outcome.{Outcome}
use Rattle.audit_model.specs.Run.{IsRight, total, by_id}
use Rattle.audit_model.specs.Times.{times}
use Rattle.audit_statement.specs.Checkpoint.{job_digest}
use Rattle.audit_statement.specs.Histories.{IsRightSave}
use Rattle.audit_statement.specs.Draw.{draw}
use Rattle.tally_desk.specs.declared.entry.Entry.{Entry}
use Rattle.tally_desk.specs.Entries.{ids_of}
use Rattle.tally_desk.specs.Homes.{booked}
use Rattle.claim_counter.specs.Walks.{found}
use Rattle.tally_desk.specs.Parts.{IsPlan, Parts}
use Rattle.tally_desk.specs.RunResult.{IsRunTry}

-- all initial outcomes, and those of `count` ids to do
pub record ContainsInitialAndPart (parts : Parts) (count : ℕ) (saved : List Outcome) : Type 0 where
  pub each : All (λ o. Contains parts.initial_outcomes o ⊎ ((0 < times o.id parts.todo) × (o ≡ found parts.job o.id))) saved
  pub initial_kept : All (Contains saved) parts.initial_outcomes
  pub counted : length saved ≡ length parts.initial_outcomes + count

-- the law that a checkpoint of posts of ids to do holds these outcomes by rising id
abbrev pub SavesHoldParts : Type 0
SavesHoldParts = (parts : Parts) (part : List Entry) → IsPlan parts → ((id : ℕ) → times id (ids_of part) ≤ times id parts.todo)
    → ContainsInitialAndPart parts (length part) (by_id (total parts.job) (booked parts part))

-- the law that every save attempt is correct if the initial outcomes are
abbrev pub RunAttemptsAreRight : Type 0
RunAttemptsAreRight = (parts : Parts) (t : Try) → IsPlan parts → IsRight parts.job (draw parts.job.setting.key) parts.initial_outcomes → IsRunTry parts t
    → IsRightSave parts.job (draw parts.job.setting.key) (job_digest parts.job) t.bytes
