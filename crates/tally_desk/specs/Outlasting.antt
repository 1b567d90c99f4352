-- The slots that a desk's saves leave, however each save ended and wherever the run was stopped.
use Rattle.std.specs.Prelude.{◌≡◌, ℕ, ◌≤◌, List}
use Rattle.std.specs.List.{All}
use Rattle.audit_model.specs.Pair.{Pair}
use Rattle.audit_model.specs.Run.{IsRight}
use Rattle.audit_model.specs.Times.{times}
use Rattle.audit_statement.specs.Checkpoint.{job_digest}
use Rattle.audit_statement.specs.Histories.{AreCarriedOut, IsNotValid, KeepsNewest, stopped_in}
use Rattle.audit_statement.specs.Slots.{AreConsistent, IsNotOurs, place_for}
use Rattle.audit_statement.specs.Draw.{draw}
use Rattle.tally_desk.specs.declared.entry.Entry.{Entry}
use Rattle.tally_desk.specs.Desks.{AreDue}
use Rattle.tally_desk.specs.Entries.{ids_of}
use Rattle.tally_desk.specs.Homes.{IsSound, made, attempts}
use Rattle.tally_desk.specs.Parts.{IsPlan, Parts}

-- the posts of a desk
pub record ArePosts (parts : Parts) (posted : List Entry) : Type 0 where
  pub plan : IsPlan parts
  pub of_todo : (id : ℕ) → times id (ids_of posted) ≤ times id parts.todo
  pub due : AreDue parts posted
  pub sound : All (IsSound parts.job) (made parts posted)

-- if the initial outcomes are correct, a stop anywhere in a run leaves consistent slots, wherever its saves failed
abbrev pub RunStopsLeaveConsistentSlots : Type 0
RunStopsLeaveConsistentSlots = (parts : Parts) (posted : List Entry) (before after : Pair) (n : ℕ)
    → ArePosts parts posted → IsRight parts.job (draw parts.job.setting.key) parts.initial_outcomes
    → AreCarriedOut IsNotOurs parts.job (job_digest parts.job) before (stopped_in n (attempts parts posted)) after
    → AreConsistent parts.job (draw parts.job.setting.key) (job_digest parts.job) before
    → AreConsistent parts.job (draw parts.job.setting.key) (job_digest parts.job) after

-- a stop keeps the newest slot from before or leaves a newer one: the last that succeeded, or a later one that failed
-- after writing all its bytes
abbrev pub RunStopsKeepTheNewest : Type 0
RunStopsKeepTheNewest = (parts : Parts) (posted : List Entry) (before after : Pair) (n : ℕ)
    → ArePosts parts posted → place_for parts.job (job_digest parts.job) before ≡ (parts.place.slot, parts.place.generation)
    → AreCarriedOut IsNotValid parts.job (job_digest parts.job) before (stopped_in n (attempts parts posted)) after
    → KeepsNewest parts.job (job_digest parts.job) before (stopped_in n (attempts parts posted)) after
