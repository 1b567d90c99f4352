-- The slots after a desk without failed saves, and a last save unless the last post had one.
use Rattle.std.specs.Prelude.{◌≡◌, ℕ, ◌+◌, ◌-◌, ◌*◌, ◌%◌, ◌<◌, ◌≤◌, Bool, true, false, List, length, Some}
use Rattle.std.specs.List.{range_with_len}
use Rattle.audit_model.specs.Pair.{Pair, Stored, stored}
use Rattle.audit_model.specs.Run.{total, by_id}
use Rattle.audit_model.specs.Times.{times}
use Rattle.audit_statement.specs.Checkpoint.{job_digest}
use Rattle.audit_model.specs.declared.place.Place.{Place}
use Rattle.ckpt_store.specs.Laws.{IsNewestForFitJobs}
use Rattle.audit_statement.specs.Slots.{newest_for, place_for}
use Rattle.tally_desk.specs.declared.entry.Entry.{Entry}
use Rattle.tally_desk.specs.Desks.{AreDue}
use Rattle.tally_desk.specs.Entries.{ends_saved, ids_of, missed, saves_made, tickets_of}
use Rattle.tally_desk.specs.Homes.{IsSaveOf, SlotsAs, booked}
use Rattle.audit_statement.specs.InOrder.{moved, saves_of}
use Rattle.tally_desk.specs.Parts.{Parts, IsPlan}

-- the place of the last successful save
abbrev pub last_save_place : Parts → List Entry → Place
last_save_place parts posted = moved (saves_of (length posted) parts.save_every - 1) parts.place

-- all posts of a desk, by rising ticket, none with a missed save
pub record AreUnfailed (parts : Parts) (posted : List Entry) : Type 0 where
  pub in_order : tickets_of posted ≡ range_with_len 0 (length posted)
  pub of_todo : (id : ℕ) → times id (ids_of posted) ≤ times id parts.todo
  pub due : AreDue parts posted
  pub none_missed : missed parts.save_every posted ≡ 0

-- an earlier save: `count` of the posts, with this generation
pub record IsPartSave (parts : Parts) (generation count : ℕ) (slot : Stored) : Type 0 where
  pub part : List Entry
  pub of_todo : (id : ℕ) → times id (ids_of part) ≤ times id parts.todo
  pub counted : length part ≡ count
  pub saved : IsSaveOf parts generation part slot

-- `count` saves were made, the last at this place. It is complete and the newest, and the other slot is unchanged or
-- holds the save before.
pub record RunSavesInTurnAt (parts : Parts) (before now : Pair) (posted : List Entry) (at : Place) (count : ℕ) : Type 0 where
  pub last : IsSaveOf parts at.generation posted (stored now at.slot)
  pub newest : newest_for parts.job (job_digest parts.job) now ≡ Some at.slot
  pub only : count ≡ 1 → stored now (1 - at.slot) ≡ stored before (1 - at.slot)
  pub before_last : 1 < count → IsPartSave parts ((at.generation + 2) % 3) ((count - 1) * parts.save_every) (stored now (1 - at.slot))

abbrev pub RunSavesInTurn : Parts → Pair → Pair → List Entry → Type 0
RunSavesInTurn parts before now posted = RunSavesInTurnAt parts before now posted (last_save_place parts posted) (saves_of (length posted) parts.save_every)

-- a save of all posts at the place leaves the other slot unchanged
pub record SavesRest (parts : Parts) (desk now : Pair) (place : Place) (posted : List Entry) : Type 0 where
  pub saved : IsSaveOf parts place.generation posted (stored now place.slot)
  pub other : stored now (1 - place.slot) ≡ stored desk (1 - place.slot)
  pub fresh : IsNewestForFitJobs (job_digest parts.job) place.slot place.generation (by_id (total parts.job) (booked parts posted)) now

-- a last save is made unless the last post had one
abbrev pub EndsSaves : Bool → Parts → Pair → Pair → Place → List Entry → Type 0
EndsSaves true parts desk now place posted = now ≡ desk
EndsSaves false parts desk now place posted = SavesRest parts desk now place posted

-- the law of the saves of a run in which none failed
abbrev pub UnfailedRunsSaveInTurn : Type 0
UnfailedRunsSaveInTurn = (parts : Parts) (before desk now : Pair) (posted : List Entry) → IsPlan parts
    → place_for parts.job (job_digest parts.job) before ≡ (parts.place.slot, parts.place.generation) → AreUnfailed parts posted
    → SlotsAs parts before desk (moved (saves_made posted) parts.place) posted
    → EndsSaves (ends_saved posted) parts desk now (moved (saves_made posted) parts.place) posted
    → RunSavesInTurn parts before now posted
