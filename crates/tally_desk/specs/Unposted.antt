-- Predicates on outcomes that a worker has buffered and not yet posted.
use Rattle.std.specs.Prelude.{◌≡◌, ℕ, ◌+◌, ◌-◌, ◌/◌, ◌<◌, ◌≤◌, min, max, nat_le, nat_lt, if◌then◌else◌, List, [], map, length, slice_index_or, Vec, vec_capacity}
use Rattle.std.specs.List.{All}
use Rattle.audit_model.specs.Times.{times}
use Rattle.audit_model.specs.declared.outcome.Outcome.{Outcome}
use Rattle.audit_model.specs.declared.setting.Setting.{Setting}
use Rattle.claim_counter.specs.Walks.{found}
use Rattle.tally_desk.specs.declared.pass.DeskPass.{DeskPass}
use Rattle.tally_desk.specs.DeskModel.{DeskModel}
use Rattle.tally_desk.specs.Desks.{claimed_ids}
use Rattle.tally_desk.specs.Entries.{ids_of}
use Rattle.tally_desk.specs.Parts.{Parts}
use Rattle.tally_desk.specs.Passes.{Belongs, view_of}
use Rattle.tally_desk.specs.Views.{PassView}

abbrev pub found_id : Outcome → ℕ
found_id o = o.id

-- the ids of the buffered outcomes
abbrev pub buffered_ids : List Outcome → List ℕ
buffered_ids buffered = map found_id buffered

-- each claimed id is posted or buffered as often as it was claimed, a buffered one was claimed once, and each buffered
-- outcome is that of its trajectory
pub record HoldsRest (parts : Parts) (v : PassView) (buffered : List Outcome) : Type 0 where
  pub counted : (id : ℕ) → times id (ids_of v.entries) + times id (buffered_ids buffered) ≡ times id (claimed_ids parts v)
  pub once : (id : ℕ) → 0 < times id (buffered_ids buffered) → times id (claimed_ids parts v) ≡ 1
  pub right : All (λ o. o ≡ found parts.job o.id) buffered

-- the pass belongs to the desk, and all its claims that are not posted are buffered
pub record IsHolding (desk : DeskModel) (p : DeskPass) (buffered : List Outcome) : Type 0 where
  pub belongs : Belongs desk p
  pub rest : HoldsRest desk.parts (view_of p) buffered

-- ---- buffer capacities

-- the number of steps from which a trajectory is long
abbrev pub long_steps : ℕ
long_steps = 100000

-- the largest capacity of one buffer
abbrev pub most_buffered : ℕ
most_buffered = 4096

-- the number of workers that have a buffer
abbrev pub holders : ℕ → ℕ
holders workers = min workers 4

-- the capacity of each buffer if trajectories are short: all buffers together hold fewer outcomes than are posted
-- between two saves
abbrev pub short_room : ℕ → ℕ → ℕ
short_room every workers = min most_buffered ((every - 1) / max (holders workers) 1)

-- the capacity of each buffer: none if trajectories are long
abbrev pub buffer_room : Setting → ℕ → ℕ
buffer_room s workers = if nat_le long_steps (max s.steps s.hub_steps) then 0 else short_room s.save_every workers

-- the buffer capacity of the worker at this place
abbrev pub room_at : Setting → ℕ → ℕ → ℕ
room_at s workers place = if nat_lt place (holders workers) then buffer_room s workers else 0

module _ {A : Type 0} where
  -- an empty buffer with exactly this capacity
  pub record IsRoomFor (room : ℕ) (buffered : Vec Outcome A) : Type 0 where
    pub blank : buffered.items ≡ []
    pub room_is : vec_capacity buffered ≡ room

  -- an empty buffer with at most this capacity
  pub record IsRoomWithin (room : ℕ) (buffered : Vec Outcome A) : Type 0 where
    pub blank : buffered.items ≡ []
    pub few : vec_capacity buffered ≤ room

  -- each buffer has the capacity of its place
  abbrev pub AreRooms : Setting → ℕ → List (Vec Outcome A) → Type 0
  AreRooms s workers lists = (place : ℕ) (d : Vec Outcome A) → place < length lists → IsRoomFor (room_at s workers place) (slice_index_or lists place d)
