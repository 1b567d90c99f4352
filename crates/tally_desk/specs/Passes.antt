-- Predicates on passes.
use Rattle.std.specs.Prelude.{◌≡◌, ℕ, ◌<◌, Bool, List, length, slice_index, Some}
use Rattle.std.specs.List.{range_with_len}
use Rattle.std.specs.List.Sorted.{IsPermutation}
use Rattle.audit_model.specs.State.{KeeperState}
use Rattle.claim_counter.specs.Records.{with_claim}
use Rattle.tally_desk.specs.declared.entry.Entry.{Entry}
use Rattle.tally_desk.specs.declared.pass.DeskPass.{DeskPass}
use Rattle.tally_desk.specs.declared.state.RunState.{RunState}
use Rattle.tally_desk.specs.DeskModel.{DeskModel}
use Rattle.tally_desk.specs.Desks.{AreDue, claimed_ids, ended_view, first_view, joined_view, left_view, right_view, with_entry, with_own}
use Rattle.tally_desk.specs.Entries.{post_of, ids_of, tickets_of}
use Rattle.tally_desk.specs.Homes.{HasBuffers, KeptAs}
use Rattle.tally_desk.specs.MachineStates.{HasHistory}
use Rattle.tally_desk.specs.Parts.{IsPlan, Parts}
use Rattle.tally_desk.specs.Views.{PassView, view_in}
use Rattle.audit_model.specs.Times.{times}

-- the knowledge of the pass
abbrev pub view_of : DeskPass → PassView
view_of p = view_in p.badge.views

-- the pass belongs to the desk
pub record Belongs (desk : DeskModel) (p : DeskPass) : Type 0 where
  pub of_table : p.badge.table_id ≡ desk.table
  pub of_parts : (view_of p).parts ≡ Some desk.parts

-- the first pass of the desk, which has all seats
pub record IsFirstPass (desk : DeskModel) (p : DeskPass) : Type 0 where
  pub belongs : Belongs desk p
  pub first : view_of p ≡ first_view desk.parts

-- the pass drew a new place of the list and claims the id there
pub record Claims (parts : Parts) (id : ℕ) (before now : PassView) : Type 0 where
  pub place : ℕ
  pub below : place < length parts.todo
  pub id_is : id ≡ slice_index parts.todo place
  pub unclaimed : times id (claimed_ids parts before) ≡ 0
  pub view : now ≡ with_own before (with_claim place before.own)

-- the pass posted the id
pub record Posts (id : ℕ) (before now : PassView) : Type 0 where
  pub ticket : ℕ
  pub saved : Bool
  pub view : now ≡ with_entry before (post_of ticket id saved)

-- the pass posted each id that it claimed
abbrev pub HasPostedAll : Parts → PassView → Type 0
HasPostedAll parts v = (id : ℕ) → times id (ids_of v.entries) ≡ times id (claimed_ids parts v)

-- The state after a desk is closed with its only pass, which posted all. `posted` has its posts by rising ticket: one
-- for each id to do, marked only if a save was due. The book and the keeper are those of a desk after these posts. A run
-- machine reaches the state of the desk by claims, posts and saves.
pub record IsClosed {C : Type 0} (state : C → KeeperState) (parts : Parts) (v : PassView) (s : RunState C) : Type 0 where
  pub plan : IsPlan parts
  pub slot : s.place.slot < 2
  pub generation : s.place.generation < 3
  pub posted : List Entry
  pub own_posts : IsPermutation v.entries posted
  pub in_order : tickets_of posted ≡ range_with_len 0 (length parts.todo)
  pub all : IsPermutation (ids_of posted) parts.todo
  pub due : AreDue parts posted
  pub kept : KeptAs state parts s.book s.keeper s.place s.failed_saves posted
  pub entries : s.posted.items ≡ posted
  pub equipped : HasBuffers state parts s
  pub history : (drawn : ℕ) × HasHistory parts drawn posted

-- ---- invariants of a pass that posts what it claims

-- the claimed id may be posted
pub record MayPost (parts : Parts) (id : ℕ) (v : PassView) : Type 0 where
  pub claimed : 0 < times id (claimed_ids parts v)
  pub unposted : times id (ids_of v.entries) ≡ 0

-- a pass that posts what it claims has posted all, also after joins
pub record PostsStayWhole : Type 0 where
  pub first : (parts : Parts) → HasPostedAll parts (first_view parts)
  pub right : (parts : Parts) (v : PassView) → HasPostedAll parts (right_view v)
  pub left : (parts : Parts) (v : PassView) → HasPostedAll parts v → HasPostedAll parts (left_view v)
  pub may : (parts : Parts) (id : ℕ) (v w : PassView) → HasPostedAll parts v → Claims parts id v w → MayPost parts id w
  pub posted : (parts : Parts) (id : ℕ) (v u w : PassView) → HasPostedAll parts v → Claims parts id v u → Posts id u w → HasPostedAll parts w
  pub end : (parts : Parts) (v : PassView) → HasPostedAll parts v → HasPostedAll parts (ended_view v)
  pub join : (parts : Parts) (v w : PassView) → HasPostedAll parts v → HasPostedAll parts w → HasPostedAll parts (joined_view v w)
