-- The contents of a desk's slot after these posts.
use Rattle.std.specs.Prelude.{◌≡◌, ℕ, ◌+◌, ◌-◌, ◌*◌, ◌%◌, ◌^◌, ◌<◌, ◌≤◌, min, Bool, true, cond, List, ◌∷◌, [], ◌++◌, length, map, Some, vec_capacity}
use Rattle.std.specs.List.{All, range_with_len}
use Rattle.audit_model.specs.State.{KeeperState}
use Rattle.audit_model.specs.Observed.{IfBothObserved}
use Rattle.audit_model.specs.Faults.{Counts}
use Rattle.audit_model.specs.Pair.{Pair, Stored, stored}
use Rattle.audit_model.specs.Attempts.{Try, attempted_all, try_of}
use Rattle.audit_model.specs.declared.outcome.Outcome.{Outcome}
use Rattle.audit_model.specs.Job.{Job}
use Rattle.audit_model.specs.Run.{total, by_id}
use Rattle.audit_model.specs.Times.{times}
use Rattle.audit_statement.specs.Checkpoint.{IsCheckpoint, checkpoint, job_digest}
use Rattle.audit_model.specs.declared.place.Place.{Place}
use Rattle.audit_statement.specs.Slots.{newest_for}
use Rattle.audit_statement.specs.Due.{Lets}
use Rattle.outcome_book.specs.Booked.{Booked}
use Rattle.tally_desk.specs.declared.entry.Entry.{Entry}
use Rattle.tally_desk.specs.declared.state.RunState.{RunState}
use Rattle.tally_desk.specs.Entries.{post_of, ids_of, tickets_of, saves_made, up_to_save, after_save, ends_saved, is_due, missed}
use Rattle.claim_counter.specs.Walks.{found}
use Rattle.tally_desk.specs.Desks.{AreDue}
use Rattle.tally_desk.specs.Parts.{LetsDesk, Parts, IsPlan}
use Rattle.audit_statement.specs.InOrder.{moved}

-- ---- the book

-- the initial outcomes, and the outcomes of the posted ids
abbrev pub booked : Parts → List Entry → List Outcome
booked parts posted = parts.initial_outcomes ++ map (found parts.job) (ids_of posted)

-- ---- the place

-- ---- the save attempts

-- a save attempt: its slot and generation, its outcomes, and its success
pub record Made : Type 0 where
  pub slot : ℕ
  pub generation : ℕ
  pub outcomes : List Outcome
  pub succeeded : Bool

-- the save attempt made with this post after the earlier ones: the book and the place of that time
abbrev pub made_with : Parts → List Entry → Entry → Made
made_with parts earlier e = record {
  slot = (moved (saves_made earlier) parts.place).slot;
  generation = (moved (saves_made earlier) parts.place).generation;
  outcomes = by_id (total parts.job) (booked parts (earlier ++ e ∷ []));
  succeeded = e.saved;
}

-- each post with which a save was due makes one attempt, marked or not
abbrev pub made_after : Parts → List Entry → List Entry → List Made
made_after parts earlier [] = []
made_after parts earlier (e ∷ posted) =
    cond (is_due parts.save_every e) (made_with parts earlier e ∷ []) [] ++ made_after parts (earlier ++ e ∷ []) posted

abbrev pub made : Parts → List Entry → List Made
made parts posted = made_after parts [] posted

-- the bytes of the attempt, of the second version
abbrev pub bytes_made : Job → Made → List ℕ
bytes_made job m = checkpoint 2 (job_digest job) m.generation m.outcomes

abbrev pub try_made : Job → Made → Try
try_made job m = try_of m.slot (bytes_made job m) m.succeeded

abbrev pub attempts : Parts → List Entry → List Try
attempts parts posted = map (try_made parts.job) (made parts posted)

abbrev pub IsSound : Job → Made → Type 0
IsSound job m = IsCheckpoint (bytes_made job m) 2 (job_digest job) m.generation m.outcomes

-- ---- the slots of the keeper

-- the slot is the checkpoint, of the second version, of the initial outcomes and these posts, with this generation
pub record IsSaveOf (parts : Parts) (generation : ℕ) (posted : List Entry) (slot : Stored) : Type 0 where
  pub bytes : slot ≡ Some (checkpoint 2 (job_digest parts.job) generation (by_id (total parts.job) (booked parts posted)))
  pub sound : IsCheckpoint (checkpoint 2 (job_digest parts.job) generation (by_id (total parts.job) (booked parts posted)))
      2 (job_digest parts.job) generation (by_id (total parts.job) (booked parts posted))

-- The knowledge of the slots. The next slot is that of the place, to which the next save goes. The last slot is the
-- other one.
pub record SlotsAs (parts : Parts) (before now : Pair) (place : Place) (posted : List Entry) : Type 0 where
  -- without a successful save, the last slot is unchanged
  pub last_unsaved : saves_made posted ≡ 0 → stored now (1 - place.slot) ≡ stored before (1 - place.slot)
  -- otherwise it is the last successful save, with the generation before the place's
  pub last_saved : 0 < saves_made posted → IsSaveOf parts ((place.generation + 2) % 3) (up_to_save (saves_made posted) posted) (stored now (1 - place.slot))
  -- a failed save may leave anything in the next slot, until a later one succeeds
  pub next_unsaved : missed parts.save_every (after_save (saves_made posted) posted) ≡ 0 → saves_made posted < 2
      → stored now place.slot ≡ stored before place.slot
  -- otherwise the next slot is the successful save before the last, with the generation before that
  pub next_saved : missed parts.save_every (after_save (saves_made posted) posted) ≡ 0 → 2 ≤ saves_made posted
      → IsSaveOf parts ((place.generation + 1) % 3) (up_to_save (saves_made posted - 1) posted) (stored now place.slot)
  -- if the last post is marked, the last slot is the newest
  pub newest : ends_saved posted ≡ true → newest_for parts.job (job_digest parts.job) now ≡ Some (1 - place.slot)

-- ---- the value

module _ {C : Type 0} (state : C → KeeperState) where
  -- the state of a desk after these posts: the book, the keeper, the place and the number of failed saves
  pub record KeptAs (parts : Parts) (book : Booked) (keeper : C) (place : Place) (failed : ℕ) (posted : List Entry) : Type 0 where
    pub book_is : book ≡ record { total = total parts.job; outcomes = booked parts posted }
    -- each save that was due and is not marked failed
    pub failed_is : failed ≡ missed parts.save_every posted
    -- the keeper counted each failed save, unless its counter is saturated
    pub covered : min (parts.keeper.save_faults + failed) (2 ^ 64 - 1) ≤ (state keeper).save_faults
    pub counts : Counts parts.keeper.save_faults (state keeper).save_faults
    -- the keeper counted no other failure
    pub shown : parts.keeper.save_faults < (state keeper).save_faults → 0 < failed
    pub loads : (state keeper).load_faults ≡ parts.keeper.load_faults
    pub place_is : place ≡ moved (saves_made posted) parts.place
    -- the keeper was asked for these saves and no others
    pub attempted_is : (state keeper).attempted ≡ attempted_all parts.keeper.attempted (attempts parts posted)
    pub sound : All (IsSound parts.job) (made parts posted)
    pub observed : IfBothObserved parts.keeper.slots (state keeper).slots (λ before now. SlotsAs parts before now place posted)

  -- the remaining fields: the save interval, the job's digest, and capacity for all posts, all outcomes by rising id
  -- and their checkpoint
  pub record HasBuffers (parts : Parts) (home : RunState C) : Type 0 where
    pub every : home.save_every ≡ parts.save_every
    pub digest : home.digest ≡ job_digest parts.job
    pub entry_room : length parts.todo ≤ vec_capacity home.posted
    pub sorted_room : total parts.job ≤ length home.sorted.items + home.sorted.spare
    pub save_room : 84 + 80 * total parts.job ≤ length home.room.items + home.room.spare

module _ {C : Type 0} (state : C → KeeperState) (lets : Lets) where
  -- the contents of the slot after these posts, with a keeper that accepts each due save of the run
  pub record HomeAs (parts : Parts) (home : RunState C) (posted : List Entry) : Type 0 where
    pub entries : home.posted.items ≡ posted
    pub kept : KeptAs state parts home.book home.keeper home.place home.failed_saves posted
    pub equipped : HasBuffers state parts home
    pub run_saves : LetsDesk lets parts

  -- The outcome may be posted after these posts. Their tickets are their places, their ids are different ids to do, and
  -- only those with which a save was due are marked. The outcome is that of an id to do which none of them has.
  pub record MayTurn (parts : Parts) (home : RunState C) (posted : List Entry) (o : Outcome) : Type 0 where
    pub plan : IsPlan parts
    pub holds : HomeAs parts home posted
    pub in_order : tickets_of posted ≡ range_with_len 0 (length posted)
    pub of_todo : (id : ℕ) → times id (ids_of posted) ≤ times id parts.todo
    pub due : AreDue parts posted
    pub right : o ≡ found parts.job o.id
    pub to_do : 0 < times o.id parts.todo
    pub unposted : times o.id (ids_of posted) ≡ 0

  -- the outcome was posted: its entry is the next one, marked only if a save was due
  pub record HasTurned (parts : Parts) (home : RunState C) (posted : List Entry) (o : Outcome) (saved : Bool) : Type 0 where
    pub holds : HomeAs parts home (posted ++ post_of (length posted) o.id saved ∷ [])
    pub due : saved ≡ true → is_due parts.save_every (post_of (length posted) o.id saved) ≡ true
