-- The state of a run before its first post.
use Rattle.std.specs.Prelude.{◌≡◌, ℕ, ◌+◌, ◌*◌, ◌≤◌, List, [], ◌∷◌, length, vec_capacity}
use Rattle.audit_model.specs.Job.{Job}
use Rattle.audit_model.specs.Room.{RoomyOutcomes}
use Rattle.audit_model.specs.Run.{total}
use Rattle.outcome_book.specs.Booked.{Booked}
use Rattle.tally_desk.specs.declared.state.DeskPlan.{DeskPlan}
use Rattle.tally_desk.specs.declared.state.RunState.{RunState}

module _ {C : Type 0} where
  -- the book, the list and the keeper as passed in, and capacity for the checkpoint of all outcomes
  pub record IsFirstState (job : Job) (plan : DeskPlan) (book : Booked) (sorted : RoomyOutcomes) (keeper : C) (s : RunState C) : Type 0 where
    pub book_is : s.book ≡ book
    pub keeper_is : s.keeper ≡ keeper
    pub sorted_is : s.sorted ≡ sorted
    pub digest_is : s.digest ≡ plan.digest
    pub every_is : s.save_every ≡ plan.save_every
    pub place_is : s.place ≡ plan.place
    pub save_room : 84 + 80 * total job ≤ length s.room.items + s.room.spare

  -- the state as passed in, with nothing posted, and with capacity for `count` posts
  pub record HasNoPosts (count : ℕ) (before now : RunState C) : Type 0 where
    pub book_is : now.book ≡ before.book
    pub keeper_is : now.keeper ≡ before.keeper
    pub digest_is : now.digest ≡ before.digest
    pub every_is : now.save_every ≡ before.save_every
    pub place_is : now.place ≡ before.place
    pub sorted_room : length now.sorted.items + now.sorted.spare ≡ length before.sorted.items + before.sorted.spare
    pub save_room : length now.room.items + now.room.spare ≡ length before.room.items + before.room.spare
    pub none_failed : now.failed_saves ≡ 0
    pub none_posted : now.posted.items ≡ []
    pub entry_room : count ≤ vec_capacity now.posted

-- the list has one element, for which P holds
abbrev pub HoldsOne : {A : Type 0} → List A → (A → Type 0) → Type 0
HoldsOne {A} xs P = (x : A) × (xs ≡ x ∷ []) × P x
