-- The events of each step of a desk.
use Rattle.std.specs.Prelude.{◌≡◌, ℕ, ◌+◌, ◌<◌, ◌≤◌, Bool, true, false, List, [], ◌∷◌, ◌++◌, length, slice_index, slice_set, Some}
use mathlib.Core.Option as maybe
use lib.ListN.{get_elem?}
use Rattle.atomic_table.specs.Table.{State}
use Rattle.audit_model.specs.declared.outcome.Event.{Event}
use Rattle.audit_model.specs.declared.outcome.Event.TheVariants.{Claim, Post, Save}
use Rattle.audit_model.specs.Machine.{Machine, state_after}
use Rattle.audit_model.specs.Times.{times}
use Rattle.claim_counter.specs.Records.{with_claim}
use Rattle.tally_desk.specs.declared.entry.Entry.{Entry}
use Rattle.tally_desk.specs.declared.state.RunState.{RunState}
use Rattle.tally_desk.specs.Desks.{CanPost, Tallied, ended_view, joined_view, left_view, right_view, with_entry, with_own, with_turn}
use Rattle.tally_desk.specs.Entries.{post_of, is_due}
use Rattle.tally_desk.specs.MachineStates.{machine_of}
use Rattle.tally_desk.specs.Parts.{Parts}
use Rattle.tally_desk.specs.Views.{PassView, in_turn, no_turn, spent_view, waiting}

-- ---- the steps

-- the events of a post: a post under the name of its place, and a save if it is marked
abbrev pub post_events : ℕ → Bool → List Event
post_events place false = Post place ∷ []
post_events place true = Post place ∷ Save ∷ []

module _ {C : Type 0} (HomeAs : Parts → RunState C → List Entry → Type 0) (parts : Parts) where
  -- the machine matches the state of the desk
  pub record StandsForMachine (s : State (RunState C) PassView) (m : Machine) : Type 0 where
    pub rule : Tallied HomeAs parts s
    pub is : m ≡ machine_of parts (slice_index s.words 0) rule.posted

  -- the state after the words, the slot and the views have changed
  abbrev pub becomes : List ℕ → List (maybe.Option (RunState C)) → List PassView → State (RunState C) PassView
  becomes words homes views = record { words = words; homes = homes; views = views }

  -- The kinds of step of a pass in use after these posts, with the state after each and its events.
  pub data IsDeskStep (s : State (RunState C) PassView) (posted : List Entry) : State (RunState C) PassView → List Event → Type 0 where
    -- a draw of the next place
    claims : (id : ℕ) (v : PassView) → get_elem? s.views id ≡ maybe.some v → v.parts ≡ Some parts → 0 < v.own.weight
        → slice_index s.words 0 < length parts.todo
        → IsDeskStep s posted (becomes (slice_set s.words 0 (slice_index s.words 0 + 1)) s.homes (slice_set s.views id (with_own v (with_claim (slice_index s.words 0) v.own))))
        (Claim (slice_index s.words 0) ∷ [])
    -- a draw past the end
    ends : (id : ℕ) (v : PassView) → get_elem? s.views id ≡ maybe.some v → v.parts ≡ Some parts → 0 < v.own.weight → v.own.ended ≡ false
        → length parts.todo ≤ slice_index s.words 0
        → IsDeskStep s posted (becomes (slice_set s.words 0 (slice_index s.words 0 + 1)) s.homes (slice_set s.views id (ended_view v))) []
    -- a ticket for a post
    takes_ticket : (id : ℕ) (v : PassView) (o : ℕ) → get_elem? s.views id ≡ maybe.some v → CanPost parts v o
        → IsDeskStep s posted (becomes (slice_set s.words 1 (slice_index s.words 1 + 1)) s.homes (slice_set s.views id (with_turn v (waiting (slice_index s.words 1) o)))) []
    -- a read of the served ticket, which is not the pass's own
    looks : IsDeskStep s posted s []
    -- the read that begins a turn: the pass learns all posts and takes the slot
    begins : (id : ℕ) (v : PassView) (i : ℕ) → get_elem? s.views id ≡ maybe.some v → v.parts ≡ Some parts → 0 < v.own.weight
        → v.turn ≡ waiting (slice_index s.words 2) i
        → IsDeskStep s posted (becomes s.words (slice_set s.homes 0 maybe.none) (slice_set s.views id (with_turn v (in_turn (slice_index s.words 2) i posted)))) []
    -- the end of a turn: it becomes a post of the id claimed at this place, and the slot goes home
    serves : (id : ℕ) (v : PassView) (i place : ℕ) (l : List Entry) (y : RunState C) (saved : Bool) → get_elem? s.views id ≡ maybe.some v → v.parts ≡ Some parts → 0 < v.own.weight
        → v.turn ≡ in_turn (slice_index s.words 2) i l → 0 < times place v.own.claims → i ≡ slice_index parts.todo place
        → HomeAs parts y (l ++ post_of (slice_index s.words 2) i saved ∷ [])
        → (saved ≡ true → is_due parts.save_every (post_of (slice_index s.words 2) i saved) ≡ true)
        → IsDeskStep s posted (becomes (slice_set s.words 2 (slice_index s.words 2 + 1)) (maybe.some y ∷ []) (slice_set s.views id (with_entry v (post_of (slice_index s.words 2) i saved))))
        (post_events place saved)
    -- a pass is split
    splits : (id : ℕ) (v : PassView) → get_elem? s.views id ≡ maybe.some v → v.parts ≡ Some parts → 0 < v.own.weight → 0 < v.own.spare
        → IsDeskStep s posted (becomes s.words s.homes (slice_set s.views id (left_view v) ++ right_view v ∷ [])) []
    -- two passes are joined
    joins : (id : ℕ) (v : PassView) (other : ℕ) (w : PassView) → get_elem? s.views id ≡ maybe.some v → ¬ (other ≡ id) → get_elem? s.views other ≡ maybe.some w
        → v.parts ≡ Some parts → 0 < v.own.weight → 0 < w.own.weight → v.turn ≡ no_turn → w.turn ≡ no_turn
        → IsDeskStep s posted (becomes s.words s.homes (slice_set (slice_set s.views id (joined_view v w)) other spent_view)) []

  -- the law that each step keeps the rule, and takes the matching machine to the machine after its events
  abbrev pub StepsAreEvents : Type 0
  StepsAreEvents = (s s' : State (RunState C) PassView) (events : List Event) (m : Machine) (stands : StandsForMachine s m) → IsDeskStep s stands.rule.posted s' events → StandsForMachine s' (state_after m events)
