-- The rule of a desk's table, and the effect of each step. Word 0 counts the draws, and word 1 counts the tickets given
-- out. Word 2 is the ticket that is served, which is the number of posts. The one slot holds the book and the keeper.
use Rattle.std.specs.Prelude.{◌≡◌, ◌≢◌, ◌⊎◌, ℕ, ◌+◌, ◌-◌, ◌<◌, ◌≤◌, Bool, true, List, [], ◌∷◌, ◌++◌, map, length, slice_index, sum_by, All, Some}
use Rattle.std.specs.List.{range_with_len}
use mathlib.Core.Option as maybe
use lib.ListN.{get_elem?}
use Rattle.atomic_table.specs.Table.{State, Me, Step}
use Rattle.claim_counter.specs.declared.record.PassRecord.{PassRecord}
use Rattle.claim_counter.specs.Records.{fresh, with_claim, at_end, with_less_spare, joined_passes, AreCounted, IsSole}
use Rattle.tally_desk.specs.declared.entry.Entry.{Entry}
use Rattle.tally_desk.specs.declared.state.RunState.{RunState}
use Rattle.tally_desk.specs.Entries.{ids_of, tickets_of, is_due, post_of}
use Rattle.tally_desk.specs.MachineStates.{HasHistory}
use Rattle.tally_desk.specs.Parts.{Parts, IsPlan}
use Rattle.tally_desk.specs.Views.{PassView, Turn, no_turn, waiting, in_turn, turn_tickets, turn_ids, spent_view}
use Rattle.audit_model.specs.Times.{times, once_below}

-- ---- counts over a view

-- 1 if the pass has its turn, else 0
abbrev pub holding : Turn → ℕ
holding no_turn = 0
holding (waiting t i) = 0
holding (in_turn t i l) = 1

abbrev pub own_of : PassView → PassRecord
own_of v = v.own

abbrev pub entry_sum : (Entry → ℕ) → PassView → ℕ
entry_sum h v = sum_by h v.entries

abbrev pub waiting_at : ℕ → PassView → ℕ
waiting_at t v = times t (turn_tickets v.turn)

abbrev pub turn_count : PassView → ℕ
turn_count v = length (turn_tickets v.turn)

abbrev pub is_in_turn : PassView → ℕ
is_in_turn v = holding v.turn

-- the ids at these places of the list
abbrev pub ids_at : List ℕ → List ℕ → List ℕ
ids_at todo places = map (λ p. slice_index todo p) places

-- the ids that the pass claimed
abbrev pub claimed_ids : Parts → PassView → List ℕ
claimed_ids parts v = ids_at parts.todo v.own.claims

-- the ids that the pass has posted or is posting
abbrev pub posting : PassView → List ℕ
posting v = ids_of v.entries ++ turn_ids v.turn

-- ---- the rule

-- a pass in its turn has the ticket that is served, and knows all posts
abbrev pub KnowsPosts : ℕ → List Entry → Turn → Type 0
KnowsPosts served posted no_turn = Unit {0}
KnowsPosts served posted (waiting t i) = Unit {0}
KnowsPosts served posted (in_turn t i l) = (t ≡ served) × (l ≡ posted)

-- a pass in use knows the desk's constants, and posts each id that it claimed at most once
pub record IsInUse (parts : Parts) (served : ℕ) (posted : List Entry) (v : PassView) : Type 0 where
  pub fixed : v.parts ≡ Some parts
  pub weighs : 0 < v.own.weight
  pub claimed : (id : ℕ) → times id (posting v) ≤ times id (claimed_ids parts v)
  pub knows : KnowsPosts served posted v.turn

abbrev pub FitsDesk : Parts → ℕ → List Entry → PassView → Type 0
FitsDesk parts served posted v = (v ≡ spent_view) ⊎ IsInUse parts served posted v

-- an entry is marked only if a save was due with it
abbrev pub AreDue : Parts → List Entry → Type 0
AreDue parts posted = All (λ e. e.saved ≡ true → is_due parts.save_every e ≡ true) posted

module _ {C : Type 0} (HomeAs : Parts → RunState C → List Entry → Type 0) where
  -- `drawn`, `given` and `served` are the words, `posted` has the posts of all passes by rising ticket, and `views`
  -- every view that ever existed
  pub record KeepsTally (parts : Parts) (drawn given served : ℕ) (posted : List Entry) (homes : List (maybe.Option (RunState C))) (views : List PassView) : Type 0 where
    pub plan : IsPlan parts
    -- the draws
    pub counted : AreCounted (length parts.todo) parts.seats drawn (map own_of views)
    -- the posts
    pub in_order : tickets_of posted ≡ range_with_len 0 served
    pub posts : (h : Entry → ℕ) → sum_by (entry_sum h) views ≡ sum_by h posted
    pub due : AreDue parts posted
    -- each ticket below the served one has its post, and each other ticket given out has its turn
    pub within : served ≤ given
    pub tickets : (t : ℕ) → sum_by (waiting_at t) views + once_below t served ≡ once_below t given
    pub turns : served + sum_by turn_count views ≡ given
    -- the passes
    pub each : (i : ℕ) (v : PassView) → get_elem? views i ≡ maybe.some v → FitsDesk parts served posted v
    -- if no pass is in its turn, the slot is home
    pub home : sum_by is_in_turn views ≡ 0 → (y : RunState C) × (homes ≡ maybe.some y ∷ []) × HomeAs parts y posted

  -- the rule of the table. At any moment the desk matches a run machine after claims, posts and saves.
  pub record Tallied (parts : Parts) (s : State (RunState C) PassView) : Type 0 where
    pub three_words : length s.words ≡ 3
    pub one_slot : length s.homes ≡ 1
    pub posted : List Entry
    pub tallied : KeepsTally parts (slice_index s.words 0) (slice_index s.words 1) (slice_index s.words 2) posted s.homes s.views
    pub history : HasHistory parts (slice_index s.words 0) posted

-- ---- views after steps

abbrev pub with_turn : PassView → Turn → PassView
with_turn v turn = record v { turn = turn }

abbrev pub with_entry : PassView → Entry → PassView
with_entry v e = record v { entries = v.entries ++ e ∷ []; turn = no_turn }

abbrev pub with_own : PassView → PassRecord → PassView
with_own v own = record v { own = own }

abbrev pub first_view : Parts → PassView
first_view parts = record { parts = Some parts; own = fresh (parts.seats - 1); entries = []; turn = no_turn }

abbrev pub left_view : PassView → PassView
left_view v = with_own v (with_less_spare v.own)

abbrev pub right_view : PassView → PassView
right_view v = record { parts = v.parts; own = fresh 0; entries = []; turn = no_turn }

abbrev pub joined_view : PassView → PassView → PassView
joined_view v w = record { parts = v.parts; own = joined_passes v.own w.own; entries = v.entries ++ w.entries; turn = no_turn }

abbrev pub ended_view : PassView → PassView
ended_view v = with_own v (at_end v.own)

-- ---- the knowledge of a pass

-- the id is claimed and not posted, and the pass has no ticket
pub record CanPost (parts : Parts) (v : PassView) (id : ℕ) : Type 0 where
  pub fixed : v.parts ≡ Some parts
  pub weighs : 0 < v.own.weight
  pub idle : v.turn ≡ no_turn
  pub unposted : times id (ids_of v.entries) ≡ 0
  pub claimed : 0 < times id (claimed_ids parts v)

-- the pass waits with a ticket
pub record IsWaiting (parts : Parts) (t i : ℕ) (v : PassView) : Type 0 where
  pub fixed : v.parts ≡ Some parts
  pub weighs : 0 < v.own.weight
  pub turn : v.turn ≡ waiting t i

-- a post of the id may follow these posts. Their tickets are their places, and their ids are different ids to do,
-- without this one. Only those with which a save was due are marked.
pub record AwaitsPost (parts : Parts) (t i : ℕ) (posted : List Entry) : Type 0 where
  pub plan : IsPlan parts
  pub in_order : tickets_of posted ≡ range_with_len 0 t
  pub of_todo : (id : ℕ) → times id (ids_of posted) ≤ times id parts.todo
  pub due : AreDue parts posted
  pub to_do : 0 < times i parts.todo
  pub unposted : times i (ids_of posted) ≡ 0

module _ {C : Type 0} where
  -- the pass is in its turn and has the slot
  pub record IsInTurn (HomeAs : Parts → RunState C → List Entry → Type 0) (parts : Parts) (t i : ℕ) (me : Me (RunState C) PassView) : Type 0 where
    pub fixed : me.0.parts ≡ Some parts
    pub weighs : 0 < me.0.own.weight
    pub home : RunState C
    pub posted : List Entry
    pub turn : me.0.turn ≡ in_turn t i posted
    pub slots : me.1 ≡ (0, home) ∷ []
    pub holds : HomeAs parts home posted
    pub awaits : AwaitsPost parts t i posted

  -- ---- the effect of the steps

  -- the pass takes a ticket for a post of this id
  pub record TakesTicket (id : ℕ) (st : Step (RunState C)) (me : Me (RunState C) PassView) (found : ℕ) (me' : Me (RunState C) PassView) : Type 0 where
    pub slots : me'.1 ≡ me.1
    pub view : me'.0 ≡ with_turn me.0 (waiting found id)

  -- an attempt to take a ticket: it succeeds if the number of tickets given out is the expected one, and otherwise
  -- changes nothing
  pub record AttemptsTicket (id : ℕ) (st : Step (RunState C)) (me : Me (RunState C) PassView) (found : ℕ) (me' : Me (RunState C) PassView) : Type 0 where
    pub takes : found ≡ st.first → TakesTicket id st me found me'
    pub misses : found ≢ st.first → me' ≡ me

  -- the turn begins: the pass takes the slot
  pub record BeginsTurn (HomeAs : Parts → RunState C → List Entry → Type 0) (parts : Parts) (t i : ℕ) (me me' : Me (RunState C) PassView) : Type 0 where
    pub home : RunState C
    pub posted : List Entry
    pub view : me'.0 ≡ with_turn me.0 (in_turn t i posted)
    pub slots : me'.1 ≡ (0, home) ∷ me.1
    pub holds : HomeAs parts home posted
    pub awaits : AwaitsPost parts t i posted

  -- a read of the served ticket, which begins the turn of the pass that waits with it
  pub record LooksForTurn (HomeAs : Parts → RunState C → List Entry → Type 0) (st : Step (RunState C)) (me : Me (RunState C) PassView) (found : ℕ) (me' : Me (RunState C) PassView) : Type 0 where
    pub waits : (parts : Parts) (t i : ℕ) → me.0.parts ≡ Some parts → me.0.turn ≡ waiting t i → found ≢ t → me' ≡ me
    pub begins : (parts : Parts) (t i : ℕ) → me.0.parts ≡ Some parts → me.0.turn ≡ waiting t i → found ≡ t → BeginsTurn HomeAs parts t i me me'

  -- the turn becomes the last entry of the slot's posts, and the slot goes home
  pub record Serves (st : Step (RunState C)) (me : Me (RunState C) PassView) (stored : ℕ) (me' : Me (RunState C) PassView) : Type 0 where
    pub slots : (y : ℕ × RunState C) → me.1 ≡ y ∷ [] → me'.1 ≡ []
    pub view : (k : ℕ) (y : RunState C) (l : List Entry) (e : Entry) → me.1 ≡ (k, y) ∷ [] → y.posted.items ≡ l ++ e ∷ [] → me'.0 ≡ with_entry me.0 e

  -- a draw gives a place and an id that the pass did not have, or ends the pass
  pub record DrawsPlace (st : Step (RunState C)) (me : Me (RunState C) PassView) (found : ℕ) (me' : Me (RunState C) PassView) : Type 0 where
    pub slots : me'.1 ≡ me.1
    pub place : (parts : Parts) → me.0.parts ≡ Some parts → found < length parts.todo
        → (me'.0 ≡ with_own me.0 (with_claim found me.0.own)) × (times (slice_index parts.todo found) (claimed_ids parts me.0) ≡ 0)
    pub ends : (parts : Parts) → me.0.parts ≡ Some parts → length parts.todo ≤ found → me'.0 ≡ ended_view me.0
    pub few : (parts : Parts) → me.0.parts ≡ Some parts → length me'.0.own.claims ≤ length parts.todo

  -- a read of the draws changes nothing. The pass has at most all seats.
  pub record SeesSeats (st : Step (RunState C)) (me : Me (RunState C) PassView) (found : ℕ) (me' : Me (RunState C) PassView) : Type 0 where
    pub same : me' ≡ me
    pub seats : (parts : Parts) → me.0.parts ≡ Some parts → me.0.own.weight + me.0.own.spare ≤ parts.seats
    pub few : me.0.own.weight + me.0.own.spare ≤ 33

  -- the pass has a post of this id, and no ticket
  pub record HasServed (t i : ℕ) (me me' : Me (RunState C) PassView) : Type 0 where
    pub saved : Bool
    pub view : me'.0 ≡ with_entry me.0 (post_of t i saved)
    pub slots : me'.1 ≡ []

  -- ---- the end

  -- the knowledge of the only pass at the end: all posts are its own
  pub record IsRunComplete (HomeAs : Parts → RunState C → List Entry → Type 0) (parts : Parts) (drawn : ℕ) (y : RunState C) (v : PassView) : Type 0 where
    pub plan : IsPlan parts
    pub sole : IsSole (length parts.todo) drawn v.own
    pub posted : List Entry
    pub holds : HomeAs parts y posted
    pub in_order : tickets_of posted ≡ range_with_len 0 (length posted)
    pub own_posts : (h : Entry → ℕ) → sum_by h v.entries ≡ sum_by h posted
    pub due : AreDue parts posted
    pub history : HasHistory parts drawn posted
