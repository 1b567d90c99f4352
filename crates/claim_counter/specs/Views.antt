-- The rule of the counter's table, and the effect of each step.
use Rattle.std.specs.Prelude.{◌≡◌, true, ℕ, ◌+◌, ◌-◌, ◌<◌, ◌≤◌, map, length, slice_index}
use mathlib.Core.Option.{some}
use lib.ListN.{get_elem?}
use Rattle.atomic_table.specs.Table.{State, Me, Step}
use Rattle.claim_counter.specs.declared.record.PassRecord.{PassRecord}
use Rattle.claim_counter.specs.declared.record.View.{View}
use Rattle.claim_counter.specs.declared.record.Size.{Size}
use Rattle.claim_counter.specs.Records.{AreCounted, fresh, spent, with_claim, at_end, with_less_spare, joined_passes, AreDifferentBelow, AreAllBelow}
use Rattle.audit_model.specs.Times.{times}

-- the pass has all `seats` seats: no other pass exists
abbrev pub HasAllSeats : ℕ → PassRecord → Type 0
HasAllSeats seats p = p.weight + p.spare ≡ seats

abbrev pub view : Size → PassRecord → View
view size p = record { size = size; own = p }

abbrev pub record_of : View → PassRecord
record_of v = v.own

-- the rule of the table: one word that counts the draws, and passes that know the counter's size
pub record IsCounterState (size : Size) (s : State (Unit {0}) View) : Type 0 where
  pub one_word : length s.words ≡ 1
  pub counted : AreCounted size.limit size.seats (slice_index s.words 0) (map record_of s.views)
  pub sizes : (i : ℕ) (v : View) → get_elem? s.views i ≡ some v → 0 < v.own.weight → v.size ≡ size

abbrev pub initial_view : Size → View
initial_view size = view size (fresh (size.seats - 1))

abbrev pub no_size : Size
no_size = record { limit = 0; seats = 0 }

-- a draw gives a number below the limit that the pass did not have, or ends the pass. A pass with all seats has then
-- drawn all numbers.
pub record DrawsNumber (st : Step (Unit {0})) (me : Me (Unit {0}) View) (found : ℕ) (me' : Me (Unit {0}) View) : Type 0 where
  pub slots : me'.1 ≡ me.1
  pub size : me'.0.size ≡ me.0.size
  pub number : found < me.0.size.limit → (me'.0.own ≡ with_claim found me.0.own) × (times found me.0.own.claims ≡ 0)
  pub ends : me.0.size.limit ≤ found → me'.0.own ≡ at_end me.0.own
  pub different : AreDifferentBelow me.0.size.limit me'.0.own.claims
  pub few : length me'.0.own.claims ≤ me.0.size.limit
  pub all : me.0.size.limit ≤ found → HasAllSeats me.0.size.seats me.0.own → AreAllBelow me.0.size.limit me'.0.own.claims

abbrev pub split_view : View → View
split_view v = view v.size (with_less_spare v.own)

abbrev pub new_view : View → View
new_view v = view v.size (fresh 0)

abbrev pub both_view : View → View → View
both_view v w = view v.size (joined_passes v.own w.own)

abbrev pub gone_view : View
gone_view = view no_size spent

-- a look changes nothing. The pass has at most all seats. With all seats and its end it has drawn all numbers.
pub record LooksAtCount (st : Step (Unit {0})) (me : Me (Unit {0}) View) (found : ℕ) (me' : Me (Unit {0}) View) : Type 0 where
  pub same : me' ≡ me
  pub seats : me.0.own.weight + me.0.own.spare ≤ me.0.size.seats
  pub different : AreDifferentBelow me.0.size.limit me.0.own.claims
  pub all : HasAllSeats me.0.size.seats me.0.own → me.0.own.ended ≡ true → AreAllBelow me.0.size.limit me.0.own.claims
