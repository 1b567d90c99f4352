-- The knowledge of a pass at a desk.
use Rattle.std.specs.Prelude.{ℕ, List, [], ◌∷◌, Option, None}
use Rattle.claim_counter.specs.declared.record.PassRecord.{PassRecord}
use Rattle.claim_counter.specs.Records.{spent}
use Rattle.tally_desk.specs.declared.entry.Entry.{Entry}
use Rattle.tally_desk.specs.Parts.{Parts}

-- a pass has no ticket, waits with a ticket for the post of an id, or is in its turn with both and knows all posts by
-- rising ticket
pub data Turn : Type 0 where
  no_turn : Turn
  waiting : ℕ → ℕ → Turn
  in_turn : ℕ → ℕ → List Entry → Turn

-- the desk's constants, absent once the pass was joined to another, then the pass's record at the counter, its posts,
-- and its turn
pub record PassView : Type 0 where
  pub parts : Option Parts
  pub own : PassRecord
  pub entries : List Entry
  pub turn : Turn

-- the tickets and the ids of a turn
abbrev pub turn_tickets : Turn → List ℕ
turn_tickets no_turn = []
turn_tickets (waiting t i) = t ∷ []
turn_tickets (in_turn t i l) = t ∷ []

abbrev pub turn_ids : Turn → List ℕ
turn_ids no_turn = []
turn_ids (waiting t i) = i ∷ []
turn_ids (in_turn t i l) = i ∷ []

-- a pass that was joined to another
abbrev pub spent_view : PassView
spent_view = record { parts = None; own = spent; entries = []; turn = no_turn }

-- the only view of a badge
abbrev pub view_in : List PassView → PassView
view_in [] = spent_view
view_in (v ∷ vs) = v
