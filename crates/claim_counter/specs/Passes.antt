-- The views of passes and counters that clauses use.
use Rattle.std.specs.Prelude.{◌≡◌}
use Rattle.claim_counter.specs.declared.claims.Claims.{Claims}
use Rattle.claim_counter.specs.declared.pass.Pass.{Pass}
use Rattle.claim_counter.specs.declared.record.PassRecord.{PassRecord}
use Rattle.claim_counter.specs.declared.record.Size.{Size}

-- the history of the pass
abbrev pub own : Pass → PassRecord
own p = p.seat.me.0.own

-- the limit and the number of seats
abbrev pub size_of : Claims → Size
size_of c = c.table.shared.key

-- the pass belongs to this counter
abbrev pub BelongsTo : Claims → Pass → Type 0
BelongsTo c p = (p.seat.table_id ≡ c.table.shared.table_id) × (p.seat.me.0.size ≡ size_of c)
