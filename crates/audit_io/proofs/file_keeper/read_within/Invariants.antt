use Rattle.std.proofs.Common.{◌+◌, ◌-◌, ◌≤◌, length}
use Rattle.std.specs.Io.KnownBytes.{Consumes}
use Rattle.audit_io.proofs.file_keeper.read_within.Given as goal

abbrev pub invariant-pieces : goal.invariant-pieces
invariant-pieces g l =
    (length l.room.items ≤ l.limit + 1) × Consumes (g.T.Read.remaining l.initial.from) (g.T.Read.remaining l.from) l.room.items

abbrev pub decreases-pieces : goal.decreases-pieces
decreases-pieces g l = l.limit + 1 - length l.room.items
