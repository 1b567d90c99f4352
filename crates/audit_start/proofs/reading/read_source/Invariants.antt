use Rattle.std.proofs.Common.{◌≡◌, ◌-◌, ◌≤◌, length}
use Rattle.std.specs.Io.KnownBytes.{Consumes}
use Rattle.audit_start.proofs.reading.read_source.Given as goal

abbrev pub invariant-turns : goal.invariant-turns
invariant-turns g l =
    (length l.bytes.items ≤ 67108865) × Consumes (g.S.Source.state l.initial.source).bytes (g.S.Source.state l.source).bytes l.bytes.items
    × ((g.S.Source.state l.source).faults ≡ (g.S.Source.state l.initial.source).faults)

abbrev pub decreases-turns : goal.decreases-turns
decreases-turns g l = 67108865 - length l.bytes.items
