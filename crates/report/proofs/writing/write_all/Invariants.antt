use Rattle.std.proofs.Common.{length, take, ◌-◌, ◌≡◌, ◌≤◌}
use Rattle.std.specs.Io.KnownBytes.{Appends}
use Rattle.report.proofs.writing.write_all.Given as goal

abbrev pub invariant-turns : goal.invariant-turns
invariant-turns g l =
    (l.at ≤ length l.text) × Appends (g.K.Sink.state l.initial.out).bytes (g.K.Sink.state l.out).bytes (take l.at l.text)
    × ((g.K.Sink.state l.out).faults ≡ (g.K.Sink.state l.initial.out).faults)

abbrev pub decreases-turns : goal.decreases-turns
decreases-turns g l = length l.text - l.at
