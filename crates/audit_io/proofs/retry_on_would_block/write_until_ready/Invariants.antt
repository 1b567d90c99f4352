use Rattle.std.proofs.Common.{◌≡◌, length}
use Rattle.std.specs.Io.KnownBytes.{Keeps}
use Rattle.audit_io.proofs.retry_on_would_block.write_until_ready.Given as goal

abbrev pub invariant-loop : goal.invariant-loop
invariant-loop g l = (length l.bytes ≡ length l.initial.bytes) × Keeps (g.T.Write.contents l.initial.to) (g.T.Write.contents l.to)
