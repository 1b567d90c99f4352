use Rattle.std.proofs.Common.{arith}
use Rattle.audit_start.proofs.Streams.{reads_too_many}
use Rattle.audit_start.proofs.reading.read_source.Goals as goal

pub returns : goal.returns
returns g c = reads_too_many _ _ c.turns.bytes.items c.turns.invariant.1 (omega arith) c.turns.invariant.2
