use Rattle.std.proofs.Common.{arith}
use Rattle.report.proofs.Longest.{length-source_line}
use Rattle.report.proofs.room.source_room.Goals as goal

pub returns-clause-enough : goal.returns-clause-enough
returns-clause-enough c = let line = length-source_line c.args.origin.now in omega (arith, line, c.digest_len.ensures.value)
