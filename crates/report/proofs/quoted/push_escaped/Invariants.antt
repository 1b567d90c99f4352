use Rattle.json.specs.Print.{escape_byte}
use Rattle.report.proofs.Pieces.{ArePieces}
use Rattle.report.proofs.quoted.push_escaped.Given as goal

abbrev pub invariant-loop-byte : goal.invariant-loop-byte
invariant-loop-byte l = ArePieces escape_byte l.bytes l.byte-index l.fn.out l.out
